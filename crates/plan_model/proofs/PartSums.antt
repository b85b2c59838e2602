-- The units of a reservation in the parts of one level make at most its units.
use Rattle.std.proofs.Common.{◌≡◌, ℕ, zero, suc, ◌+◌, ◌<◌, ◌≤◌, Bool, true, false, cond, List, [], ◌∷◌, ◌++◌, ◌-◌, ◌*◌, min, lit<, take, length, get_or, arith, ap, sym, ◌∙◌, refl, nat_lt, ◌==◌}
use Rattle.std.specs.Prelude.{sum, sum_by, filter, map}
use Rattle.std.specs.List.{range_with_len}
use Rattle.std.specs.Int.{div_ceil}
use Rattle.std.proofs.lemmas.Grind.{div_ceil_times}
use Rattle.std.proofs.lemmas.List.Sums.{sum_by-cons, sum_by-append, sum-map, sum_by-le-sum_by}
use Rattle.std.proofs.lemmas.List.FromFn.{map-range_with_len_more, get_or-map-range_with_len, length-range_with_len}
use Rattle.std.proofs.lemmas.List.{get_or-take, map-append, take_more}
use Rattle.std.proofs.lemmas.Bool.Decides.{nat_tests}
use Rattle.plan_model.specs.declared.cases.Case.{Case}
use Rattle.plan_model.specs.declared.cases.Assignment.{Assignment}
use Rattle.plan_model.specs.declared.levels.Level.{Level}
use Rattle.plan_model.specs.Units.{units, share_of, servers_with_places}
use Rattle.plan_model.specs.Levels.{number_at, units_at, units_in_each}
use Rattle.plan_model.specs.Costs.{excess}
use Rattle.plan_model.proofs.SumLemmas.{sum_by-filter, sum_by-filter-le}
use Rattle.plan_model.proofs.NumberLemmas.{sum_by-range_more}

-- an amount that counts or not
pub cond-le : (b : Bool) (n : ℕ) → cond b n 0 ≤ n
cond-le true n = omega arith
cond-le false n = omega arith

below_or_at : (k n v : ℕ) → cond (nat_lt k n) v 0 + cond (k == n) v 0 ≡ cond (nat_lt k (n + 1)) v 0
below_or_at k n v = grind (arith, nat_tests)

conds : {X : Type 0} (key f : X → ℕ) (n : ℕ) (xs : List X)
    → sum_by (λ x. cond (nat_lt (key x) n) (f x) 0) xs + sum_by (λ x. cond (key x == n) (f x) 0) xs ≡ sum_by (λ x. cond (nat_lt (key x) (n + 1)) (f x) 0) xs
conds key f n [] = refl
conds key f n (x ∷ xs) =
    omega (arith, below_or_at (key x) n (f x), conds key f n xs, sum_by-cons (λ x. cond (nat_lt (key x) n) (f x) 0) x xs, sum_by-cons (λ x. cond (key x == n) (f x) 0) x xs, sum_by-cons (λ x. cond (nat_lt (key x) (n + 1)) (f x) 0) x xs)

-- one part more
pub part_more : {X : Type 0} (key f : X → ℕ) (n : ℕ) (xs : List X)
    → sum_by f (filter (λ x. nat_lt (key x) n) xs) + sum_by f (filter (λ x. key x == n) xs) ≡ sum_by f (filter (λ x. nat_lt (key x) (n + 1)) xs)
part_more key f n xs =
    omega (arith, conds key f n xs, sum_by-filter (λ x. nat_lt (key x) n) f xs, sum_by-filter (λ x. key x == n) f xs, sum_by-filter (λ x. nat_lt (key x) (n + 1)) f xs)

none-below : {X : Type 0} (key f : X → ℕ) (xs : List X) → sum_by f (filter (λ x. nat_lt (key x) 0) xs) ≡ 0
none-below key f [] = refl
none-below key f (x ∷ xs) =
    let no : nat_lt (key x) 0 ≡ false = grind (arith, nat_tests) in
    ap (λ b. sum_by f (cond b (x ∷ filter (λ y. nat_lt (key y) 0) xs) (filter (λ y. nat_lt (key y) 0) xs))) no ∙ none-below key f xs

-- the parts below a number have what stands below it
sum-parts_below : {X : Type 0} (key f : X → ℕ) (xs : List X) (n : ℕ)
    → sum_by (λ m. sum_by f (filter (λ x. key x == m) xs)) (range_with_len 0 n) ≡ sum_by f (filter (λ x. nat_lt (key x) n) xs)
sum-parts_below key f xs zero = sym (none-below key f xs)
sum-parts_below key f xs (suc n) =
    let part : ℕ → ℕ = λ m. sum_by f (filter (λ x. key x == m) xs) in
    let one : suc n ≡ n + 1 = omega arith in
    let here = ap (λ k. sum_by part (range_with_len 0 k)) one ∙ sum_by-range_more part n in
    let below = ap (λ k. sum_by f (filter (λ x. nat_lt (key x) k) xs)) one in
    omega (arith, here, below, sum-parts_below key f xs n, part_more key f n xs)

-- the ranges of numbers, one after the other
pub range-append : (a m n : ℕ) → range_with_len a (m + n) ≡ range_with_len a m ++ range_with_len (a + m) n
range-append a zero n = let none : 0 + n ≡ n = omega arith in let same : a ≡ a + 0 = omega arith in ap (range_with_len a) none ∙ ap (λ k. range_with_len k n) same
range-append a (suc m) n =
    let one : suc m + n ≡ suc (m + n) = omega arith in
    let next : a + 1 + m ≡ a + suc m = omega arith in
    ap (range_with_len a) one ∙ ap (λ xs. a ∷ xs) (range-append (a + 1) m n ∙ ap (λ k. range_with_len (a + 1) m ++ range_with_len k n) next)

-- all that a table has from one number on
pub take_from_reads : (f : ℕ → ℕ) (xs : List ℕ) (first n : ℕ) → n ≤ length xs → ((k : ℕ) → k < n → get_or xs k 0 ≡ f (first + k))
    → take n xs ≡ map f (range_with_len first n)
take_from_reads f xs first zero within reads = refl
take_from_reads f xs first (suc n) within reads =
    let one : suc n ≡ n + 1 = omega arith in
    ap (λ k. take k xs) one
    ∙ take_more xs n 0 (omega arith)
    ∙ ap (λ ys. ys ++ get_or xs n 0 ∷ []) (take_from_reads f xs first n (omega arith) (λ k h. reads k (omega arith)))
    ∙ ap (λ y. map f (range_with_len first n) ++ y ∷ []) (reads n (omega arith))
    ∙ sym (map-range_with_len_more f first n (first + n) refl)
    ∙ ap (λ k. map f (range_with_len first k)) (sym one)

-- what such a table has at one number
pub read_from_take : (f : ℕ → ℕ) (xs : List ℕ) (k : ℕ) → take (k + 1) xs ≡ map f (range_with_len 0 (k + 1)) → get_or xs k 0 ≡ f k
read_from_take f xs k all =
    let within : k < k + 1 = omega arith in
    sym (get_or-take (k + 1) xs k 0 within) ∙ ap (λ ys. get_or ys k 0) all ∙ get_or-map-range_with_len f 0 (k + 1) k k 0 within (omega arith)

-- what stands above a limit is at most the whole
pub excess-le-sum : (limit : ℕ) (xs : List ℕ) → excess limit xs ≤ sum xs
excess-le-sum limit xs = sum_by-le-sum_by (λ n. n - limit) (λ n. n) xs (λ n. omega arith)

pub units_in_each-append : (level : Level) (case : Case) (a : Assignment) (r first m n : ℕ)
    → units_in_each level case a r first (m + n) ≡ units_in_each level case a r first m ++ units_in_each level case a r (first + m) n
units_in_each-append level case a r first m n =
    ap (map (units_at level case a r)) (range-append first m n)
    ∙ map-append (units_at level case a r) (range_with_len first m) (range_with_len (first + m) n)

pub sum-units_in_each-le : (level : Level) (case : Case) (a : Assignment) (r n : ℕ) → sum (units_in_each level case a r 0 n) ≤ units case a r
sum-units_in_each-le level case a r n =
    omega (arith, sum-map (units_at level case a r) (range_with_len 0 n), sum-parts_below (λ s. number_at level s.0) (share_of case r) (servers_with_places case a) n, sum_by-filter-le (λ s. nat_lt (number_at level s.0) n) (share_of case r) (servers_with_places case a))

-- the excess and the sum of two blocks, one after the other
pub excess-blocks : (limit : ℕ) (level : Level) (case : Case) (a : Assignment) (r first n : ℕ)
    → excess limit (units_in_each level case a r 0 (first + n)) ≡ excess limit (units_in_each level case a r 0 first) + excess limit (units_in_each level case a r first n)
excess-blocks limit level case a r first n =
    let zero_first : 0 + first ≡ first = omega arith in
    ap (excess limit) (units_in_each-append level case a r 0 first n)
    ∙ sum_by-append (λ k. k - limit) (units_in_each level case a r 0 first) (units_in_each level case a r (0 + first) n)
    ∙ ap (λ k. excess limit (units_in_each level case a r 0 first) + excess limit (units_in_each level case a r k n)) zero_first

pub sum-blocks : (level : Level) (case : Case) (a : Assignment) (r first n : ℕ)
    → sum (units_in_each level case a r 0 (first + n)) ≡ sum (units_in_each level case a r 0 first) + sum (units_in_each level case a r first n)
sum-blocks level case a r first n =
    let zero_first : 0 + first ≡ first = omega arith in
    ap sum (units_in_each-append level case a r 0 first n)
    ∙ sum_by-append (λ k. k) (units_in_each level case a r 0 first) (units_in_each level case a r (0 + first) n)
    ∙ ap (λ k. sum (units_in_each level case a r 0 first) + sum (units_in_each level case a r k n)) zero_first

-- the numbers below n, block after block
pub block-below : (n block : ℕ) → block < div_ceil n 256 → 256 * block ≤ n
block-below n block within = omega (arith, div_ceil_times n 256 (lit< tt))

pub block-step : (limit : ℕ) (level : Level) (case : Case) (a : Assignment) (r n block over more : ℕ) → 256 * block ≤ n
    → over ≡ excess limit (units_in_each level case a r 0 (min (256 * block) n))
    → over ≤ sum (units_in_each level case a r 0 (min (256 * block) n))
    → more ≡ excess limit (units_in_each level case a r (block * 256) (min 256 (n - block * 256)))
    → more ≤ sum (units_in_each level case a r (block * 256) (min 256 (n - block * 256)))
    → (over + more ≡ excess limit (units_in_each level case a r 0 (min (256 * (block + 1)) n)))
    × (over + more ≤ sum (units_in_each level case a r 0 (min (256 * (block + 1)) n)))
block-step limit level case a r n block over more low was was-le here here-le =
    let start : min (256 * block) n ≡ block * 256 = omega arith in
    let stop : min (256 * (block + 1)) n ≡ block * 256 + min 256 (n - block * 256) = omega arith in
    let excess-to : ℕ → ℕ = λ k. excess limit (units_in_each level case a r 0 k) in
    let sum-to : ℕ → ℕ = λ k. sum (units_in_each level case a r 0 k) in
    let excesses = excess-blocks limit level case a r (block * 256) (min 256 (n - block * 256)) in
    let sums = sum-blocks level case a r (block * 256) (min 256 (n - block * 256)) in (
      ap (λ x. x + more) (was ∙ ap excess-to start) ∙ ap (λ y. excess-to (block * 256) + y) here ∙ sym excesses ∙ sym (ap excess-to stop),
      omega (arith, was-le, here-le, ap sum-to start, ap sum-to stop, sums),
    )

ones : {X : Type 0} (xs : List X) → sum_by (λ _. 1) xs ≡ length xs
ones [] = refl
ones (x ∷ xs) = omega (arith, ones xs, sum_by-cons (λ _. 1) x xs)

all-below : (n : ℕ) (xs : List ℕ) → ((k d : ℕ) → k < length xs → get_or xs k d < n) → sum_by (λ x. cond (nat_lt x n) 1 0) xs ≡ length xs
all-below n [] below = refl
all-below n (x ∷ xs) below =
    let here : x < n = below 0 0 (omega arith) in
    let one : ◌≡◌ {A = ℕ} (cond (nat_lt x n) 1 0) 1 = grind (arith, nat_tests, here) in
    omega (arith, one, all-below n xs (λ k d within. below (suc k) d (omega arith)), sum_by-cons (λ y. cond (nat_lt y n) 1 0) x xs)

at-most_ones : (f : ℕ → ℕ) (xs : List ℕ) → ((m : ℕ) → f m ≤ 1) → sum_by f xs ≤ length xs
at-most_ones f xs each = omega (arith, sum_by-le-sum_by f (λ _. 1) xs each, ones xs)

-- numbers below n, each at most once, are at most n
pub few-once : (n : ℕ) (xs : List ℕ) → ((k d : ℕ) → k < length xs → get_or xs k d < n) → ((m : ℕ) → sum_by (λ x. cond (x == m) 1 0) xs ≤ 1) → length xs ≤ n
few-once n xs below once =
    let parts : ℕ → ℕ = λ m. sum_by (λ _. 1) (filter (λ x. x == m) xs) in
    omega (
      arith,
      sum-parts_below (λ x. x) (λ _. 1) xs n,
      sum_by-filter (λ x. nat_lt x n) (λ _. 1) xs,
      all-below n xs below,
      length-range_with_len 0 n,
      at-most_ones parts (range_with_len 0 n) (λ m. omega (arith, sum_by-filter (λ x. x == m) (λ _. 1) xs, once m)),
    )
