-- Tests of the numbers below a bound.
use Rattle.std.proofs.Common.{◌≡◌, ℕ, zero, suc, ◌+◌, ◌*◌, ◌<◌, ◌≤◌, mul-le-mul, Bool, true, false, cond, take, List, [], ◌∷◌, ◌++◌, length, get_or, arith, ap, ◌∙◌, refl, zero-add}
use Rattle.std.specs.Prelude.{◌&&◌, sum, sum_by, map, max, position, Some, None, nat_lt}
use Rattle.std.specs.List.{list_all, range_with_len, position_or_len}
use Rattle.std.proofs.lemmas.List.Recursion.{and_push, and_fails_at, max_push}
use Rattle.std.proofs.lemmas.List.Sums.{sum_by_push, sum_by-cons, position_or_len_is}
use Rattle.std.proofs.lemmas.List.{take_more}
use Rattle.std.proofs.lemmas.Bool.{lt-ltb, le-ltb}
use Rattle.std.proofs.lemmas.List.FromFn.{length-range_with_len, get_or-range_with_len, sum_by-map-range_with_len_more, map-range_with_len_more}
use Rattle.plan_model.specs.Costs.{greatest}

pub range_with_len-suc : (a n : ℕ) → range_with_len a (suc n) ≡ range_with_len a n ++ (a + n) ∷ []
range_with_len-suc a zero = let same : a ≡ a + 0 = omega arith in ap (λ k. k ∷ []) same
range_with_len-suc a (suc n) =
    let next : a + 1 + n ≡ a + suc n = omega arith in
    ap (λ xs. a ∷ xs) (range_with_len-suc (a + 1) n ∙ ap (λ k. range_with_len (a + 1) n ++ k ∷ []) next)

pub range_more : (n : ℕ) → range_with_len 0 (n + 1) ≡ range_with_len 0 n ++ n ∷ []
range_more n =
    let one : n + 1 ≡ suc n = omega arith in
    let next : 0 + n ≡ n = omega arith in
    ap (range_with_len 0) one ∙ range_with_len-suc 0 n ∙ ap (λ k. range_with_len 0 n ++ k ∷ []) next

-- all numbers below n + 1 pass where all below n do, and n does
pub list_all-range_more : (test : ℕ → Bool) (n : ℕ) → list_all test (range_with_len 0 n) ≡ true → test n ≡ true → list_all test (range_with_len 0 (n + 1)) ≡ true
list_all-range_more test n below here =
    ap (list_all test) (range_more n)
    ∙ and_push (list_all test) test refl (λ _ _. refl) (range_with_len 0 n) n
    ∙ ap (λ b. b && test n) below ∙ here

-- one number that fails
pub list_all-range_fails : (test : ℕ → Bool) (n i : ℕ) → i < n → test i ≡ false → list_all test (range_with_len 0 n) ≡ false
list_all-range_fails test n i within fails =
    let at : get_or (range_with_len 0 n) i 0 ≡ i = get_or-range_with_len 0 n i 0 within ∙ zero-add i in
    let inside : i < length (range_with_len 0 n) = omega (arith, length-range_with_len 0 n) in
    and_fails_at (list_all test) test refl (λ _ _. refl) (range_with_len 0 n) i 0 inside (ap test at ∙ fails)

-- sums over the numbers below a bound
pub sum_by-range_more : (f : ℕ → ℕ) (n : ℕ) → sum_by f (range_with_len 0 (n + 1)) ≡ sum_by f (range_with_len 0 n) + f n
sum_by-range_more f n = ap (sum_by f) (range_more n) ∙ sum_by_push f (range_with_len 0 n) n

pub sum_by-map-range_more : (g h : ℕ → ℕ) (n : ℕ) → sum_by g (map h (range_with_len 0 (n + 1))) ≡ sum_by g (map h (range_with_len 0 n)) + g (h n)
sum_by-map-range_more g h n = sum_by-map-range_with_len_more g h 0 n n (omega arith)

pub greatest-map-range_more : (h : ℕ → ℕ) (n : ℕ) → greatest (map h (range_with_len 0 (n + 1))) ≡ max (greatest (map h (range_with_len 0 n))) (h n)
greatest-map-range_more h n =
    ap greatest (map-range_with_len_more h 0 n n (omega arith)) ∙ max_push greatest (λ x. x) refl (λ _ _. refl) (map h (range_with_len 0 n)) (h n)

-- a product of numbers that are each at most a bound
pub mul-le-bounds : (a b m n : ℕ) → a ≤ m → b ≤ n → a * b ≤ m * n
mul-le-bounds a b m n h k = mul-le-mul h k

-- the largest of a list, one element on, and it is at most the sum
pub greatest_more : (xs : List ℕ) (i : ℕ) → i < length xs → greatest (take (i + 1) xs) ≡ max (greatest (take i xs)) (get_or xs i 0)
greatest_more xs i within = ap greatest (take_more xs i 0 within) ∙ max_push greatest (λ x. x) refl (λ _ _. refl) (take i xs) (get_or xs i 0)

pub greatest-le-sum : (xs : List ℕ) → greatest xs ≤ sum xs
greatest-le-sum [] = omega arith
greatest-le-sum (x ∷ xs) = omega (arith, greatest-le-sum xs, sum_by-cons (λ (n : ℕ). n) x xs)

-- the first place that passes
pub position_at : {X : Type 0} (test : X → Bool) (xs : List X) (i : ℕ) (d : X) → i < length xs → ((k : ℕ) → k < i → test (get_or xs k d) ≡ false)
    → test (get_or xs i d) ≡ true → position test xs ≡ Some i
position_at test xs i d within before here =
    let at : position_or_len test xs ≡ i = position_or_len_is test xs i d (omega arith) before (λ _. here) in
    ap (λ n. cond (nat_lt n (length xs)) (Some n) None) at ∙ ap (λ b. cond b (Some i) None) (lt-ltb i (length xs) within)

pub position_none : {X : Type 0} (test : X → Bool) (xs : List X) (d : X) → ((k : ℕ) → k < length xs → test (get_or xs k d) ≡ false) → position test xs ≡ None
position_none test xs d fails =
    let at : position_or_len test xs ≡ length xs = position_or_len_is test xs (length xs) d (omega arith) fails (λ h. absurd (omega arith)) in
    ap (λ n. cond (nat_lt n (length xs)) (Some n) None) at ∙ ap (λ b. cond b (Some (length xs)) None) (le-ltb (length xs) (length xs) (omega arith))
