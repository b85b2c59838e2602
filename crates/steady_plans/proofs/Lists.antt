-- Lists and sums of which one element changes.
use Rattle.std.proofs.Common.{◌≡◌, ℕ, zero, suc, set, ◌+◌, ◌-◌, ◌*◌, ◌<◌, ◌==◌, Bool, true, false, cond, List, [], ◌∷◌, length, get_or, arith, ap, sym, ◌∙◌, refl}
use Rattle.std.specs.Prelude.{sum_by, zip, map, filter, ◌&&◌}
use Rattle.std.specs.List.{list_all}
use Rattle.std.proofs.lemmas.List.{get_or-set_other}
use Rattle.std.proofs.lemmas.Grind.{get_or-set_at}
use Rattle.std.proofs.lemmas.List.Sums.{sum_by-cons, sum_by-set}
use Rattle.std.proofs.lemmas.Slice.Zip.{get_or-zip, length-zip}
use Rattle.std.proofs.lemmas.Bool.{eqb-true, eq-eqb}

pub zip-set : {X Y : Type 0} (xs : List X) (ys : List Y) (i : ℕ) (y : Y) (d : X) → i < length xs → zip xs (set ys i y) ≡ set (zip xs ys) i (get_or xs i d, y)
zip-set [] ys i y d within = absurd (omega arith)
zip-set (x ∷ xs) [] i y d within = refl
zip-set (x ∷ xs) (z ∷ ys) zero y d within = refl
zip-set (x ∷ xs) (z ∷ ys) (suc i) y d within = ap (λ rest. (x, z) ∷ rest) (zip-set xs ys i y d (omega arith))

-- a sum over two lists side by side of which one element changes
pub sum_by-zip_set : {X Y : Type 0} (f : X × Y → ℕ) (xs : List X) (ys : List Y) (i : ℕ) (y : Y) (d : X) (e : Y) → length ys ≡ length xs → i < length xs
    → sum_by f (zip xs (set ys i y)) + f (get_or xs i d, get_or ys i e) ≡ sum_by f (zip xs ys) + f (get_or xs i d, y)
sum_by-zip_set f xs ys i y d e size within =
    let other : i < length ys = omega (arith, size, within) in
    let inside : i < length (zip xs ys) = omega (arith, length-zip xs ys, size, within) in
    omega (arith, ap (sum_by f) (zip-set xs ys i y d within), sum_by-set f (zip xs ys) i (get_or xs i d, y) (d, e) inside, ap f (get_or-zip xs ys i (d, e) within other))

pub map-same : {X Y : Type 0} (f g : X → Y) → ((x : X) → f x ≡ g x) → (xs : List X) → map f xs ≡ map g xs
map-same f g h [] = refl
map-same f g h (x ∷ xs) = ap (λ y. y ∷ map f xs) (h x) ∙ ap (λ ys. g x ∷ ys) (map-same f g h xs)

pub sum-same : {X : Type 0} (f g : X → ℕ) → ((x : X) → f x ≡ g x) → (xs : List X) → sum_by f xs ≡ sum_by g xs
sum-same f g h [] = refl
sum-same f g h (x ∷ xs) = sum_by-cons f x xs ∙ ap (λ n. n + sum_by f xs) (h x) ∙ ap (λ n. g x + n) (sum-same f g h xs) ∙ sym (sum_by-cons g x xs)

pub all-same : {X : Type 0} (f g : X → Bool) → ((x : X) → f x ≡ g x) → (xs : List X) → list_all f xs ≡ list_all g xs
all-same f g h [] = refl
all-same f g h (x ∷ xs) = ap (λ b. b && list_all f xs) (h x) ∙ ap (λ b. g x && b) (all-same f g h xs)

pub sum-of_map : {X Y : Type 0} (f : Y → ℕ) (h : X → Y) (xs : List X) → sum_by f (map h xs) ≡ sum_by (λ x. f (h x)) xs
sum-of_map f h [] = refl
sum-of_map f h (x ∷ xs) = sum_by-cons f (h x) (map h xs) ∙ ap (λ n. f (h x) + n) (sum-of_map f h xs) ∙ sym (sum_by-cons (λ y. f (h y)) x xs)

pub filter-all : {X : Type 0} (xs : List X) → filter (λ _. true) xs ≡ xs
filter-all [] = refl
filter-all (x ∷ xs) = ap (λ ys. x ∷ ys) (filter-all xs)

-- how often a number stands in a list
abbrev pub times : ℕ → List ℕ → ℕ
times r xs = sum_by (λ q. cond (q == r) 1 0) xs

but_one-step : (f g : ℕ → ℕ) (r x s t n : ℕ) (b : Bool) → (x == r) ≡ b → (b ≡ false → f x ≡ g x) → s + n * g r ≡ t + n * f r
    → f x + s + (cond b 1 0 + n) * g r ≡ g x + t + (cond b 1 0 + n) * f r
but_one-step f g r x s t n true e others rest =
    let same = eqb-true x r e in
    omega (arith, ap f same, ap g same, rest)
but_one-step f g r x s t n false e others rest = omega (arith, others refl, rest)

-- two sums whose terms differ at one number alone
pub but_one : (f g : ℕ → ℕ) (r : ℕ) → ((q : ℕ) → (q == r) ≡ false → f q ≡ g q) → (xs : List ℕ) → sum_by f xs + times r xs * g r ≡ sum_by g xs + times r xs * f r
but_one f g r others [] = omega arith
but_one f g r others (x ∷ xs) =
    let step = but_one-step f g r x (sum_by f xs) (sum_by g xs) (times r xs) (x == r) refl (others x) (but_one f g r others xs) in
    let count : times r (x ∷ xs) ≡ cond (x == r) 1 0 + times r xs = sum_by-cons (λ q. cond (q == r) 1 0) x xs in
    ap (λ n. n + times r (x ∷ xs) * g r) (sum_by-cons f x xs)
    ∙ ap (λ n. f x + sum_by f xs + n * g r) count
    ∙ step
    ∙ sym (ap (λ n. g x + sum_by g xs + n * f r) count)
    ∙ sym (ap (λ n. n + times r (x ∷ xs) * f r) (sum_by-cons g x xs))

-- ---- tables: 64 places for each part

cell-by : (cells : List ℕ) (m n r q v : ℕ) (b c : Bool) → (m == n) ≡ b → (r == q) ≡ c → r < 64 → q < 64 → m * 64 + r < length cells
    → get_or (set cells (m * 64 + r) v) (n * 64 + q) 0 ≡ cond b (cond c v (get_or cells (n * 64 + q) 0)) (get_or cells (n * 64 + q) 0)
cell-by cells m n r q v true true e f small few within =
    let first = eqb-true m n e in
    let second = eqb-true r q f in
    let here : n * 64 + q ≡ m * 64 + r = omega (arith, first, second) in
    get_or-set_at cells (m * 64 + r) (n * 64 + q) v 0 here within
cell-by cells m n r q v true false e f small few within =
    let first = eqb-true m n e in
    get_or-set_other cells (m * 64 + r) (n * 64 + q) v 0 (λ same. let second : r ≡ q = omega (arith, first, same) in let clash : true ≡ false = sym (eq-eqb r q second) ∙ f in cc)
cell-by cells m n r q v false c e f small few within =
    get_or-set_other cells (m * 64 + r) (n * 64 + q) v 0 (λ same. let first : m ≡ n = omega (arith, same, small, few) in let clash : true ≡ false = sym (eq-eqb m n first) ∙ e in cc)

-- what a table with other units in one place has in each place
pub cell-set : (cells : List ℕ) (m n r q v : ℕ) → r < 64 → q < 64 → m * 64 + r < length cells
    → get_or (set cells (m * 64 + r) v) (n * 64 + q) 0 ≡ cond (m == n) (cond (r == q) v (get_or cells (n * 64 + q) 0)) (get_or cells (n * 64 + q) 0)
cell-set cells m n r q v small few within = cell-by cells m n r q v (m == n) (r == q) refl refl small few within

module _ (cells : List ℕ) (count m r v : ℕ) (before after : ℕ → ℕ → ℕ) (size : length cells ≡ count * 64) (there : m < count) (small : r < 64)
    (reads : (n q : ℕ) → n < count → q < 64 → get_or cells (n * 64 + q) 0 ≡ before n q) where
  inside : m * 64 + r < length cells
  inside = omega (arith, size, there, small)

  adds-by : (n q : ℕ) (b c : Bool) → (m == n) ≡ b → (r == q) ≡ c → n < count → q < 64 → after n q ≡ before n q + cond b (cond c v 0) 0
      → cond b (cond c (get_or cells (m * 64 + r) 0 + v) (get_or cells (n * 64 + q) 0)) (get_or cells (n * 64 + q) 0) ≡ after n q
  adds-by n q true true e f within few step =
      let first = eqb-true m n e in
      let second = eqb-true r q f in
      let here : n * 64 + q ≡ m * 64 + r = omega (arith, first, second) in
      omega (arith, step, reads n q within few, ap (λ i. get_or cells i 0) here)
  adds-by n q true false e f within few step = omega (arith, step, reads n q within few)
  adds-by n q false c e f within few step = omega (arith, step, reads n q within few)

  -- units that are added in one place
  pub table-adds : ((n q : ℕ) → after n q ≡ before n q + cond (m == n) (cond (r == q) v 0) 0)
      → (n q : ℕ) → n < count → q < 64 → get_or (set cells (m * 64 + r) (get_or cells (m * 64 + r) 0 + v)) (n * 64 + q) 0 ≡ after n q
  table-adds step n q within few =
      cell-set cells m n r q (get_or cells (m * 64 + r) 0 + v) small few inside ∙ adds-by n q (m == n) (r == q) refl refl within few (step n q)

  takes-by : (n q : ℕ) (b c : Bool) → (m == n) ≡ b → (r == q) ≡ c → n < count → q < 64 → after n q + cond b (cond c v 0) 0 ≡ before n q
      → cond b (cond c (get_or cells (m * 64 + r) 0 - v) (get_or cells (n * 64 + q) 0)) (get_or cells (n * 64 + q) 0) ≡ after n q
  takes-by n q true true e f within few step =
      let first = eqb-true m n e in
      let second = eqb-true r q f in
      let here : n * 64 + q ≡ m * 64 + r = omega (arith, first, second) in
      omega (arith, step, reads n q within few, ap (λ i. get_or cells i 0) here)
  takes-by n q true false e f within few step = omega (arith, step, reads n q within few)
  takes-by n q false c e f within few step = omega (arith, step, reads n q within few)

  -- units that are taken away in one place
  pub table-takes : ((n q : ℕ) → after n q + cond (m == n) (cond (r == q) v 0) 0 ≡ before n q)
      → (n q : ℕ) → n < count → q < 64 → get_or (set cells (m * 64 + r) (get_or cells (m * 64 + r) 0 - v)) (n * 64 + q) 0 ≡ after n q
  table-takes step n q within few =
      cell-set cells m n r q (get_or cells (m * 64 + r) 0 - v) small few inside ∙ takes-by n q (m == n) (r == q) refl refl within few (step n q)
