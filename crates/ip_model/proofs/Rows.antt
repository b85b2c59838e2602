-- The left side of a row, term by term.
use Rattle.std.proofs.Common.{◌≡◌, ℕ, ◌+◌, ◌*◌, ◌<◌, ◌≤◌, ◌^◌, refl, ap, arith, List, length, get_or, drop, ℤ, pos, ◌+ℤ◌, ◌*ℤ◌, unsigned_abs, add-one, mul-le-mul, FitsSigned, negsuc, ◌⊎◌, inl, inr, zero, suc, [], ◌∷◌, All, AllPairs, sym, subst}
use borrow.Author.Differences.{up, down}
use Rattle.std.proofs.lemmas.Int.{ints, unsigned_abs-mul, fits_signed_from_abs}
use Rattle.std.proofs.Math.Seq.{drop-cons}
use Rattle.std.specs.Int.{w128}
use Rattle.ip_model.specs.declared.parts.Term.{Term}
use Rattle.ip_model.specs.declared.parts.Line.{Line}
use Rattle.ip_model.specs.declared.program.Program.{Program}
use Rattle.ip_model.specs.Limits.{LineInRange}
use Rattle.ip_model.specs.Sums.{terms_at}
use Rattle.ip_model.proofs.RuleFacts.{program_limits}

unsigned_abs-parts : (z : ℤ) → unsigned_abs z ≡ up z + down z
unsigned_abs-parts (pos n) = omega arith
unsigned_abs-parts (negsuc n) = omega arith

-- one of the two parts of an integer is 0
one_part : (z : ℤ) → (up z ≡ 0) ⊎ (down z ≡ 0)
one_part (pos n) = inr refl
one_part (negsuc n) = inl refl

pub terms_at-drop : (ts : List Term) (x : ℕ → ℕ) (i : ℕ) (d : Term) → i < length ts → terms_at (drop i ts) x ≡ (get_or ts i d).factor *ℤ pos (x (get_or ts i d).column) +ℤ terms_at (drop (i + 1) ts) x
terms_at-drop ts x i d p = rw (add-one, drop-cons ts i d p) refl

-- one more term: of a total so far and what is left, where the code reads the terms as `items`
pub next_term : (ts items : List Term) (x : ℕ → ℕ) (i : ℕ) (d : Term) (total product whole : ℤ) → items ≡ ts → i < length items → total +ℤ terms_at (drop i ts) x ≡ whole → product ≡ (get_or items i d).factor *ℤ pos (x (get_or items i d).column)
    → (total +ℤ product) +ℤ terms_at (drop (i + 1) ts) x ≡ whole
next_term ts items x i d total product whole same p so_far is =
    let step = terms_at-drop ts x i d (omega (arith, ap length same)) in
    let value = rw same at is in
    omega (arith, ints, step, value)

pub product_size : (f g : ℤ) → unsigned_abs f ≤ 2 ^ 31 → unsigned_abs g ≤ 2 ^ 32 → unsigned_abs (f *ℤ g) ≤ 2 ^ 63
product_size f g h k = rw (unsigned_abs-mul f g) (omega (arith, mul-le-mul h k))

pub product_fits : (f g : ℤ) → unsigned_abs (f *ℤ g) ≤ 2 ^ 63 → FitsSigned w128 (f *ℤ g)
product_fits f g h = fits_signed_from_abs w128 (f *ℤ g) (omega arith)

-- a sum of k products, and one more
pub sum_size : (a b : ℤ) (k : ℕ) → unsigned_abs a ≤ k * 2 ^ 63 → unsigned_abs b ≤ 2 ^ 63 → unsigned_abs (a +ℤ b) ≤ (k + 1) * 2 ^ 63
sum_size a b k h p = omega (arith, ints, unsigned_abs-parts a, unsigned_abs-parts b, unsigned_abs-parts (a +ℤ b), one_part (a +ℤ b))

pub sum_fits : (a b : ℤ) (k : ℕ) → k < 2 ^ 32 → unsigned_abs a ≤ k * 2 ^ 63 → unsigned_abs b ≤ 2 ^ 63 → FitsSigned w128 (a +ℤ b)
sum_fits a b k few h p = fits_signed_from_abs w128 (a +ℤ b) (omega (arith, sum_size a b k h p))

-- numbers that rise are each at least their place
rising_at : {X : Type 0} (f : X → ℕ) (xs : List X) (i : ℕ) (d : X) → AllPairs (λ s t. f s < f t) xs → i < length xs → i ≤ f (get_or xs i d)
rising_at f xs zero d rising p = omega arith
rising_at f xs (suc i) d rising p =
    let before = rising_at f xs i d rising (omega arith) in
    let step = rising i (suc i) d (omega arith) p in
    omega (arith, before, step)

-- so there are at most n below n
pub rising_few : {X : Type 0} (f : X → ℕ) (xs : List X) (n : ℕ) → AllPairs (λ s t. f s < f t) xs → All (λ t. f t < n) xs → length xs ≤ n
rising_few f [] n rising below = omega arith
rising_few f (x ∷ xs) n rising below =
    let last = rising_at f (x ∷ xs) (length xs) x rising (omega arith) in
    let end = below (length xs) x (omega arith) in
    omega (arith, last, end)

-- a row of a program has at most 2,048 terms
pub terms_few : (program : Program) (rows : List Line) (i : ℕ) (line : Line) → rows ≡ program.rows → i < length rows → line ≡ get_or rows i line → length line.terms ≤ 2048
terms_few program rows i line same p is =
    let here : line ≡ get_or program.rows i line = rw same at is in
    let in_range = subst (LineInRange program.columns) (sym here) ((program_limits program).rows_in i line (omega (arith, p, ap length same))) in
    omega (arith, rising_few (λ (t : Term). t.column) line.terms (length program.columns) in_range.rising (λ k d q. (in_range.terms k d q).column), (program_limits program).few_columns)

pub product_over_size : (f : ℤ) (n : ℕ) → unsigned_abs f ≤ 1000 → n ≤ 2 ^ 93 → unsigned_abs (f *ℤ pos n) ≤ 2 ^ 103
product_over_size f n h k = rw (unsigned_abs-mul f (pos n)) (omega (arith, mul-le-mul h k))

-- a sum of k numbers of magnitude at most m, and one more
pub sum_size_by : (a b : ℤ) (k m : ℕ) → unsigned_abs a ≤ k * m → unsigned_abs b ≤ m → unsigned_abs (a +ℤ b) ≤ (k + 1) * m
sum_size_by a b k m h p = omega (arith, ints, unsigned_abs-parts a, unsigned_abs-parts b, unsigned_abs-parts (a +ℤ b), one_part (a +ℤ b))

pub sum_over_fits : (a b : ℤ) (k : ℕ) → k < 2048 → unsigned_abs a ≤ k * 2 ^ 103 → unsigned_abs b ≤ 2 ^ 103 → FitsSigned w128 (a +ℤ b)
sum_over_fits a b k few h p = fits_signed_from_abs w128 (a +ℤ b) (omega (arith, sum_size_by a b k (2 ^ 103) h p))
