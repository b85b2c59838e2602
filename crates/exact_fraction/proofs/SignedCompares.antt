-- The order of fractions, from their whole parts and rests.
use Rattle.std.proofs.Common.{◌≡◌, ℕ, suc, ◌+◌, ◌%◌, ◌*◌, ◌<◌, ◌≤◌, ℤ, pos, negsuc, ◌+ℤ◌, ◌*ℤ◌, ◌<ℤ◌, ◌≤ℤ◌, unsigned_abs, refl, sym, ap, subst, ◌∙◌, arith, Less, Greater, mul-le-mul}
use Rattle.std.proofs.lemmas.Int.{ints}
use Rattle.std.specs.Int.{int_div_euclid, int_rem_euclid}
use Rattle.std.specs.Ordering.{nat_cmp, int_cmp}
use borrow.Author.Differences.{up, down}
use Rattle.exact_fraction.proofs.Others.{quotient_and_rest}
use Rattle.exact_fraction.proofs.Ring.{difference_of, difference-add, difference-sub, difference-mul, difference-same, nothing}

is_less : (m n : ℤ) → m <ℤ n → Less ≡ int_cmp m n
is_less m n h = grind (arith, ints)

is_greater : (m n : ℤ) → n <ℤ m → Greater ≡ int_cmp m n
is_greater m n h = grind (arith, ints)

same_added : (k : ℤ) (m n : ℕ) → int_cmp (k +ℤ pos m) (k +ℤ pos n) ≡ nat_cmp m n
same_added k m n = grind (arith, ints)

-- a number over den is its whole part and a rest over den
pub record WholeAndRest (num den whole : ℤ) (rest : ℕ) : Type 0 where
  pub is : whole *ℤ den +ℤ pos rest ≡ num
  pub below : rest < unsigned_abs den
  pub den_is : den ≡ pos (unsigned_abs den)

pub whole_and_rest : (num den whole r : ℤ) → den ≡ pos (unsigned_abs den) → 1 ≤ unsigned_abs den → whole ≡ int_div_euclid num den → r ≡ int_rem_euclid num den → unsigned_abs r < unsigned_abs den → pos 0 ≤ℤ r → WholeAndRest num den whole (unsigned_abs r)
whole_and_rest num den whole (negsuc n) is_den some is_whole is_rest below above = absurd (omega (arith, ints))
whole_and_rest num den whole (pos n) is_den some is_whole is_rest below above = record {
  is = ap (λ w. w *ℤ den +ℤ pos n) is_whole ∙ ap (λ w. int_div_euclid num den *ℤ den +ℤ w) is_rest ∙ subst (λ w. int_div_euclid num w *ℤ w +ℤ int_rem_euclid num w ≡ num) (sym is_den) (quotient_and_rest num (unsigned_abs den) some);
  below = below;
  den_is = is_den;
}

parts : (x b p d : ℤ) → (x *ℤ b +ℤ p) *ℤ d ≡ x *ℤ (b *ℤ d) +ℤ p *ℤ d
parts x b p d = rw (difference_of x, difference_of b, difference_of p, difference_of d) (simp (nothing, difference-add, difference-sub, difference-mul) (difference-same _ _ _ _ (omega arith)))

swapped : (y d r b : ℤ) → (y *ℤ d +ℤ r) *ℤ b ≡ y *ℤ (b *ℤ d) +ℤ r *ℤ b
swapped y d r b = rw (difference_of y, difference_of d, difference_of r, difference_of b) (simp (nothing, difference-add, difference-sub, difference-mul) (difference-same _ _ _ _ (omega arith)))

-- over natural denominators
left_is : (a b d x : ℤ) (p : ℕ) → WholeAndRest a b x p → d ≡ pos (unsigned_abs d) → a *ℤ d ≡ x *ℤ (b *ℤ d) +ℤ pos (p * unsigned_abs d)
left_is a b d x p h is = ap (λ z. z *ℤ d) (sym h.is) ∙ parts x b (pos p) d ∙ ap (λ z. x *ℤ (b *ℤ d) +ℤ pos p *ℤ z) is

right_is : (c d b y : ℤ) (r : ℕ) → WholeAndRest c d y r → b ≡ pos (unsigned_abs b) → c *ℤ b ≡ y *ℤ (b *ℤ d) +ℤ pos (r * unsigned_abs b)
right_is c d b y r h is = ap (λ z. z *ℤ b) (sym h.is) ∙ swapped y d (pos r) b ∙ ap (λ z. y *ℤ (b *ℤ d) +ℤ pos r *ℤ z) is

pub by_rests : (a b c d x y : ℤ) (p r : ℕ) → WholeAndRest a b x p → WholeAndRest c d y r → x ≡ y → nat_cmp (p * unsigned_abs d) (r * unsigned_abs b) ≡ int_cmp (a *ℤ d) (c *ℤ b)
by_rests a b c d x y p r h k same =
    sym (same_added (x *ℤ (b *ℤ d)) (p * unsigned_abs d) (r * unsigned_abs b))
    ∙ ap (λ z. int_cmp z (x *ℤ (b *ℤ d) +ℤ pos (r * unsigned_abs b))) (sym (left_is a b d x p h k.den_is))
    ∙ ap (λ z. int_cmp (a *ℤ d) (z *ℤ (b *ℤ d) +ℤ pos (r * unsigned_abs b))) same
    ∙ ap (λ z. int_cmp (a *ℤ d) z) (sym (right_is c d b y r k h.den_is))

same_le : (n : ℕ) → n ≤ n
same_le n = omega arith

one_more : (x y : ℤ) (t : ℕ) → x <ℤ y → (x *ℤ pos t +ℤ pos t) ≤ℤ (y *ℤ pos t)
one_more x y t h =
    let gap : suc (up x + down y) ≤ up y + down x = omega (arith, ints) in
    let wide : suc (up x + down y) * t ≤ (up y + down x) * t = mul-le-mul gap (same_le t) in
    omega (arith, ints, wide)

pub whole_less : (a b c d x y : ℤ) (p r : ℕ) → WholeAndRest a b x p → WholeAndRest c d y r → x <ℤ y → (a *ℤ d) <ℤ (c *ℤ b)
whole_less a b c d x y p r h k less =
    let left = left_is a b d x p h k.den_is in
    let right = right_is c d b y r k h.den_is in
    let product : b *ℤ d ≡ pos (unsigned_abs b * unsigned_abs d) = ap (λ z. z *ℤ d) h.den_is ∙ ap (λ z. pos (unsigned_abs b) *ℤ z) k.den_is in
    let more = one_more x y (unsigned_abs b * unsigned_abs d) less in
    let some : 1 ≤ unsigned_abs d = (let q = k.below in omega arith) in
    let rest : suc p * unsigned_abs d ≤ unsigned_abs b * unsigned_abs d = mul-le-mul h.below (same_le (unsigned_abs d)) in
    let here = ap (λ z. x *ℤ z) product in
    let there = ap (λ z. y *ℤ z) product in
    omega (arith, ints)

pub when_less : (a b c d x y : ℤ) (p r : ℕ) → WholeAndRest a b x p → WholeAndRest c d y r → x <ℤ y → Less ≡ int_cmp (a *ℤ d) (c *ℤ b)
when_less a b c d x y p r h k less = is_less _ _ (whole_less a b c d x y p r h k less)

pub when_greater : (a b c d x y : ℤ) (p r : ℕ) → WholeAndRest a b x p → WholeAndRest c d y r → y <ℤ x → Greater ≡ int_cmp (a *ℤ d) (c *ℤ b)
when_greater a b c d x y p r h k less = is_greater _ _ (whole_less c d a b y x r p k h less)

rest_fits : (z : ℤ) (d : ℕ) → 1 ≤ d → (pos 0 ≤ℤ int_rem_euclid z (pos d)) × (unsigned_abs (int_rem_euclid z (pos d)) < d)
rest_fits (pos a) d h = let p : a % d < d = omega arith in (omega (arith, ints), p)
rest_fits (negsuc a) d h = let p : a % d < d = omega arith in (omega (arith, ints), omega arith)

pub found_of : (num den whole : ℤ) → den ≡ pos (unsigned_abs den) → 1 ≤ unsigned_abs den → whole ≡ int_div_euclid num den → WholeAndRest num den whole (unsigned_abs (int_rem_euclid num den))
found_of num den whole is_den some is_whole =
    let fits = subst (λ w. (pos 0 ≤ℤ int_rem_euclid num w) × (unsigned_abs (int_rem_euclid num w) < unsigned_abs den)) (sym is_den) (rest_fits num (unsigned_abs den) some) in
    whole_and_rest num den whole (int_rem_euclid num den) is_den some is_whole refl fits.1 fits.0

pub four_same : (p b r d p' b' r' d' : ℕ) → p ≡ p' → b ≡ b' → r ≡ r' → d ≡ d' → nat_cmp (p * d) (r * b) ≡ nat_cmp (p' * d') (r' * b')
four_same p b r d p' b' r' d' e f g h = ap (λ (x : ℕ). nat_cmp (x * d) (r * b)) e ∙ ap (λ (x : ℕ). nat_cmp (p' * x) (r * b)) h ∙ ap (λ (x : ℕ). nat_cmp (p' * d') (x * b)) g ∙ ap (λ (x : ℕ). nat_cmp (p' * d') (r' * x)) f
