-- The cells of a pivot: from the contracts of the operations, and to the tableau over one denominator.
use Rattle.std.proofs.Common.{◌≡◌, ℕ, zero, suc, ◌≤◌, ℤ, pos, ◌-ℤ◌, ◌*ℤ◌, ◌<ℤ◌, refl, sym, ap, subst, ◌∙◌, arith, Bool, true, false, ◌==◌, if◌then◌else◌, inl, inr}
use Rattle.std.proofs.lemmas.Int.{ints}
use Rattle.std.proofs.lemmas.Bool.Decides.{eqb_tells}
use Rattle.exact_fraction.specs.declared.fraction.Fraction.{Fraction}
use Rattle.exact_fraction.specs.Sizes.{IsLowest}
use Rattle.exact_fraction.specs.Exact.{IsRatio}
use Rattle.exact_simplex.specs.Tableaus.{Scaled, pivot_of}
use Rattle.exact_simplex.specs.Cells.{number_at}
use Rattle.exact_simplex.specs.Pivots.{CellFits, IsQuotient, IsProduct}
use Rattle.exact_simplex.specs.Changes.{ShareFor, IsTaken, CellFor}
use Rattle.exact_simplex.proofs.Ring.{mul_assoc, mul_comm, none_times, both_ways, less_none, none_less, turn_middle}
use Rattle.exact_simplex.proofs.Order.{above_product}
use Rattle.exact_simplex.proofs.Choice.{factor_none}
use Rattle.exact_simplex.proofs.Cells.{product_cell, difference_cell, quotient_cell}
use Rattle.exact_simplex.proofs.Pivot.{scale_is}

pub den_above : (num den : ℤ) → IsLowest num den → pos 0 <ℤ den
den_above num den h = let e = h.den_is in let s = h.den_above_none in subst (λ z. pos 0 <ℤ z) (sym e) (omega (arith, ints))

pub dens_above : (f g : Fraction) → pos 0 <ℤ (f.den *ℤ g.den)
dens_above f g = above_product f.den g.den (den_above f.num f.den f.lowest) (den_above g.num g.den g.lowest)

-- a share of 0 takes nothing off
pub nothing_taken : (old factor share : Fraction) → share.num ≡ pos 0 → CellFits old factor share → IsTaken old old factor share
nothing_taken old factor share none fits = record {
  scaled = λ a b c d p above_d above_p is_old is_factor is_share.
      let gone : c *ℤ share.den ≡ pos 0 = sym is_share ∙ ap (λ z. z *ℤ p) none ∙ none_times p in
      let zero_c : c ≡ pos 0 = factor_none c share.den (den_above share.num share.den share.lowest) gone in
      sym (mul_assoc old.num d p) ∙ ap (λ z. z *ℤ p) is_old ∙ turn_middle a old.den p ∙ ap (λ z. z *ℤ old.den) (sym (less_none a p b) ∙ ap (λ z. a *ℤ p -ℤ b *ℤ z) (sym zero_c));
  fits = fits;
}

middle : (a d p : ℤ) → (a *ℤ p) *ℤ d ≡ (a *ℤ d) *ℤ p
middle a d p = turn_middle a p d

pub taken_off_cell : (new old factor share change : Fraction) → IsProduct change factor share → IsRatio new.num new.den (old.num *ℤ change.den -ℤ change.num *ℤ old.den) (old.den *ℤ change.den) → CellFits old factor share → IsTaken new old factor share
taken_off_cell new old factor share change is_change is_new fits = record {
  scaled = λ a b c d p above_d above_p is_old is_factor is_share.
      let product = product_cell change.num change.den factor.num factor.den share.num share.den b d c p (dens_above factor share) is_change is_factor is_share in
      let wide : old.num *ℤ (d *ℤ p) ≡ (a *ℤ p) *ℤ old.den = sym (mul_assoc old.num d p) ∙ ap (λ z. z *ℤ p) is_old ∙ turn_middle a old.den p in
      difference_cell new.num new.den old.num old.den change.num change.den (a *ℤ p) (b *ℤ c) (d *ℤ p) (dens_above old change) is_new wide product;
  fits = fits;
}

pub quotient_above : (f g : Fraction) → pos 0 <ℤ g.num → pos 0 <ℤ (f.den *ℤ g.num)
quotient_above f g above = above_product f.den g.num (den_above f.num f.den f.lowest) above

-- the quotient of two numbers over one scale
pub quotient_over : (q f g : Fraction) (a b d : ℤ) → pos 0 <ℤ g.num → pos 0 <ℤ d → IsQuotient q f g → IsRatio f.num f.den a d → IsRatio g.num g.den b d → q.num *ℤ b ≡ a *ℤ q.den
quotient_over q f g a b d some above is is_f is_g = quotient_cell q.num q.den f.num f.den g.num g.den a b d above (quotient_above f g some) is is_f is_g

true_not_false : true ≡ false → ⊥
true_not_false h = cc

plain_one : (z : ℤ) → pos 1 *ℤ z ≡ z
plain_one z = omega (arith, ints)

times_one : (z : ℤ) → z *ℤ pos 1 ≡ z
times_one z = omega (arith, ints)

-- a column is its own
pub own_column : (k : ℕ) → (k == k) ≡ true
own_column k =
    elim (eqb_tells k k) [
      | inl x ↦ x.0
      | inr x ↦ absurd (x.1 refl)
    ]

-- a row after a pivot, over one denominator

pub record Pivoting (n : ℕ) (t : Scaled) (r k : ℕ) (pivot : Fraction) : Type 0 where
  pub scale : 1 ≤ t.scale
  pub above : pos 0 <ℤ t.factor r k
  pub pivot_above : pos 0 <ℤ pivot.num
  pub pivot_is : IsRatio pivot.num pivot.den (t.factor r k) (pos t.scale)

pub pivoting : (n : ℕ) (t : Scaled) (r k : ℕ) (pivot : Fraction) → 1 ≤ t.scale → pos 0 <ℤ t.factor r k → pos 0 <ℤ pivot.num → IsRatio pivot.num pivot.den (t.factor r k) (pos t.scale) → Pivoting n t r k pivot
pivoting n t r k pivot a b c d = record { scale = a; above = b; pivot_above = c; pivot_is = d }

scale_above : (d : ℕ) → 1 ≤ d → pos 0 <ℤ pos d
scale_above d h = omega (arith, ints)

pub is_own : (c k : ℕ) → (c == suc k) ≡ true → c ≡ suc k
is_own c k h =
    elim (eqb_tells c (suc k)) [
      | inl x ↦ x.1
      | inr x ↦ absurd (true_not_false (sym h ∙ x.0))
    ]

not_own : (l k : ℕ) → (suc l == suc k) ≡ false → l ≡ k → ⊥
not_own l k h same = true_not_false (sym (subst (λ (m : ℕ). (suc l == suc m) ≡ true) same (own_column (suc l))) ∙ h)

-- the number of a column other than the pivot's
after_other : (t : Scaled) (r k i c : ℕ) → (c == suc k) ≡ false → number_at (pivot_of t r k) i c ≡ number_at t i c *ℤ t.factor r k -ℤ t.factor i k *ℤ number_at t r c
after_other t r k i zero h = refl
after_other t r k i (suc l) h =
    elim (eqb_tells l k) [
      | inl x ↦ absurd (not_own l k h x.1)
      | inr x ↦ rw x.0 refl
    ]

after_own : (t : Scaled) (r k i c : ℕ) → (c == suc k) ≡ true → number_at (pivot_of t r k) i c ≡ t.factor i k *ℤ pos t.scale
after_own t r k i c h =
    let same : c ≡ suc k = is_own c k h in
    subst (λ m. number_at (pivot_of t r k) i m ≡ t.factor i k *ℤ pos t.scale) (sym same) (rw (own_column k) refl)

pub cell_changed : (n : ℕ) (t : Scaled) (r k i c : ℕ) (pivot new old factor share cell : Fraction) → Pivoting n t r k pivot → (own : Bool) → (c == suc k) ≡ own → ShareFor own share cell pivot → CellFor own new old factor share pivot → IsRatio old.num old.den (number_at t i c) (pos t.scale) → IsRatio factor.num factor.den (t.factor i k) (pos t.scale) → IsRatio cell.num cell.den (number_at t r c) (pos t.scale) → IsRatio new.num new.den (number_at (pivot_of t r k) i c) (pos (pivot_of t r k).scale)
cell_changed n t r k i c pivot new old factor share cell h true own is_share is_new is_old is_factor is_cell =
    let quotient = quotient_over new factor pivot (t.factor i k) (t.factor r k) (pos t.scale) h.pivot_above (scale_above t.scale h.scale) is_new.0 is_factor h.pivot_is in
    ap (λ z. new.num *ℤ z) (scale_is t.scale (t.factor r k) h.above ∙ mul_comm (pos t.scale) (t.factor r k)) ∙ sym (mul_assoc new.num (t.factor r k) (pos t.scale)) ∙ ap (λ z. z *ℤ pos t.scale) quotient ∙ turn_middle (t.factor i k) new.den (pos t.scale) ∙ ap (λ z. z *ℤ new.den) (sym (after_own t r k i c own))
cell_changed n t r k i c pivot new old factor share cell h false own is_share is_new is_old is_factor is_cell =
    let quotient = quotient_over share cell pivot (number_at t r c) (t.factor r k) (pos t.scale) h.pivot_above (scale_above t.scale h.scale) is_share.0 is_cell h.pivot_is in
    let at = is_new.scaled (number_at t i c) (t.factor i k) (number_at t r c) (pos t.scale) (t.factor r k) (scale_above t.scale h.scale) h.above is_old is_factor quotient in
    ap (λ z. new.num *ℤ z) (scale_is t.scale (t.factor r k) h.above) ∙ at ∙ ap (λ z. z *ℤ new.den) (sym (after_other t r k i c own))

pub cell_kept : (n : ℕ) (t : Scaled) (r k i c : ℕ) (pivot old : Fraction) → Pivoting n t r k pivot → t.factor i k ≡ pos 0 → (own : Bool) → (c == suc k) ≡ own → IsRatio old.num old.den (number_at t i c) (pos t.scale) → (own ≡ true → number_at t i c ≡ pos 0) → IsRatio old.num old.den (number_at (pivot_of t r k) i c) (pos (pivot_of t r k).scale)
cell_kept n t r k i c pivot old h none true own is_old gone =
    let zero_num : old.num ≡ pos 0 = factor_none old.num (pos t.scale) (scale_above t.scale h.scale) (is_old ∙ ap (λ z. z *ℤ old.den) (gone refl) ∙ none_times old.den) in
    ap (λ z. z *ℤ pos (pivot_of t r k).scale) zero_num ∙ none_times (pos (pivot_of t r k).scale) ∙ sym (ap (λ z. z *ℤ old.den) (after_own t r k i c own ∙ ap (λ z. z *ℤ pos t.scale) none ∙ none_times (pos t.scale)) ∙ none_times old.den)
cell_kept n t r k i c pivot old h none false own is_old gone =
    ap (λ z. old.num *ℤ z) (scale_is t.scale (t.factor r k) h.above) ∙ sym (mul_assoc old.num (pos t.scale) (t.factor r k)) ∙ ap (λ z. z *ℤ t.factor r k) is_old ∙ turn_middle (number_at t i c) old.den (t.factor r k)
    ∙ ap (λ z. z *ℤ old.den) (sym (after_other t r k i c own ∙ ap (λ z. number_at t i c *ℤ t.factor r k -ℤ z *ℤ number_at t r c) none ∙ none_less (number_at t i c) (t.factor r k) (number_at t r c)))

one_over : (num den s p : ℤ) → num ≡ pos 1 → den ≡ pos 1 → num *ℤ (s *ℤ p) ≡ (p *ℤ s) *ℤ den
one_over num den s p is_num is_den = ap (λ z. z *ℤ (s *ℤ p)) is_num ∙ plain_one (s *ℤ p) ∙ mul_comm s p ∙ sym (times_one (p *ℤ s)) ∙ ap (λ z. (p *ℤ s) *ℤ z) (sym is_den)

pub cell_unit : (n : ℕ) (t : Scaled) (r k c : ℕ) (pivot new : Fraction) → Pivoting n t r k pivot → (own : Bool) → (c == suc k) ≡ own → new.num ≡ (if own then pos 1 else pos 0) → new.den ≡ pos 1 → IsRatio new.num new.den (number_at (pivot_of t r k) r c) (pos (pivot_of t r k).scale)
cell_unit n t r k c pivot new h true own is_num is_den =
    ap (λ z. new.num *ℤ z) (scale_is t.scale (t.factor r k) h.above) ∙ one_over new.num new.den (pos t.scale) (t.factor r k) is_num is_den ∙ ap (λ z. z *ℤ new.den) (sym (after_own t r k r c own))
cell_unit n t r k c pivot new h false own is_num is_den =
    ap (λ z. z *ℤ pos (pivot_of t r k).scale) is_num ∙ none_times (pos (pivot_of t r k).scale) ∙ sym (ap (λ z. z *ℤ new.den) (after_other t r k r c own ∙ both_ways (t.factor r k) (number_at t r c)) ∙ none_times new.den)
