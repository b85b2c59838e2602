-- A pivot keeps what the tableau stands for and that it is lexicographically positive, and raises the column of values.
use Rattle.std.proofs.Common.{◌≡◌, ℕ, zero, suc, ◌*◌, ◌<◌, ◌≤◌, ℤ, pos, negsuc, ◌+ℤ◌, ◌-ℤ◌, ◌*ℤ◌, ◌<ℤ◌, unsigned_abs, refl, sym, ap, subst, ◌∙◌, arith, if◌then◌else◌, ◌==◌, inl, inr, ◌⊎◌}
use Rattle.std.proofs.lemmas.Int.{ints}
use Rattle.std.proofs.lemmas.Bool.{ne_eqb}
use Rattle.std.proofs.lemmas.Bool.Decides.{eqb_tells}
use Rattle.exact_simplex.specs.Tableaus.{Form, value_at, Scaled, StandsFor, IsPositive, IsFirstAbove, IsPivotPlace, IsRaised, pivot_of}
use Rattle.exact_simplex.proofs.Ring.{mul_comm, both_ways, less_none, none_less, none_times, turned, raise}
use Rattle.exact_simplex.proofs.Order.{above_product, first_above-same, first_above-scale, first_above-add}
use Rattle.exact_simplex.proofs.SumBelow.{sum_below-same}
use Rattle.exact_simplex.proofs.Pivot.{scale_is, keeps_scale, keeps_by_units, value_at-mix, value_at-scale}

abbrev pub cell_after : ℤ → ℤ → ℕ → (ℕ → ℤ) → (ℕ → ℤ) → ℕ → ℤ
cell_after d p k f g l = if l == k then f k *ℤ d else f l *ℤ p -ℤ f k *ℤ g l

-- the new unit row
new_unit : (d p : ℤ) (k : ℕ) (g : ℕ → ℤ) (l : ℕ) → g k ≡ p → cell_after d p k g g l ≡ (if l == k then d *ℤ p else pos 0)
new_unit d p k g l same =
    elim (eqb_tells l k) [
      | inl x ↦ rw (x.0, same) (mul_comm p d)
      | inr x ↦ rw (x.0, same) (both_ways p (g l))
    ]

-- a unit row that stays one
old_unit : (d p : ℤ) (k m : ℕ) (f g : ℕ → ℤ) (l : ℕ) → (m ≡ k → ⊥) → f k ≡ pos 0 → f l ≡ (if l == m then d else pos 0) → cell_after d p k f g l ≡ (if l == m then d *ℤ p else pos 0)
old_unit d p k m f g l other none is =
    elim (eqb_tells l k) [
      | inl x ↦ rw (x.0, none, ne_eqb l m (λ e. other (sym e ∙ x.1))) (none_times d)
      | inr x ↦ rw (x.0, none, is) (elim (eqb_tells l m) [
        | inl y ↦ rw y.0 (none_less d p (g l))
        | inr y ↦ rw y.0 (none_less (pos 0) p (g l) ∙ none_times p)
      ])
    ]

other_none : (m k d : ℕ) → (m ≡ k → ⊥) → (if k == m then pos d else pos 0) ≡ pos 0
other_none m k d other = rw (ne_eqb k m (λ e. other (sym e))) refl

keeps_unit_factor : (n : ℕ) (forms : ℕ → Form) (t : Scaled) (r k : ℕ) → StandsFor n forms t → k < n → pos 0 <ℤ t.factor r k → (m l : ℕ) → m < n → l < n → (pivot_of t r k).factor ((pivot_of t r k).unit m) l ≡ (if l == m then pos (t.scale * unsigned_abs (t.factor r k)) else pos 0)
keeps_unit_factor n forms t r k h there above m l in_m in_l =
    elim (eqb_tells m k) [
      | inl x ↦ rw (x.0, scale_is t.scale (t.factor r k) above) (subst (λ (c : ℕ). cell_after (pos t.scale) (t.factor r k) k (t.factor r) (t.factor r) l ≡ (if l == c then pos t.scale *ℤ t.factor r k else pos 0)) (sym x.1) (new_unit (pos t.scale) (t.factor r k) k (t.factor r) l refl))
      | inr x ↦ rw (x.0, scale_is t.scale (t.factor r k) above) (old_unit (pos t.scale) (t.factor r k) k m (t.factor (t.unit m)) (t.factor r) l x.1 (h.unit_factor m k in_m there ∙ other_none m k t.scale x.1) (h.unit_factor m l in_m in_l))
    ]

keeps_unit_value : (n : ℕ) (forms : ℕ → Form) (t : Scaled) (r k : ℕ) → StandsFor n forms t → k < n → (m : ℕ) → m < n → (pivot_of t r k).value ((pivot_of t r k).unit m) ≡ pos 0
keeps_unit_value n forms t r k h there m in_m =
    elim (eqb_tells m k) [
      | inl x ↦ rw x.0 (both_ways (t.factor r k) (t.value r))
      | inr x ↦ rw (x.0, h.unit_value m in_m, h.unit_factor m k in_m there ∙ other_none m k t.scale x.1) (none_less (pos 0) (t.factor r k) (t.value r) ∙ none_times (t.factor r k))
    ]

value_swap : (n : ℕ) (f : Form) (p q e : ℤ) (step other : ℕ → ℤ) → value_at n f (e *ℤ p) (λ j. step j *ℤ p -ℤ other j *ℤ q) ≡ value_at n f e step *ℤ p -ℤ q *ℤ value_at n f (pos 0) other
value_swap n f p q e step other =
    ap (λ z. z +ℤ f.constant *ℤ (e *ℤ p)) (sum_below-same n _ (λ j. f.slope j *ℤ (step j *ℤ p -ℤ q *ℤ other j)) (λ j h. ap (λ z. f.slope j *ℤ (step j *ℤ p -ℤ z)) (mul_comm (other j) q)))
    ∙ value_at-mix n f p q e step other

keeps_at_value : (n : ℕ) (forms : ℕ → Form) (t : Scaled) (r k : ℕ) → StandsFor n forms t → k < n → pos 0 <ℤ t.factor r k → (i : ℕ) → value_at n (forms i) (pos (t.scale * unsigned_abs (t.factor r k))) (λ j. (pivot_of t r k).value (suc j)) ≡ (pivot_of t r k).value i
keeps_at_value n forms t r k h there above i =
    ap (λ e. value_at n (forms i) e (λ j. (pivot_of t r k).value (suc j))) (scale_is t.scale (t.factor r k) above)
    ∙ value_swap n (forms i) (t.factor r k) (t.value r) (pos t.scale) (λ j. t.value (suc j)) (λ j. t.factor (suc j) k)
    ∙ ap (λ z. z *ℤ t.factor r k -ℤ t.value r *ℤ value_at n (forms i) (pos 0) (λ j. t.factor (suc j) k)) (h.at_value i)
    ∙ ap (λ z. t.value i *ℤ t.factor r k -ℤ t.value r *ℤ z) (h.at_factor i k there)
    ∙ ap (λ z. t.value i *ℤ t.factor r k -ℤ z) (mul_comm (t.value r) (t.factor i k))

keeps_at_factor : (n : ℕ) (forms : ℕ → Form) (t : Scaled) (r k : ℕ) → StandsFor n forms t → k < n → (i l : ℕ) → l < n → value_at n (forms i) (pos 0) (λ j. (pivot_of t r k).factor (suc j) l) ≡ (pivot_of t r k).factor i l
keeps_at_factor n forms t r k h there i l in_l =
    elim (eqb_tells l k) [
      | inl x ↦ rw x.0 (value_at-scale n (forms i) (pos t.scale) (λ j. t.factor (suc j) k) ∙ ap (λ z. z *ℤ pos t.scale) (h.at_factor i k there))
      | inr x ↦ rw x.0 (
          ap (λ e. value_at n (forms i) e (λ j. t.factor (suc j) l *ℤ t.factor r k -ℤ t.factor (suc j) k *ℤ t.factor r l)) (sym (none_times (t.factor r k)))
          ∙ value_swap n (forms i) (t.factor r k) (t.factor r l) (pos 0) (λ j. t.factor (suc j) l) (λ j. t.factor (suc j) k)
          ∙ ap (λ z. z *ℤ t.factor r k -ℤ t.factor r l *ℤ value_at n (forms i) (pos 0) (λ j. t.factor (suc j) k)) (h.at_factor i l in_l)
          ∙ ap (λ z. t.factor i l *ℤ t.factor r k -ℤ t.factor r l *ℤ z) (h.at_factor i k there)
          ∙ ap (λ z. t.factor i l *ℤ t.factor r k -ℤ z) (mul_comm (t.factor r l) (t.factor i k)))
    ]

pub keeps_stands_for : (n : ℕ) (forms : ℕ → Form) (t : Scaled) (r k : ℕ) → StandsFor n forms t → k < n → pos 0 <ℤ t.factor r k → StandsFor n forms (pivot_of t r k)
keeps_stands_for n forms t r k h there above = record {
  scale_above_none = keeps_scale t.scale (t.factor r k) h.scale_above_none above;
  by_units = keeps_by_units n forms t r k h there above;
  unit_value = keeps_unit_value n forms t r k h there;
  unit_factor = keeps_unit_factor n forms t r k h there above;
  at_value = keeps_at_value n forms t r k h there above;
  at_factor = keeps_at_factor n forms t r k h there;
}

-- lexicographic order

either_sign : (z : ℤ) → ((z ≡ pos 0) ⊎ (pos 0 <ℤ (pos 0 -ℤ z))) ⊎ (pos 0 <ℤ z)
either_sign (pos zero) = inl (inl refl)
either_sign (pos (suc n)) = inr (omega (arith, ints))
either_sign (negsuc n) = inl (inr (omega (arith, ints)))

positive_other : (n : ℕ) (t : Scaled) (r k : ℕ) → IsPositive n t → IsPivotPlace n t r k → (l : ℕ) → l < n → (l ≡ k → ⊥) → IsFirstAbove (λ i. t.factor i l *ℤ t.factor r k -ℤ t.factor i k *ℤ t.factor r l)
positive_other n t r k h place l in_l other =
    elim (either_sign (t.factor r l)) [
      | inl (inl none) ↦ first_above-same _ _ (λ i. rw none (sym (less_none (t.factor i l) (t.factor r k) (t.factor i k)))) (first_above-scale (λ i. t.factor i l) (t.factor r k) place.candidate (h.columns l in_l))
      | inl (inr below) ↦ first_above-same _ _ (λ i. sym (turned (t.factor i l) (t.factor r k) (t.factor i k) (t.factor r l))) (first_above-add _ _ (first_above-scale (λ i. t.factor i l) (t.factor r k) place.candidate (h.columns l in_l)) (first_above-scale (λ i. t.factor i k) (pos 0 -ℤ t.factor r l) below (h.columns k place.column)))
      | inr above ↦ place.least l in_l other above
    ]

positive_column : (n : ℕ) (t : Scaled) (r k : ℕ) → IsPositive n t → 1 ≤ t.scale → IsPivotPlace n t r k → (l : ℕ) → l < n → IsFirstAbove (λ i. (pivot_of t r k).factor i l)
positive_column n t r k h some place l in_l =
    elim (eqb_tells l k) [
      | inl x ↦ rw x.0 (first_above-scale (λ i. t.factor i k) (pos t.scale) (omega (arith, ints)) (h.columns k place.column))
      | inr x ↦ rw x.0 (positive_other n t r k h place l in_l x.1)
    ]

pub keeps_positive : (n : ℕ) (t : Scaled) (r k : ℕ) → IsPositive n t → 1 ≤ t.scale → IsPivotPlace n t r k → IsPositive n (pivot_of t r k)
keeps_positive n t r k h some place = record { columns = λ l in_l. positive_column n t r k h some place l in_l }

raised_cell : (t : Scaled) (r k i : ℕ) → pos 0 <ℤ t.factor r k → (t.value i *ℤ t.factor r k -ℤ t.factor i k *ℤ t.value r) *ℤ pos t.scale -ℤ t.value i *ℤ pos (t.scale * unsigned_abs (t.factor r k)) ≡ t.factor i k *ℤ ((pos 0 -ℤ t.value r) *ℤ pos t.scale)
raised_cell t r k i above = rw (scale_is t.scale (t.factor r k) above) (raise (t.value i) (t.factor r k) (t.factor i k) (t.value r) (pos t.scale))

pub raises : (n : ℕ) (t : Scaled) (r k : ℕ) → IsPositive n t → 1 ≤ t.scale → IsPivotPlace n t r k → IsRaised t (pivot_of t r k)
raises n t r k h some place =
    let down : pos 0 <ℤ (pos 0 -ℤ t.value r) = (let b = place.below in omega (arith, ints)) in
    let up : pos 0 <ℤ pos t.scale = omega (arith, ints) in
    first_above-same _ _ (λ i. sym (raised_cell t r k i place.candidate)) (first_above-scale (λ i. t.factor i k) ((pos 0 -ℤ t.value r) *ℤ pos t.scale) (above_product _ _ down up) (h.columns k place.column))
