-- The rows of a tableau after a pivot, over one denominator.
use Rattle.std.proofs.Common.{◌≡◌, ℕ, suc, ◌<◌, ℤ, pos, ◌*ℤ◌, refl, sym, ap, subst, ◌∙◌, arith, Bool, true, false, ◌==◌, List, length, Option, Some, None, unwrap_or, inl, inr}
use Rattle.std.proofs.lemmas.Bool.Decides.{eqb_tells}
use Rattle.exact_fraction.specs.declared.fraction.Fraction.{Fraction}
use Rattle.exact_fraction.specs.Exact.{IsRatio}
use Rattle.exact_simplex.specs.Tableaus.{Scaled, pivot_of}
use Rattle.exact_simplex.specs.Cells.{cell_of, number_at, ShowsRow}
use Rattle.exact_simplex.specs.Changes.{AreShares, IsRowAfter, IsUnitRow, ChangeFor}
use Rattle.exact_simplex.proofs.Ring.{none_times}
use Rattle.exact_simplex.proofs.Choice.{factor_none}
use Rattle.exact_simplex.proofs.CellSteps.{Pivoting, cell_changed, cell_kept, cell_unit, den_above, is_own}

-- a number over a scale is 0 where its fraction is
pub number_none : (f : Fraction) (z d : ℤ) → IsRatio f.num f.den z d → f.num ≡ pos 0 → z ≡ pos 0
number_none f z d is none = factor_none z f.den (den_above f.num f.den f.lowest) (sym is ∙ ap (λ y. y *ℤ d) none ∙ none_times d)

same_number : (i r : ℕ) → (i == r) ≡ true → i ≡ r
same_number i r h =
    elim (eqb_tells i r) [
      | inl x ↦ x.1
      | inr x ↦ absurd (let e = sym h ∙ x.0 in cc)
    ]

unit_shown : (n : ℕ) (t : Scaled) (r k : ℕ) (pivot : Fraction) (row new : List Fraction) → Pivoting n t r k pivot → ShowsRow n row t r → IsUnitRow new (suc k) (length row) → ShowsRow n new (pivot_of t r k) r
unit_shown n t r k pivot row new h shown is =
    let whole : length row ≡ suc n = shown.size in
    record {
      size = is.sized ∙ shown.size;
      numbers = λ c p. cell_unit n t r k c pivot (cell_of new c) h (c == suc k) refl (is.nums c (omega arith)) (is.dens c (omega arith));
    }

kept_shown : (n : ℕ) (t : Scaled) (r k i : ℕ) (pivot : Fraction) (row : List Fraction) → Pivoting n t r k pivot → k < n → ShowsRow n row t i → (cell_of row (suc k)).num ≡ pos 0 → ShowsRow n row (pivot_of t r k) i
kept_shown n t r k i pivot row h there shown none =
    let gone : t.factor i k ≡ pos 0 = number_none (cell_of row (suc k)) (t.factor i k) (pos t.scale) (shown.numbers (suc k) (omega arith)) none in
    record {
      size = shown.size;
      numbers = λ c p. cell_kept n t r k i c pivot (cell_of row c) h gone (c == suc k) refl (shown.numbers c p) (λ own. subst (λ (m : ℕ). number_at t i m ≡ pos 0) (sym (is_own c k own)) gone);
    }

made_shown : (n : ℕ) (t : Scaled) (r k i : ℕ) (pivot : Fraction) (row pivot_row shares new : List Fraction) → Pivoting n t r k pivot → k < n → ShowsRow n row t i → ShowsRow n pivot_row t r → AreShares shares pivot_row (suc k) pivot → IsRowAfter new row shares (suc k) pivot → ShowsRow n new (pivot_of t r k) i
made_shown n t r k i pivot row pivot_row shares new h there shown pivot_shown are is =
    let whole : length row ≡ suc n = shown.size in
    let pivot_whole : length pivot_row ≡ suc n = pivot_shown.size in
    record {
      size = is.size ∙ shown.size;
      numbers = λ c p. cell_changed n t r k i c pivot (cell_of new c) (cell_of row c) (cell_of row (suc k)) (cell_of shares c) (cell_of pivot_row c) h (c == suc k) refl (are.at c (omega arith)) (is.at c (omega arith)) (shown.numbers c p) (shown.numbers (suc k) (omega arith)) (pivot_shown.numbers c p);
    }

pub row_shown : (n : ℕ) (t : Scaled) (r k i : ℕ) (pivot : Fraction) (row pivot_row shares : List Fraction) (own : Bool) (change : Option (List Fraction)) → Pivoting n t r k pivot → k < n → (i == r) ≡ own → ShowsRow n row t i → ShowsRow n pivot_row t r → AreShares shares pivot_row (suc k) pivot → ChangeFor own change row shares (suc k) pivot → ShowsRow n (unwrap_or change row) (pivot_of t r k) i
row_shown n t r k i pivot row pivot_row shares true None h there own shown pivot_shown are change = absurd change
row_shown n t r k i pivot row pivot_row shares true (Some new) h there own shown pivot_shown are change =
    let same : i ≡ r = same_number i r own in
    subst (λ (m : ℕ). ShowsRow n new (pivot_of t r k) m) (sym same) (unit_shown n t r k pivot row new h (subst (λ (m : ℕ). ShowsRow n row t m) same shown) change)
row_shown n t r k i pivot row pivot_row shares false None h there own shown pivot_shown are change = kept_shown n t r k i pivot row h there shown change
row_shown n t r k i pivot row pivot_row shares false (Some new) h there own shown pivot_shown are change = made_shown n t r k i pivot row pivot_row shares new h there shown pivot_shown are change
