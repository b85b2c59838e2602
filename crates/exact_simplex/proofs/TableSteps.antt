-- A whole tableau after a pivot, over one denominator.
use Rattle.std.proofs.Common.{◌≡◌, ℕ, suc, ◌<◌, ◌≤◌, pos, ◌<ℤ◌, refl, sym, ap, subst, ◌∙◌, arith, Bool, true, false, ◌==◌, if◌then◌else◌, List, length, Option, Some, None, unwrap_or, slice_index, slice_set, inl, inr, get_or-set_other, get_or-set_same, length-set}
use Rattle.std.proofs.lemmas.Bool.Decides.{eqb_tells}
use Rattle.exact_fraction.specs.declared.fraction.Fraction.{Fraction}
use Rattle.exact_simplex.specs.Tableaus.{Scaled, pivot_of}
use Rattle.exact_simplex.specs.Cells.{cell_of, row_of, ShowsRow, Shows}
use Rattle.exact_simplex.specs.Changes.{ArePivotChanges, ChangeFor, change_at}
use Rattle.exact_simplex.specs.Shapes.{HasShape}
use Rattle.exact_simplex.proofs.CellSteps.{Pivoting, pivoting}
use Rattle.exact_simplex.proofs.RowSteps.{row_shown}

units_after : (units : List ℕ) (t : Scaled) (r k n : ℕ) → length units ≡ n → k < n → ((l : ℕ) → l < n → slice_index units l ≡ t.unit l) → (l : ℕ) → l < n → slice_index (slice_set units k r) l ≡ (if l == k then r else t.unit l)
units_after units t r k n size there h l p =
    elim (eqb_tells l k) [
      | inl x ↦ rw x.0 (subst (λ (m : ℕ). slice_index (slice_set units k r) m ≡ r) (sym x.1) (get_or-set_same units k r 0 (omega arith)))
      | inr x ↦ rw x.0 (get_or-set_other units k l r 0 x.1 ∙ h l p)
    ]

pub shows_after : (n : ℕ) (cells new : List (List Fraction)) (units : List ℕ) (changes : List (Option (List Fraction))) (t : Scaled) (r k : ℕ) → r < length cells → k < length units → 1 ≤ t.scale → pos 0 <ℤ t.factor r k → pos 0 <ℤ (cell_of (row_of cells r) (suc k)).num → Shows n cells units t → ArePivotChanges changes cells r (suc k) → length new ≡ length cells → ((i : ℕ) → i < length cells → row_of new i ≡ unwrap_or (change_at changes i) (row_of cells i)) → Shows n new (slice_set units k r) (pivot_of t r k)
shows_after n cells new units changes t r k in_cells in_units scale above pivot_above h is size rows =
    let there : k < n = (let e = h.units_size in omega arith) in
    let pivot_row = h.rows r in_cells in
    let step : Pivoting n t r k (cell_of (row_of cells r) (suc k)) = pivoting n t r k (cell_of (row_of cells r) (suc k)) scale above pivot_above (pivot_row.numbers (suc k) (omega arith)) in
    record {
      rows = λ i p.
          (let within : i < length cells = omega arith in
          subst (λ row. ShowsRow n row (pivot_of t r k) i) (sym (rows i within)) (row_shown n t r k i (cell_of (row_of cells r) (suc k)) (row_of cells i) (row_of cells r) is.shares (i == r) (change_at changes i) step there refl (h.rows i within) pivot_row is.are (is.made.at i within)));
      units_size = length-set units k r ∙ h.units_size;
      units_are = units_after units t r k n h.units_size there h.units_are;
    }

sized_change : (own : Bool) (change : Option (List Fraction)) (row shares : List Fraction) (k : ℕ) (pivot : Fraction) → ChangeFor own change row shares k pivot → length (unwrap_or change row) ≡ length row
sized_change true None row shares k pivot h = refl
sized_change true (Some new) row shares k pivot h = h.sized
sized_change false None row shares k pivot h = refl
sized_change false (Some new) row shares k pivot h = h.size

units_within : (units : List ℕ) (k r n : ℕ) → k < length units → r < n → ((l : ℕ) → l < length units → slice_index units l < n) → (l : ℕ) → l < length units → slice_index (slice_set units k r) l < n
units_within units k r n there in_n h l p =
    elim (eqb_tells l k) [
      | inl x ↦ subst (λ (m : ℕ). slice_index (slice_set units k r) m < n) (sym x.1) (subst (λ (m : ℕ). m < n) (sym (get_or-set_same units k r 0 there)) in_n)
      | inr x ↦ subst (λ (m : ℕ). m < n) (sym (get_or-set_other units k l r 0 x.1)) (h l p)
    ]

pub shape_after : (cells new : List (List Fraction)) (units : List ℕ) (changes : List (Option (List Fraction))) (r k : ℕ) → r < length cells → k < length units → HasShape cells units → ArePivotChanges changes cells r (suc k) → length new ≡ length cells → ((i : ℕ) → i < length cells → row_of new i ≡ unwrap_or (change_at changes i) (row_of cells i)) → HasShape new (slice_set units k r)
shape_after cells new units changes r k in_cells in_units h is size rows =
    let same = length-set units k r in
    record {
      rows = λ i p.
          (let within : i < length cells = omega arith in
          ap length (rows i within) ∙ sized_change (i == r) (change_at changes i) (row_of cells i) is.shares (suc k) (cell_of (row_of cells r) (suc k)) (is.made.at i within) ∙ h.rows i within ∙ ap suc (sym same));
      units_in = λ l p. (let at = units_within units k r (length cells) in_units in_cells h.units_in l (omega arith) in omega arith);
      few_units = (let few = h.few_units in omega arith);
    }
