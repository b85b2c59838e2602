-- What the parts of a pivot make: shares, new cells and new rows.
use Rattle.std.specs.Prelude.{ℕ, ◌≡◌, ◌≢◌, ◌<◌, slice_index_or, Bool, true, false, ◌==◌, List, length, Option, Some, None, ℤ, pos, ◌-ℤ◌, ◌*ℤ◌, ◌<ℤ◌, if◌then◌else◌}
use Rattle.exact_fraction.specs.declared.fraction.Fraction.{Fraction}
use Rattle.exact_fraction.specs.Exact.{IsRatio}
use Rattle.exact_simplex.specs.Cells.{cell_of, row_of}
use Rattle.exact_simplex.specs.Pivots.{IsQuotient, QuotientFits, CellFits}

-- the share of a column: its cell in the pivot's row over the pivot, which fits, and 0 in the pivot's own column
abbrev pub ShareFor : Bool → Fraction → Fraction → Fraction → Type 0
ShareFor true share cell pivot = share.num ≡ pos 0
ShareFor false share cell pivot = IsQuotient share cell pivot × QuotientFits cell pivot

pub record AreShares (shares row : List Fraction) (k : ℕ) (pivot : Fraction) : Type 0 where
  pub size : length shares ≡ length row
  pub at : (c : ℕ) → c < length row → ShareFor (c == k) (cell_of shares c) (cell_of row c) pivot

-- each share fits
pub record SharesFit (row : List Fraction) (k : ℕ) (pivot : Fraction) : Type 0 where
  pub at : (c : ℕ) → c < length row → (c == k) ≡ false → QuotientFits (cell_of row c) pivot

-- new is old less factor * share: over any scales; the operations fit
pub record IsTaken (new old factor share : Fraction) : Type 0 where
  pub scaled : (a b c d p : ℤ) → pos 0 <ℤ d → pos 0 <ℤ p → IsRatio old.num old.den a d → IsRatio factor.num factor.den b d → IsRatio share.num share.den c p → IsRatio new.num new.den (a *ℤ p -ℤ b *ℤ c) (d *ℤ p)
  pub fits : CellFits old factor share

-- the new cell of a row that is neither the pivot's nor 0 in its column, whose operations fit
abbrev pub CellFor : Bool → Fraction → Fraction → Fraction → Fraction → Fraction → Type 0
CellFor true new old factor share pivot = IsQuotient new factor pivot × QuotientFits factor pivot
CellFor false new old factor share pivot = IsTaken new old factor share

abbrev pub CellForFits : Bool → Fraction → Fraction → Fraction → Fraction → Type 0
CellForFits true old factor share pivot = QuotientFits factor pivot
CellForFits false old factor share pivot = CellFits old factor share

pub record IsRowAfter (new row shares : List Fraction) (k : ℕ) (pivot : Fraction) : Type 0 where
  pub size : length new ≡ length row
  pub at : (c : ℕ) → c < length row → CellFor (c == k) (cell_of new c) (cell_of row c) (cell_of row k) (cell_of shares c) pivot

pub record RowAfterFits (row shares : List Fraction) (k : ℕ) (pivot : Fraction) : Type 0 where
  pub at : (c : ℕ) → c < length row → CellForFits (c == k) (cell_of row c) (cell_of row k) (cell_of shares c) pivot

-- a row with 1 in column k and 0 elsewhere
pub record IsUnitRow (row : List Fraction) (k size : ℕ) : Type 0 where
  pub sized : length row ≡ size
  pub nums : (c : ℕ) → c < size → (cell_of row c).num ≡ (if c == k then pos 1 else pos 0)
  pub dens : (c : ℕ) → c < size → (cell_of row c).den ≡ pos 1

-- what becomes of a row: the pivot's own is the unit row, one with 0 in the pivot's column stays, and each other one is made anew
abbrev pub ChangeFor : Bool → Option (List Fraction) → List Fraction → List Fraction → ℕ → Fraction → Type 0
ChangeFor true None row shares k pivot = ⊥
ChangeFor true (Some new) row shares k pivot = IsUnitRow new k (length row)
ChangeFor false None row shares k pivot = (cell_of row k).num ≡ pos 0
ChangeFor false (Some new) row shares k pivot = IsRowAfter new row shares k pivot

abbrev pub ChangeFits : Bool → List Fraction → List Fraction → ℕ → Fraction → Type 0
ChangeFits true row shares k pivot = Unit {0}
ChangeFits false row shares k pivot = (cell_of row k).num ≢ pos 0 → RowAfterFits row shares k pivot

abbrev pub change_at : List (Option (List Fraction)) → ℕ → Option (List Fraction)
change_at changes i = slice_index_or changes i None

pub record AreChanges (changes : List (Option (List Fraction))) (cells : List (List Fraction)) (r : ℕ) (shares : List Fraction) (k : ℕ) (pivot : Fraction) : Type 0 where
  pub size : length changes ≡ length cells
  pub at : (i : ℕ) → i < length cells → ChangeFor (i == r) (change_at changes i) (row_of cells i) shares k pivot

pub record ChangesFit (cells : List (List Fraction)) (r : ℕ) (shares : List Fraction) (k : ℕ) (pivot : Fraction) : Type 0 where
  pub at : (i : ℕ) → i < length cells → ChangeFits (i == r) (row_of cells i) shares k pivot

-- the changes of the pivot at row r and column k
pub record ArePivotChanges (changes : List (Option (List Fraction))) (cells : List (List Fraction)) (r k : ℕ) : Type 0 where
  pub shares : List Fraction
  pub are : AreShares shares (row_of cells r) k (cell_of (row_of cells r) k)
  pub made : AreChanges changes cells r shares k (cell_of (row_of cells r) k)
