-- What a change of the box does to a tableau: the values of its rows change, one number of the box after the other, and its factors stay.
use Rattle.std.specs.Prelude.{ℕ, ◌≡◌, ◌+◌, ◌<◌, zero, suc, Bool, true, false, not, Option, Some, None, List, [], ◌∷◌, ◌++◌, length, slice_index, ℤ, pos, negsuc, ◌+ℤ◌, ◌-ℤ◌, ◌*ℤ◌, ◌<ℤ◌, neg_ℤ, if◌then◌else◌, ◌==◌}
use Rattle.ip_model.specs.declared.parts.Bounds.{Bounds}
use Rattle.exact_fraction.specs.declared.fraction.Fraction.{Fraction}
use Rattle.exact_fraction.specs.Exact.{IsRatio, SumFits, ProductFits}
use Rattle.exact_simplex.specs.declared.shifts.Shift.{Shift}
use Rattle.exact_simplex.specs.Cells.{cell_of, row_of}

-- ---- the numbers of the box that change, in their order

-- the first unit, from unit k on, that is this row
abbrev pub unit_from : ℕ → List ℕ → ℕ → Option ℕ
unit_from k [] row = None
unit_from k (unit ∷ units) row = if unit == row then Some k else unit_from (suc k) units row

-- the change of the number that this row measures from, where it is not 0
abbrev pub shifts_at : List ℕ → ℕ → Bool → ℤ → List Shift
shifts_at units row low (pos zero) = []
shifts_at units row low (pos (suc n)) = record { row = row; unit = unit_from 0 units row; by = pos (suc n); low = low } ∷ []
shifts_at units row low (negsuc n) = record { row = row; unit = unit_from 0 units row; by = negsuc n; low = low } ∷ []

-- the changes in the first columns: of each column its low number, by which its step changes, and then its high number, by which its room does
abbrev pub shifts_below : List ℕ → ℕ → Bounds → Bounds → ℕ → List Shift
shifts_below units rows old new zero = []
shifts_below units rows old new (suc j) = (shifts_below units rows old new j ++ shifts_at units (suc j) true (pos (slice_index new.low j) -ℤ pos (slice_index old.low j))) ++ shifts_at units (suc (length units + rows + j)) false (pos (slice_index new.high j) -ℤ pos (slice_index old.high j))

-- ---- what a change makes of the value of a row

abbrev pub signed : Bool → ℤ → ℤ
signed true z = z
signed false z = pos 0 -ℤ z

abbrev pub IsSame : Fraction → Fraction → Type 0
IsSame f g = (f.num ≡ g.num) × (f.den ≡ g.den)

-- new is old with the number added, or taken off: over any scale
pub record IsMoved (adds : Bool) (new old : Fraction) (by : ℤ) : Type 0 where
  pub scaled : (a d : ℤ) → pos 0 <ℤ d → IsRatio old.num old.den a d → IsRatio new.num new.den (a +ℤ signed adds (d *ℤ by)) d

-- new is old with factor * by added, or taken off: over any scale
pub record IsShifted (adds : Bool) (new old factor : Fraction) (by : ℤ) : Type 0 where
  pub scaled : (a b d : ℤ) → pos 0 <ℤ d → IsRatio old.num old.den a d → IsRatio factor.num factor.den b d → IsRatio new.num new.den (a +ℤ signed adds (b *ℤ by)) d

-- the number num / den can be added to old, or taken off
abbrev pub PartFits : Bool → Fraction → ℤ → ℤ → Type 0
PartFits true old num den = SumFits old.num old.den num den
PartFits false old num den = SumFits old.num old.den (neg_ℤ num) den

-- factor * by fits, and then its sum with old, or its difference
pub record ShiftFits (adds : Bool) (old factor : Fraction) (by : ℤ) : Type 0 where
  pub product : ProductFits factor.num factor.den by (pos 1)
  pub part : (p : Fraction) → IsRatio p.num p.den (factor.num *ℤ by) (factor.den *ℤ pos 1) → PartFits adds old p.num p.den

-- A change of a row that is the unit of a column changes every other row by its factor there: a low number's change is added, and a high number's is taken off.
-- A change of a row that is no unit changes this row alone: a low number's change is taken off, and a high number's is added.
abbrev pub StepGives : Option ℕ → Bool → Bool → ℤ → List Fraction → Fraction → Fraction → Type 0
StepGives None true low by row old new = IsMoved (not low) new old by
StepGives None false low by row old new = IsSame new old
StepGives (Some k) true low by row old new = IsSame new old
StepGives (Some k) false low by row old new = IsShifted low new old (cell_of row (suc k)) by

abbrev pub StepFits : Option ℕ → Bool → Bool → ℤ → List Fraction → Fraction → Type 0
StepFits None true low by row old = PartFits (not low) old by (pos 1)
StepFits None false low by row old = Unit {0}
StepFits (Some k) true low by row old = Unit {0}
StepFits (Some k) false low by row old = ShiftFits low old (cell_of row (suc k)) by

-- what a change makes of the value of row i
abbrev pub StepAt : ℕ → List Fraction → Shift → Fraction → Fraction → Type 0
StepAt i row shift old new = StepGives shift.unit (i == shift.row) shift.low shift.by row old new

abbrev pub StepFitsAt : ℕ → List Fraction → Shift → Fraction → Type 0
StepFitsAt i row shift old = StepFits shift.unit (i == shift.row) shift.low shift.by row old

-- from this value of row i on, each operation of the changes fits
abbrev pub ValueFits : ℕ → List Fraction → List Shift → Fraction → Type 0
ValueFits i row [] old = Unit {0}
ValueFits i row (shift ∷ shifts) old = StepFitsAt i row shift old × ((new : Fraction) → StepAt i row shift old new → ValueFits i row shifts new)

-- each operation of the changes fits in each row
abbrev pub ShiftsFit : List (List Fraction) → List Shift → Type 0
ShiftsFit cells shifts = (i : ℕ) → i < length cells → ValueFits i (row_of cells i) shifts (cell_of (row_of cells i) 0)

-- each operation fits by which the tableau of one box becomes that of another, for a program of so many rows
abbrev pub ReboundFits : List (List Fraction) → List ℕ → ℕ → Bounds → Bounds → Type 0
ReboundFits cells units rows old new = ShiftsFit cells (shifts_below units rows old new (length units))

-- ---- the sum of the changes, over one denominator

abbrev pub change_of : ℤ → (ℕ → ℤ) → Option ℕ → Bool → Bool → ℤ → ℤ
change_of d factor None true low by = signed (not low) (d *ℤ by)
change_of d factor None false low by = pos 0
change_of d factor (Some k) true low by = pos 0
change_of d factor (Some k) false low by = signed low (factor k *ℤ by)

-- what the changes add to the value of row i, whose factors are these over d
abbrev pub total_change : ℤ → (ℕ → ℤ) → ℕ → List Shift → ℤ
total_change d factor i [] = pos 0
total_change d factor i (shift ∷ shifts) = change_of d factor shift.unit (i == shift.row) shift.low shift.by +ℤ total_change d factor i shifts

-- the value of row i after the changes: over any scale
pub record IsValueAfter (i : ℕ) (row : List Fraction) (shifts : List Shift) (new : Fraction) : Type 0 where
  pub scaled : (a d : ℤ) (factor : ℕ → ℤ) → pos 0 <ℤ d → IsRatio (cell_of row 0).num (cell_of row 0).den a d → ((k : ℕ) → suc k < length row → IsRatio (cell_of row (suc k)).num (cell_of row (suc k)).den (factor k) d) → IsRatio new.num new.den (a +ℤ total_change d factor i shifts) d

-- the row with another value
pub record HasValue (new row : List Fraction) (value : Fraction) : Type 0 where
  pub size : length new ≡ length row
  pub first : IsSame (cell_of new 0) value
  pub others : (k : ℕ) → suc k < length row → IsSame (cell_of new (suc k)) (cell_of row (suc k))

-- row i after the changes
pub record IsRowShifted (i : ℕ) (new row : List Fraction) (shifts : List Shift) : Type 0 where
  pub value : Fraction
  pub has : HasValue new row value
  pub after : IsValueAfter i row shifts value

-- the unit of a change is a column of the row
abbrev pub IsUnitWithin : List Fraction → Shift → Type 0
IsUnitWithin row shift = (k : ℕ) → shift.unit ≡ Some k → suc k < length row
