-- The last tableau of the written method in a box, and when that box is licensed: the method does not end there with an answer that fits.
use Rattle.std.specs.Prelude.{ℕ, ◌≡◌, ◌+◌, ◌*◌, ◌≤◌, ◌⊎◌, length, Option}
use Rattle.ip_model.specs.declared.parts.Bounds.{Bounds}
use Rattle.ip_model.specs.declared.program.Program.{Program}
use Rattle.exact_simplex.specs.declared.table.Tableau.{Tableau}
use Rattle.exact_simplex.specs.declared.relaxed.Relaxed.{Relaxed}
use Rattle.exact_simplex.specs.declared.relaxed.Relaxed.TheVariants.{Least, Empty, Wide, Misfit, Spent}
use Rattle.exact_simplex.specs.Tableaus.{Scaled}
use Rattle.exact_simplex.specs.Forms.{Parts, parts_of}
use Rattle.exact_simplex.specs.Start.{start_of}
use Rattle.exact_simplex.specs.Cells.{cell_of, row_of}
use Rattle.exact_simplex.specs.Rebounds.{IsSame}
use Rattle.exact_simplex.specs.Relaxing.{IsLeastTable, IsWritten, WideAt}
use Rattle.exact_simplex.specs.Certificates.{CertificateFits, RefutationFits}
use Rattle.exact_simplex.specs.Answers.{IsEmptyTable, IsMisfit, IsOpenAt}

-- the most pivots of the written method
abbrev pub most_pivots : Program → ℕ
most_pivots program = 8 * (length program.rows + length program.columns)

abbrev pub IsOver : Tableau → Type 0
IsOver at = IsLeastTable at.cells ⊎ IsEmptyTable at

abbrev pub IsOpen : Tableau → Type 0
IsOpen at = (row : ℕ) × IsOpenAt at row

-- the choice of the column does not fit, or the pivot in the chosen column
abbrev pub DoesNotFit : Parts → Tableau → Scaled → ℕ → Type 0
DoesNotFit p at t row = (column : Option ℕ) × WideAt column p.columns at t row

-- the last tableau of the written method in a box: all pivots were made, or the tableau is over, or its pivot or the choice of its column does not fit
pub record IsLast (program : Program) (box : Bounds) (at : Tableau) : Type 0 where
  pub made : ℕ
  pub few : made ≤ most_pivots program
  pub scaled : Scaled
  pub written : IsWritten (parts_of program box) (start_of (parts_of program box)) made at scaled
  pub last : (made ≡ most_pivots program) ⊎ (IsOver at ⊎ ((row : ℕ) × IsOpenAt at row × DoesNotFit (parts_of program box) at scaled row))

-- the last tableau is not over, or it is and its exact point and duals, or its exact refutation, do not fit
pub record IsLicensed (program : Program) (box : Bounds) : Type 0 where
  pub at : Tableau
  pub last : IsLast program box at
  pub stops : IsOpen at ⊎ IsMisfit program box at

-- an answer that has neither a point nor a refutation, after the most pivots of the written method, gives a licence
abbrev pub GivesLicence : Program → Bounds → Relaxed → Type 0
GivesLicence program box (Least point duals at) = Unit {0}
GivesLicence program box (Empty duals at) = Unit {0}
GivesLicence program box (Wide at row col duals) = IsLicensed program box
GivesLicence program box (Misfit at duals) = IsLicensed program box
GivesLicence program box (Spent at made duals) = IsLicensed program box

-- the same units, and the same number in each cell
pub record AreSameTables (a b : Tableau) : Type 0 where
  pub units : a.units ≡ b.units
  pub rows : length a.cells ≡ length b.cells
  pub sizes : (i : ℕ) → length (row_of a.cells i) ≡ length (row_of b.cells i)
  pub cells : (i c : ℕ) → IsSame (cell_of (row_of a.cells i) c) (cell_of (row_of b.cells i) c)

-- the last tableau is one
abbrev pub LastIsOne : Type 0
LastIsOne = (program : Program) (box : Bounds) (a b : Tableau) → IsLast program box a → IsLast program box b → AreSameTables a b

-- a box where the last tableau is least, with an exact point and duals that fit, is not licensed
abbrev pub LeastIsNotLicensed : Type 0
LeastIsNotLicensed = (program : Program) (box : Bounds) (at : Tableau) → IsLast program box at → IsLeastTable at.cells → CertificateFits program box at → IsLicensed program box → ⊥

-- a box where the last tableau is empty, with an exact refutation that fits, is not licensed
abbrev pub EmptyIsNotLicensed : Type 0
EmptyIsNotLicensed = (program : Program) (box : Bounds) (at : Tableau) → IsLast program box at → IsEmptyTable at → RefutationFits program at → IsLicensed program box → ⊥
