-- What a relaxation answers.
use Rattle.std.specs.Prelude.{ℕ, ◌≡◌, ◌*◌, ◌≤◌, pos, ◌*ℤ◌, length, Option, Some, None, ◌⊎◌}
use Rattle.ip_model.specs.declared.parts.Bounds.{Bounds}
use Rattle.ip_model.specs.declared.point.Point.{Point}
use Rattle.ip_model.specs.declared.program.Program.{Program}
use Rattle.ip_model.specs.Points.{IsPointOf, numerator, value_over, value_up_of}
use Rattle.bound_certificate.specs.declared.multipliers.Multipliers.{Multipliers}
use Rattle.bound_certificate.specs.Bound.{Refutes, RowsInRange, leaf_bound, unrounded_numerator}
use Rattle.exact_simplex.specs.declared.table.Tableau.{Tableau}
use Rattle.exact_simplex.specs.declared.relaxed.Relaxed.{Relaxed}
use Rattle.exact_simplex.specs.declared.relaxed.Relaxed.TheVariants.{Least, Empty, Wide, Misfit, Spent}
use Rattle.exact_simplex.specs.Tableaus.{Scaled}
use Rattle.exact_simplex.specs.Forms.{Parts, parts_of}
use Rattle.exact_simplex.specs.Start.{start_of}
use Rattle.exact_simplex.specs.Choices.{FirstCandidate}
use Rattle.exact_simplex.specs.Relaxing.{IsReached, IsLeastTable, IsFirstBelow, WideAt}
use Rattle.exact_simplex.specs.Certificates.{IsExactPoint, AreExactDuals, AreExactRefutation, AreDualsOfStop, CertificateFits, RefutationFits}

-- the point lies in the relaxation of the box, and the multipliers' bound there is its value, before rounding and after
pub record Certifies (program : Program) (box : Bounds) (point : Point) (duals : Multipliers) : Type 0 where
  pub lies : IsPointOf program box point
  pub bound_is : leaf_bound program box duals ≡ value_up_of program point
  -- both over the product of the denominators
  pub unrounded_is : pos point.den *ℤ unrounded_numerator program box duals ≡ pos (duals.den * value_over program point.den (numerator point))

-- the tableau is the one after so many written pivots from this one
pub record IsReachedAfter (p : Parts) (from : Scaled) (made : ℕ) (at : Tableau) : Type 0 where
  pub scaled : Scaled
  pub reached : IsReached p from made at scaled

-- the tableau is the one after at most so many written pivots
pub record IsReachedWithin (p : Parts) (from : Scaled) (pivots : ℕ) (at : Tableau) : Type 0 where
  pub made : ℕ
  pub few : made ≤ pivots
  pub after : IsReachedAfter p from made at

-- the first row with a value below 0, where it has no candidate
pub record IsEmptyTable (at : Tableau) : Type 0 where
  pub row : ℕ
  pub below : IsFirstBelow at.cells row
  pub none : FirstCandidate None at.cells row (length at.units)

-- this is the pivot's row, and it has a candidate
pub record IsOpenAt (at : Tableau) (row : ℕ) : Type 0 where
  pub below : IsFirstBelow at.cells row
  pub first : ℕ
  pub candidate : FirstCandidate (Some first) at.cells row (length at.units)

-- the written pivot at the row does not fit in the tableau after at most so many written pivots
pub record IsWideWithin (p : Parts) (from : Scaled) (pivots : ℕ) (at : Tableau) (row : ℕ) (column : Option ℕ) : Type 0 where
  pub made : ℕ
  pub few : made ≤ pivots
  pub scaled : Scaled
  pub reached : IsReached p from made at scaled
  pub wide : WideAt column p.columns at scaled row

-- the tableau is over, and its exact point and duals, or its exact refutation, do not fit
abbrev pub IsMisfit : Program → Bounds → Tableau → Type 0
IsMisfit program box at = (IsLeastTable at.cells × (CertificateFits program box at → ⊥)) ⊎ (IsEmptyTable at × (RefutationFits program at → ⊥))

-- what the written pivots from a tableau over one denominator answer
abbrev pub IsRelaxedFrom : Scaled → Program → Bounds → ℕ → Relaxed → Type 0
IsRelaxedFrom from program box pivots (Least point duals at) = IsReachedWithin (parts_of program box) from pivots at × IsLeastTable at.cells × RowsInRange program duals × Certifies program box point duals × IsExactPoint box at point × AreExactDuals program at duals
IsRelaxedFrom from program box pivots (Empty duals at) = IsReachedWithin (parts_of program box) from pivots at × IsEmptyTable at × RowsInRange program duals × Refutes program box duals × AreExactRefutation program at duals
IsRelaxedFrom from program box pivots (Wide at row col duals) = IsWideWithin (parts_of program box) from pivots at row col × IsOpenAt at row × RowsInRange program duals × AreDualsOfStop program at duals
IsRelaxedFrom from program box pivots (Misfit at duals) = IsReachedWithin (parts_of program box) from pivots at × IsMisfit program box at × RowsInRange program duals × AreDualsOfStop program at duals
IsRelaxedFrom from program box pivots (Spent at made duals) = IsReachedAfter (parts_of program box) from made at × (made ≡ pivots) × ((row : ℕ) × IsOpenAt at row) × RowsInRange program duals × AreDualsOfStop program at duals

-- the same from the start tableau
abbrev pub IsRelaxed : Program → Bounds → ℕ → Relaxed → Type 0
IsRelaxed program box pivots relaxed = IsRelaxedFrom (start_of (parts_of program box)) program box pivots relaxed
