-- Counts with helpers: the least whole point, or a row that the counts leave short.
use Rattle.std.specs.Prelude.{ℕ, ◌<◌, ◌≤◌, ◌*◌, List, length, IsTrue, pos, ◌*ℤ◌, ◌<ℤ◌, slice_index}
use Rattle.ip_model.specs.declared.program.Program.{Program}
use Rattle.ip_model.specs.Limits.{helper_at}
use Rattle.ip_model.specs.Points.{full_box_of, value_of, value_over, IsPointIn, IsWholePoint}
use Rattle.ip_model.specs.Sums.{terms_at}
use Rattle.bound_certificate.specs.Bound.{terms_of, least_of}
use Rattle.closed_boxes.specs.declared.settle.Settled.{Settled}
use Rattle.closed_boxes.specs.declared.settle.Settled.TheVariants.{Whole, Short}
use Rattle.closed_boxes.specs.Helpers.{AgreesAtCounts, HasNoHelper, IsAsked}

-- A whole point with these counts. No point with them costs less, and each helper that is not 0 is what a row asks.
pub record IsLeastPoint (program : Program) (counts point : List ℕ) : Type 0 where
  pub whole : IsWholePoint program point
  pub agrees : AgreesAtCounts program counts 1 (slice_index point)
  pub least : (den : ℕ) (x : ℕ → ℕ) → 1 ≤ den → IsPointIn program (full_box_of program) den x → AgreesAtCounts program counts den x → den * value_of program point ≤ value_over program den x
  pub asked : (j : ℕ) → IsTrue (helper_at program.columns j) → 0 < slice_index point j → IsAsked program point (length program.rows) j

-- A row without a helper, which no numbers with these counts meet.
pub record IsShortRow (program : Program) (counts : List ℕ) (row : ℕ) : Type 0 where
  pub there : row < length program.rows
  pub alone : HasNoHelper program.columns (terms_of program.rows row)
  pub short : (den : ℕ) (x : ℕ → ℕ) → 1 ≤ den → AgreesAtCounts program counts den x → terms_at (terms_of program.rows row) x <ℤ (pos den *ℤ least_of program.rows row)

abbrev pub IsSettlement : Program → List ℕ → Settled → Type 0
IsSettlement program counts (Whole point) = IsLeastPoint program counts point
IsSettlement program counts (Short row) = IsShortRow program counts row
