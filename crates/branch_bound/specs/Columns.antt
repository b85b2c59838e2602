-- Count columns in which a box can be split.
use Rattle.std.specs.Prelude.{ℕ, ◌≡◌, ◌<◌, false, length, slice_index}
use Rattle.ip_model.specs.declared.parts.Bounds.{Bounds}
use Rattle.ip_model.specs.declared.point.Point.{Point}
use Rattle.ip_model.specs.declared.program.Program.{Program}
use Rattle.ip_model.specs.Limits.{helper_at}

-- a count column that is not fixed in the box
pub record IsWideColumn (program : Program) (box : Bounds) (column : ℕ) : Type 0 where
  pub there : column < length program.columns
  pub count : helper_at program.columns column ≡ false
  pub wide : slice_index box.low column < slice_index box.high column

-- a count column in which the point is between two whole numbers
pub record IsFractional (program : Program) (point : Point) (column : ℕ) : Type 0 where
  pub there : column < length program.columns
  pub count : helper_at program.columns column ≡ false
  pub between : 0 < slice_index point.part column
