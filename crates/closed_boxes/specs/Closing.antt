-- Boxes whose counts are fixed.
use Rattle.std.specs.Prelude.{ℕ, ◌≡◌, ◌<◌, List, length, false, IsTrue, slice_index}
use Rattle.ip_model.specs.declared.parts.Bounds.{Bounds}
use Rattle.ip_model.specs.declared.program.Program.{Program}
use Rattle.ip_model.specs.Limits.{helper_at, top_of}
use Rattle.ip_model.specs.Points.{value_of, IsWholePointIn}
use Rattle.bound_certificate.specs.declared.multipliers.Multipliers.{Multipliers}
use Rattle.bound_certificate.specs.Bound.{leaf_bound, Refutes, RowsInRange}
use Rattle.closed_boxes.specs.declared.boxes.Closed.{Closed}
use Rattle.closed_boxes.specs.declared.boxes.Closed.TheVariants.{Refuted, Whole}

-- one number for each count column, and each helper from 0 to its top
pub record HasFixedCounts (program : Program) (box : Bounds) : Type 0 where
  pub counts : (j : ℕ) → j < length program.columns → helper_at program.columns j ≡ false → slice_index box.low j ≡ slice_index box.high j
  pub low : (j : ℕ) → IsTrue (helper_at program.columns j) → slice_index box.low j ≡ 0
  pub high : (j : ℕ) → IsTrue (helper_at program.columns j) → slice_index box.high j ≡ top_of program.columns j

pub record IsClosedAt (program : Program) (box : Bounds) (point : List ℕ) (value : ℕ) (duals : Multipliers) : Type 0 where
  pub whole : IsWholePointIn program box point
  pub value_is : value ≡ value_of program point
  pub rows : RowsInRange program duals
  pub bound : leaf_bound program box duals ≡ value

abbrev pub Closes : Program → Bounds → Closed → Type 0
Closes program box (Refuted y) = RowsInRange program y × Refutes program box y
Closes program box (Whole point value duals) = IsClosedAt program box point value duals
