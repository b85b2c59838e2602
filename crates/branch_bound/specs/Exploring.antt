-- What is found in a box.
use Rattle.std.specs.Prelude.{◌≤◌}
use Rattle.ip_model.specs.declared.parts.Bounds.{Bounds}
use Rattle.ip_model.specs.declared.program.Program.{Program}
use Rattle.bound_certificate.specs.Bound.{leaf_bound, Refutes, RowsInRange}
use Rattle.exact_simplex.specs.Reasons.{HasPointWithin}
use Rattle.branch_bound.specs.declared.explore.Explored.{Explored}
use Rattle.branch_bound.specs.declared.explore.Explored.TheVariants.{Refuted, Solved, Divided}
use Rattle.branch_bound.specs.Openings.{IsBest, CanCut, ShowsWhy}

-- the box is refuted; or its bound is no less than the value of a whole point and of some point of its relaxation; or it can be split
abbrev pub IsExplored : Program → Bounds → Explored → Type 0
IsExplored program box (Refuted y) = RowsInRange program y × Refutes program box y
IsExplored program box (Solved best duals) = RowsInRange program duals × IsBest program best × (best.value ≤ leaf_bound program box duals) × HasPointWithin program box (leaf_bound program box duals)
IsExplored program box (Divided cut duals) = RowsInRange program duals × CanCut program box cut × ShowsWhy program box cut.column cut.at (leaf_bound program box duals) cut.shown
