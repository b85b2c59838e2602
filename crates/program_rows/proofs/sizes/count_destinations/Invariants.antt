use Rattle.std.proofs.Common.{◌≡◌, ◌≤◌, take, length}
use Rattle.std.specs.Prelude.{filter, nat_lt}
use Rattle.plan_model.specs.Units.{value_for}
use Rattle.program_rows.proofs.sizes.count_destinations.Given as goal

abbrev pub invariant-loop-r : goal.invariant-loop-r
invariant-loop-r l = (l.count ≡ length (filter (λ r. nat_lt 0 (value_for l.case r l.kind)) (take l.r-index l.active))) × (l.count ≤ l.r-index)
