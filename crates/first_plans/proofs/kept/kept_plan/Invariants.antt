use Rattle.std.proofs.Common.{◌≡◌, take}
use Rattle.std.specs.Prelude.{map}
use Rattle.first_plans.specs.Kept.{kept_at}
use Rattle.first_plans.proofs.kept.kept_plan.Given as goal

abbrev pub invariant-loop-server : goal.invariant-loop-server
invariant-loop-server l = l.of.items ≡ map (kept_at l.case) (take l.server l.case.places)
