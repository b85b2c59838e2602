use Rattle.std.proofs.Common.{◌≡◌, take}
use Rattle.std.specs.Prelude.{map}
use Rattle.plan_model.specs.Joined.{units_for}
use Rattle.plan_model.proofs.joins.values_of.Given as goal

abbrev pub invariant-loop-k : goal.invariant-loop-k
invariant-loop-k l = l.units ≡ map (units_for l.values) (take l.k l.types)
