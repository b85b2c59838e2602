use Rattle.std.proofs.Common.{◌≡◌, take}
use Rattle.std.specs.Prelude.{map}
use Rattle.plan_model.specs.Joined.{joined_goal}
use Rattle.plan_model.proofs.joins.goals_of.Given as goal

abbrev pub invariant-loop-wish : goal.invariant-loop-wish
invariant-loop-wish l = l.goals ≡ map (joined_goal l.centers) (take l.wish-index l.wish-items)
