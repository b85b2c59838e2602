use Rattle.conflict_core.specs.Answers.{ArePlans}
use Rattle.conflict_core.proofs.tries.try_each.Given as goal

abbrev pub invariant-loop-n : goal.invariant-loop-n
invariant-loop-n g l = ArePlans l.region l.requests l.bindings l.members l.nodes l.n l.plans.items
