use Rattle.first_plans.proofs.Running.{AreSumsOf}
use Rattle.first_plans.proofs.filling.sums_of.Given as goal

abbrev pub invariant-loop-server : goal.invariant-loop-server
invariant-loop-server l = AreSumsOf l.case l.a l.r l.server l.sums
