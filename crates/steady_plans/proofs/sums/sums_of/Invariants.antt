use Rattle.steady_plans.specs.Tables.{AreSumsOf}
use Rattle.steady_plans.proofs.Begun.{begun}
use Rattle.steady_plans.proofs.sums.sums_of.Given as goal

abbrev pub invariant-loop-server : goal.invariant-loop-server
invariant-loop-server l = AreSumsOf l.case (begun l.a l.server) l.sums
