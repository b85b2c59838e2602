use Rattle.std.proofs.Common.{◌≡◌}
use Rattle.first_plans.specs.Best.{best_of}
use Rattle.first_plans.proofs.takes.next_server.Given as goal

abbrev pub invariant-loop-server : goal.invariant-loop-server
invariant-loop-server l = l.best ≡ best_of l.case l.a l.r l.server
