use Rattle.std.proofs.Common.{◌≡◌}
use Rattle.spare_pool.proofs.StartFacts.{so_far, starts}
use Rattle.spare_pool.proofs.pool.Pool.start.Given as goal

abbrev pub invariant-loop-server : goal.invariant-loop-server
invariant-loop-server l = (l.pool.case ≡ l.case) × (l.pool.servers ≡ so_far (starts l.case l.a) l.server)
