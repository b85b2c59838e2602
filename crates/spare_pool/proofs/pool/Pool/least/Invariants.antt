use Rattle.spare_pool.specs.Spares.{IsLeastAmong}
use Rattle.spare_pool.proofs.pool.Pool.least.Given as goal

abbrev pub invariant-loop-kind : goal.invariant-loop-kind
invariant-loop-kind l = IsLeastAmong l.self l.r l.least l.kind l.best
