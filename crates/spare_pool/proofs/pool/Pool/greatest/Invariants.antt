use Rattle.spare_pool.specs.Spares.{IsGreatestAmong}
use Rattle.spare_pool.proofs.pool.Pool.greatest.Given as goal

abbrev pub invariant-loop-kind : goal.invariant-loop-kind
invariant-loop-kind l = IsGreatestAmong l.self l.r l.kind l.best
