use Rattle.std.proofs.Common.{◌≡◌, length}
use Rattle.spare_pool.proofs.tests.tell_all.Given as goal

abbrev pub invariant-loop-change : goal.invariant-loop-change
invariant-loop-change l = (length l.pool.servers ≡ 4) × (length l.pool.case.wants ≡ 1)
