use Rattle.std.proofs.Common.{◌≤◌, ◌<◌, ℕ}
use Rattle.spare_pool.specs.Firsts.{IsSpareOf}
use Rattle.spare_pool.proofs.firsts.next_spare.Given as goal

abbrev pub invariant-loop-server : goal.invariant-loop-server
invariant-loop-server l = (t : ℕ) → l.from ≤ t → t < l.server → IsSpareOf (record { case = l.case; servers = l.servers }) l.of t → ⊥
