use Rattle.std.proofs.Common.{◌≡◌}
use Rattle.online_mover.proofs.PutFacts.{so_far}
use Rattle.online_mover.proofs.counting.counting_of.Given as goal

abbrev pub invariant-loop-i : goal.invariant-loop-i
invariant-loop-i l = (l.counting.case ≡ l.fn.case) × (l.counting.counts.of ≡ so_far l.servers l.i)
