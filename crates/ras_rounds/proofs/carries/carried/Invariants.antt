use Rattle.std.proofs.Common.{◌≡◌, length}
use Rattle.ras_rounds.proofs.carries.carried.Given as goal

abbrev pub invariant-loop-event : goal.invariant-loop-event
invariant-loop-event l = (length l.mover.servers ≡ length l.case.places) × (length l.mover.case.wants ≡ length l.case.wants)
