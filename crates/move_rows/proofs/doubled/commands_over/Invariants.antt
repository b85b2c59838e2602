use Rattle.std.proofs.Common.{◌≡◌, length}
use Rattle.move_rows.proofs.doubled.commands_over.Given as goal

abbrev pub invariant-loop : goal.invariant-loop
invariant-loop l = (length l.mover.servers ≡ length l.case.places) × (length l.mover.case.wants ≡ length l.case.wants)
