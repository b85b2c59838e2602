use Rattle.std.proofs.Common.{◌≡◌, take}
use Rattle.ras_rounds.specs.Mends.{clear}
use Rattle.ras_rounds.proofs.mend.clear.Given as goal

abbrev pub invariant-loop-i : goal.invariant-loop-i
invariant-loop-i l = l.flags.items ≡ clear (take l.i l.members) l.initial.flags.items
