use Rattle.std.proofs.Common.{◌≡◌, take}
use Rattle.ras_rounds.specs.Mends.{cleared, is_touched}
use Rattle.ras_rounds.proofs.mend.loose_flags.Given as goal

abbrev pub invariant-loop-i : goal.invariant-loop-i
invariant-loop-i l = l.flags.items ≡ cleared (is_touched l.changes.flags.items l.changes.joiners.items) (take l.i l.classes) l.initial.flags.items
