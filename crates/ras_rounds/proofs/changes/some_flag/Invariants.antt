use Rattle.std.proofs.Common.{◌≡◌, false, take}
use Rattle.std.specs.List.{list_any}
use Rattle.ras_rounds.specs.Mends.{has_flag}
use Rattle.ras_rounds.proofs.changes.some_flag.Given as goal

abbrev pub invariant-loop-i : goal.invariant-loop-i
invariant-loop-i l = list_any (has_flag l.flags) (take l.i l.members) ≡ false
