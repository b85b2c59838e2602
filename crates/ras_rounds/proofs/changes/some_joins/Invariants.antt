use Rattle.std.proofs.Common.{◌≡◌, false, take}
use Rattle.std.specs.List.{list_any}
use Rattle.ras_rounds.specs.Mends.{joins}
use Rattle.ras_rounds.proofs.changes.some_joins.Given as goal

abbrev pub invariant-loop-i : goal.invariant-loop-i
invariant-loop-i l = list_any (joins l.class) (take l.i l.joiners) ≡ false
