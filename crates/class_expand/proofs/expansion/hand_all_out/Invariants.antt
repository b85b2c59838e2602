use Rattle.std.proofs.Common.{◌≡◌, take, length}
use Rattle.std.specs.Prelude.{fold}
use Rattle.std.specs.List.{enumerate_from}
use Rattle.class_expand.specs.Dealing.{deal}
use Rattle.class_expand.proofs.expansion.hand_all_out.Given as goal

abbrev pub invariant-loop-number : goal.invariant-loop-number
invariant-loop-number l =
    (l.a.of ≡ fold (deal l.columns l.point) l.initial.a.of (enumerate_from 0 (take l.number l.classes))) × (length l.a.of ≡ length l.initial.a.of)
