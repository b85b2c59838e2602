use Rattle.std.proofs.Common.{◌≡◌, take, length}
use Rattle.class_expand.specs.Dealing.{put_all, dealt}
use Rattle.class_expand.proofs.expansion.hand_out.Given as goal

abbrev pub invariant-loop-j : goal.invariant-loop-j
invariant-loop-j l =
    (l.a.of ≡ put_all l.initial.a.of (take l.next l.members) (dealt l.class (take l.j l.columns) (take l.j l.point)))
    × (l.next ≡ length (dealt l.class (take l.j l.columns) (take l.j l.point)))
    × (length l.a.of ≡ length l.initial.a.of)
