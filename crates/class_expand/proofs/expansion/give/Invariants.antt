use Rattle.std.proofs.Common.{◌≡◌, take, length, replicate}
use Rattle.class_expand.specs.Dealing.{put_all}
use Rattle.class_expand.proofs.expansion.give.Given as goal

abbrev pub invariant-loop-member : goal.invariant-loop-member
invariant-loop-member l =
    (l.a.of ≡ put_all l.initial.a.of (take l.member-index l.members) (replicate l.member-index l.to)) × (length l.a.of ≡ length l.initial.a.of)
