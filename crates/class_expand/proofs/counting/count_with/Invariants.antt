use Rattle.std.proofs.Common.{◌≡◌, ◌≤◌, take}
use Rattle.std.specs.Prelude.{count_by}
use Rattle.program_rows.specs.Members.{gets}
use Rattle.class_expand.proofs.counting.count_with.Given as goal

abbrev pub invariant-loop-member : goal.invariant-loop-member
invariant-loop-member l = (l.count ≡ count_by (gets l.a l.to) (take l.member-index l.members)) × (l.count ≤ l.member-index)
