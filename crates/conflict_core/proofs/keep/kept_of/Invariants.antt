use Rattle.std.proofs.Common.{◌≡◌, take}
use Rattle.conflict_core.specs.Kept.{kept_list}
use Rattle.conflict_core.proofs.keep.kept_of.Given as goal

abbrev pub invariant-loop-r : goal.invariant-loop-r
invariant-loop-r l = l.items.items ≡ kept_list l.list (take l.r-index l.r-items)
