use Rattle.std.proofs.Common.{◌≡◌, take}
use Rattle.conflict_core.proofs.copies.copy_values.Given as goal

abbrev pub invariant-loop-item : goal.invariant-loop-item
invariant-loop-item l = l.items.items ≡ take l.item-index l.item-items
