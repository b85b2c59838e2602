use Rattle.std.proofs.Common.{◌≡◌, ◌++◌, drop, length}
use Rattle.std.specs.List.{list_all}
use Rattle.plan_document.specs.Shapes.{is_count}
use Rattle.plan_document.proofs.node.counts_of.Given as goal

abbrev pub invariant-loop-number : goal.invariant-loop-number
invariant-loop-number l =
    (list_all is_count (drop l.number-index l.numbers) ≡ list_all is_count l.numbers) × (l.found.items ++ drop l.number-index l.numbers ≡ l.numbers) × (length l.found.items ≡ l.number-index)
