use Rattle.std.proofs.Common.{◌≡◌, drop, map, length}
use Rattle.serde_json.specs.View.{view}
use Rattle.plan_document.specs.Numbers.{wholes}
use Rattle.plan_document.proofs.NumbersLemmas.{with_front}
use Rattle.plan_document.proofs.numbers.wholes_of.Given as goal

abbrev pub invariant-loop-value : goal.invariant-loop-value
invariant-loop-value l = (with_front l.found.items (wholes (map view (drop l.value-index l.values))) ≡ wholes (map view l.values)) × (length l.found.items ≡ l.value-index)
