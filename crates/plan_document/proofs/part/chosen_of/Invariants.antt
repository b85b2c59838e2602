use Rattle.std.proofs.Common.{◌≡◌, map, drop, length}
use Rattle.serde_json.specs.View.{view}
use Rattle.ras_requests.specs.RequestsRule.{reservation_names}
use Rattle.plan_document.specs.Parts.{chosen_of}
use Rattle.plan_document.proofs.NumbersLemmas.{with_front}
use Rattle.plan_document.proofs.part.chosen_of.Given as goal

abbrev pub invariant-loop-value : goal.invariant-loop-value
invariant-loop-value l =
    (with_front l.chosen.items (chosen_of (reservation_names l.requests.list) (map view (drop l.value-index l.values))) ≡ chosen_of (reservation_names l.requests.list) (map view l.values))
    × (length l.chosen.items ≡ l.value-index)
