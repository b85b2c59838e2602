use Rattle.std.proofs.Common.{◌≡◌, drop, length}
use Rattle.serde_json.specs.View.{view}
use Rattle.ras_requests.specs.RequestsRule.{reservation_names}
use Rattle.plan_document.specs.Protections.{each_protection}
use Rattle.plan_document.proofs.NumbersLemmas.{with_front}
use Rattle.plan_document.proofs.protections.each_protection.Given as goal

abbrev pub invariant-loop-reservation : goal.invariant-loop-reservation
invariant-loop-reservation l =
    (with_front l.found.items (each_protection (reservation_names (drop l.reservation-index l.requests.list)) (view l.value)) ≡ each_protection (reservation_names l.requests.list) (view l.value))
    × (length l.found.items ≡ l.reservation-index)
