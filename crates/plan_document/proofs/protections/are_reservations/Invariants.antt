use Rattle.std.proofs.Common.{◌≡◌}
use Rattle.serde_json.specs.View.{members_view}
use Rattle.ras_requests.specs.RequestsRule.{reservation_names}
use Rattle.plan_document.specs.Protections.{are_reservations}
use Rattle.plan_document.proofs.protections.are_reservations.Given as goal

abbrev pub invariant-loop-name : goal.invariant-loop-name
invariant-loop-name l =
    are_reservations (reservation_names l.requests.list) (members_view l.name-iterator) ≡ are_reservations (reservation_names l.requests.list) (members_view l.members.entries)
