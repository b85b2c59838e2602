use Rattle.std.proofs.Common.{◌≡◌}
use Rattle.serde_json.specs.View.{members_view}
use Rattle.ras_inventory.specs.RegionRule.{server_names}
use Rattle.ras_requests.specs.RequestsRule.{reservation_names}
use Rattle.plan_document.specs.Members.{are_known}
use Rattle.plan_document.proofs.part.are_known.Given as goal

abbrev pub invariant-loop-name : goal.invariant-loop-name
invariant-loop-name l = are_known (server_names l.region.servers) (reservation_names l.requests.list) (members_view l.name-iterator) ≡ are_known (server_names l.region.servers) (reservation_names l.requests.list) (members_view l.members.entries)
