use Rattle.std.proofs.Common.{◌≡◌, ◌++◌, map, drop, length}
use Rattle.serde_json.specs.View.{view}
use Rattle.ras_inventory.specs.RegionRule.{server_names}
use Rattle.ras_requests.specs.RequestsRule.{reservation_names}
use Rattle.plan_document.specs.Parts.{place_in}
use Rattle.plan_document.proofs.part.places_of.Given as goal

abbrev pub invariant-loop-server : goal.invariant-loop-server
invariant-loop-server l =
    (l.places.items ++ map (place_in (reservation_names l.requests.list) (view l.value)) (server_names (drop l.server-index l.region.servers)) ≡ map (place_in (reservation_names l.requests.list) (view l.value)) (server_names l.region.servers))
    × (length l.places.items ≡ l.server-index)
