use Rattle.std.proofs.Common.{◌≡◌, drop}
use Rattle.serde_json.specs.Data.{no_members}
use Rattle.serde_json.specs.View.{members_view}
use Rattle.ras_inventory.specs.RegionRule.{server_names}
use Rattle.ras_requests.specs.RequestsRule.{reservation_names}
use Rattle.plan_document.specs.Written.{put_places}
use Rattle.plan_document.proofs.write.assignment_value.Given as goal

abbrev pub invariant-loop-n : goal.invariant-loop-n
invariant-loop-n l = put_places (server_names l.region.servers) (reservation_names l.requests.list) l.n (drop l.n l.places) (members_view l.members.entries) ≡ put_places (server_names l.region.servers) (reservation_names l.requests.list) 0 l.places no_members
