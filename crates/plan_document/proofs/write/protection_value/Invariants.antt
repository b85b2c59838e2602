use Rattle.std.proofs.Common.{◌≡◌, drop}
use Rattle.serde_json.specs.Data.{no_members}
use Rattle.serde_json.specs.View.{members_view}
use Rattle.ras_requests.specs.RequestsRule.{reservation_names}
use Rattle.plan_document.specs.Written.{put_protections}
use Rattle.plan_document.proofs.write.protection_value.Given as goal

abbrev pub invariant-loop-n : goal.invariant-loop-n
invariant-loop-n l =
    put_protections (reservation_names l.requests.list) l.n (drop l.n l.protections) (members_view l.members.entries) ≡ put_protections (reservation_names l.requests.list) 0 l.protections no_members
