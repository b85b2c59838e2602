use Rattle.std.proofs.Common.{arith, ap, length}
use Rattle.serde_json.specs.View.{view}
use Rattle.ras_inventory.specs.RegionRule.{server_names}
use Rattle.ras_requests.specs.RequestsRule.{reservation_names}
use Rattle.plan_document.proofs.TopInverse.{given-can}
use Rattle.plan_document.proofs.Sizes.{strip-shorter}
use Rattle.plan_document.proofs.document.read_document.Goals as goal

pub value_of-requires : goal.value_of-requires
value_of-requires c = omega (arith, ap length c.without_mark.ensures, strip-shorter c.args.bytes.now, c.requires)

pub returns-clause-kept : goal.returns-clause-kept
returns-clause-kept c =
    given-can (server_names c.args.region.now.servers) (reservation_names c.args.requests.now.list) (view c.in-Ok.value) c.document_in.result c.document_in.ensures
