use Rattle.ras_inventory.specs.RegionRule.{server_names}
use Rattle.ras_inventory.specs.Regions.{region_of, seen as seen_region}
use Rattle.ras_inventory.specs.Bounds.{bindings_of}
use Rattle.ras_requests.specs.Requested.{requests_of, seen as seen_requests}
use Rattle.ras_answers.specs.Inputs.{region_line, requests_line, bindings_line}
use Rattle.ras_answers.proofs.InputLemmas.{read-ok}
use Rattle.ras_answers.proofs.inputs.read_case.Goals as goal

pub returns-in-Ok-bindings_in-clause-files : goal.returns-in-Ok-bindings_in-clause-files
returns-in-Ok-bindings_in-clause-files c = record {
  region_is = read-ok region_line (region_of c.args.inventory.now) (seen_region c.in-Ok.region) c.in-Ok.ensures;
  requests_are = read-ok requests_line (requests_of c.args.requests.now) (seen_requests c.in-Ok-requests_in.requests) c.in-Ok-requests_in.ensures;
  bindings_are = read-ok bindings_line (bindings_of (server_names c.in-Ok.region.servers) c.args.bindings.now) c.in-Ok-bindings_in.bindings.of c.in-Ok-bindings_in.ensures.bindings;
}
