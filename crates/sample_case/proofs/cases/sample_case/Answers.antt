use Rattle.std.proofs.Common.{◌∙◌, length, sym, ap}
use Rattle.ras_inventory.specs.Regions.{region_of, seen as seen_region}
use Rattle.ras_inventory.specs.RegionRule.{server_names}
use Rattle.ras_inventory.specs.Bounds.{bindings_of}
use Rattle.ras_requests.specs.Requested.{requests_of}
use Rattle.region_gen.specs.Files.{inventory_text, bindings_text, requests_text}
use Rattle.region_gen.proofs.Lengths.{inventory-small, bindings-small, requests-small}
use Rattle.sample_case.specs.Samples.{sample_region, sample_bindings, sample_requests}
use Rattle.sample_case.proofs.Inventory.{inventory-valid, servers-counted, boards-counted}
use Rattle.sample_case.proofs.Requests.{requests-valid}
use Rattle.sample_case.proofs.FilesRead.{is-small, region-read, bindings-read}
use Rattle.sample_case.proofs.Fits.{sample-fits}
use Rattle.sample_case.proofs.cases.sample_case.Goals as goal

pub read_region-requires-clause-small : goal.read_region-requires-clause-small
read_region-requires-clause-small c =
    is-small c.as_slice.result.now (inventory_text c.args.number c.args.size) (c.as_slice.ensures.items ∙ c.in_ok-files.ensures.inventory) (inventory-small c.args.number c.args.size c.requires.most)

pub read_region-requires-clause-valid : goal.read_region-requires-clause-valid
read_region-requires-clause-valid c =
    (sample_region c.args.number c.args.size, ap region_of (c.as_slice.ensures.items ∙ c.in_ok-files.ensures.inventory) ∙ inventory-valid c.args.number c.args.size c.requires.most)

pub read_requests-requires-clause-small : goal.read_requests-requires-clause-small
read_requests-requires-clause-small c =
    is-small c.as_slice-2.result.now (requests_text c.args.size) (c.as_slice-2.ensures.items ∙ c.in_ok-files.ensures.requests) (requests-small c.args.size c.requires.most)

pub read_requests-requires-clause-valid : goal.read_requests-requires-clause-valid
read_requests-requires-clause-valid c =
    (sample_requests c.args.size, ap requests_of (c.as_slice-2.ensures.items ∙ c.in_ok-files.ensures.requests) ∙ requests-valid c.args.size c.requires.most)

pub read_bindings-requires-clause-small : goal.read_bindings-requires-clause-small
read_bindings-requires-clause-small c =
    is-small c.as_slice-3.result.now (bindings_text c.args.number c.args.size) (c.as_slice-3.ensures.items ∙ c.in_ok-files.ensures.bindings) (bindings-small c.args.number c.args.size c.requires.most)

pub read_bindings-requires-clause-valid : goal.read_bindings-requires-clause-valid
read_bindings-requires-clause-valid c =
    let region = region-read c.args.number c.args.size c.as_slice.result.now (seen_region c.in_ok-region.region) c.requires.most (c.as_slice.ensures.items ∙ c.in_ok-files.ensures.inventory) c.in_ok-region.ensures in (
      sample_bindings c.args.number c.args.size,
      bindings-read c.args.number c.args.size c.in_ok-region.region.servers c.as_slice-3.result.now c.requires.most (ap (λ r. r.servers) region) (c.as_slice-3.ensures.items ∙ c.in_ok-files.ensures.bindings),
    )

pub returns-clause-region : goal.returns-clause-region
returns-clause-region c = ap region_of (sym (c.as_slice.ensures.items ∙ c.in_ok-files.ensures.inventory)) ∙ c.in_ok-region.ensures

pub returns-clause-requests : goal.returns-clause-requests
returns-clause-requests c = ap requests_of (sym (c.as_slice-2.ensures.items ∙ c.in_ok-files.ensures.requests)) ∙ c.in_ok-requests.ensures

pub returns-clause-bindings : goal.returns-clause-bindings
returns-clause-bindings c =
    ap (bindings_of (server_names c.in_ok-region.region.servers)) (sym (c.as_slice-3.ensures.items ∙ c.in_ok-files.ensures.bindings)) ∙ c.in_ok-bindings.ensures.bindings

pub returns-clause-servers : goal.returns-clause-servers
returns-clause-servers c =
    let region = region-read c.args.number c.args.size c.as_slice.result.now (seen_region c.in_ok-region.region) c.requires.most (c.as_slice.ensures.items ∙ c.in_ok-files.ensures.inventory) c.in_ok-region.ensures in
    ap (λ r. length r.servers) region ∙ servers-counted c.args.number c.args.size

pub returns-clause-boards : goal.returns-clause-boards
returns-clause-boards c =
    let region = region-read c.args.number c.args.size c.as_slice.result.now (seen_region c.in_ok-region.region) c.requires.most (c.as_slice.ensures.items ∙ c.in_ok-files.ensures.inventory) c.in_ok-region.ensures in
    ap (λ r. length r.boards) region ∙ boards-counted c.args.number c.args.size c.requires.most

pub returns-clause-fits : goal.returns-clause-fits
returns-clause-fits c =
    sample-fits c.args.number c.args.size c.in_ok-region.region c.in_ok-requests.requests c.in_ok-bindings.bindings c.in_ok-case.case c.requires.most
    (record {
      region_is = returns-clause-region c;
      requests_are = returns-clause-requests c;
      bindings_are = returns-clause-bindings c;
      joined = c.in_ok-case.ensures;
    })
