use Rattle.std.proofs.Common.{◌∙◌, ap, sym, List, ℕ}
use Rattle.ras_inventory.specs.RegionRule.{server_names}
use Rattle.ras_inventory.specs.Bounds.{bounds_of}
use Rattle.ras_inventory.proofs.BoundsLemmas.{bindings-are, bindings-given}
use Rattle.ras_inventory.proofs.bind.read_bindings.Goals as goal

pub returns-in-Ok-bindings_from-clause-bindings : goal.returns-in-Ok-bindings_from-clause-bindings
returns-in-Ok-bindings_from-clause-bindings c =
    let servers = c.args.region.now.servers in
    let bounds = c.in-Ok-read_bounds.bounds.list in
    bindings-given (server_names servers) c.args.bytes.now bounds c.in-Ok-bindings_from.of
    (ap (λ (r : List (List (List ℕ))). bounds_of (server_names servers) r) (sym (c.as_slice.ensures.items ∙ c.in-Ok.ensures)) ∙ c.in-Ok-read_bounds.ensures.bounds)
    (bindings-are bounds servers c.as_slice-2.result.now c.in-Ok-bindings_from.of c.as_slice-2.ensures.items c.in-Ok-bindings_from.ensures)
