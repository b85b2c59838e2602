use Rattle.ras_inventory.proofs.RegionLemmas.{region-ruled, region-indexed}
use Rattle.ras_inventory.proofs.read.region_from.Goals as goal

pub invariant_of-result : goal.invariant_of-result
invariant_of-result c = record {
  kept = region-ruled c.args.lines.list c.as_slice.result.now c.as_slice-2.result.now c.in_ok-labels.labels c.in_ok-servers.servers c.requires.regular
      c.as_slice.ensures.items c.as_slice-2.ensures.items c.in_ok-labels.ensures c.in_ok-servers.ensures;
  indexed = region-indexed c.args.lines.list c.as_slice-2.result.now c.args.lines.register.names c.into_names.result c.in_ok-servers.servers c.into_names.ensures
      c.requires.names c.as_slice-2.ensures.items c.in_ok-servers.ensures;
}
