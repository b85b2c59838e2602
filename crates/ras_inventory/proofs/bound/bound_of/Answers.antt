use Rattle.std.proofs.Common.{arith}
use Rattle.ras_inventory.proofs.BoundsLemmas.{first-name}
use Rattle.ras_inventory.proofs.bound.bound_of.Goals as goal

pub name_at-requires : goal.name_at-requires
name_at-requires c = (omega arith, first-name c.args.row.now c.requires)
