use Rattle.std.proofs.Common.{◌∙◌}
use Rattle.ras_inventory.proofs.HomesLemmas.{found-home}
use Rattle.ras_inventory.proofs.homes.Homes.find.Goals as goal

pub returns : goal.returns
returns c = rw (← c.self.view_is) (c.get.ensures.value ∙ found-home c.args.name.now c.self.inside.of.entries)
