use Rattle.std.proofs.Common.{◌∙◌}
use Rattle.ras_inventory.proofs.LinesLemmas.{rack_left}
use Rattle.ras_inventory.proofs.rules.has_moved_rack.Goals as goal

pub returns : goal.returns
returns c = c.has_left.ensures ∙ rack_left c.args.before.now c.args.register.now c.args.line.now c.requires
