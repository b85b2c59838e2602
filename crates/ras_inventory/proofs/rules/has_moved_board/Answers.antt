use Rattle.std.proofs.Common.{◌∙◌}
use Rattle.ras_inventory.proofs.LinesLemmas.{board_left}
use Rattle.ras_inventory.proofs.rules.has_moved_board.Goals as goal

pub returns : goal.returns
returns c = c.has_left.ensures ∙ board_left c.args.before.now c.args.register.now c.args.line.now c.requires
