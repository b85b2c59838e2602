use Rattle.std.proofs.Common.{sym}
use Rattle.ras_texts.proofs.Absent.{past-end}
use Rattle.ras_texts.proofs.names.rack_name.Goals as goal

pub returns-in-None : goal.returns-in-None
returns-in-None c = sym (past-end c.args.region.now.racks c.args.rack c.in-None.ensures)
