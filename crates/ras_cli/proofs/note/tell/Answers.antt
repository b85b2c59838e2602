use Rattle.std.proofs.Common.{rules}
use Rattle.ras_cli.specs.Puts.{PutOnce}
use Rattle.ras_cli.proofs.note.tell.Goals as goal

pub returns-clause-once : goal.returns-clause-once
unfolding PutOnce
returns-clause-once g c = (c.put.result, search rules)
