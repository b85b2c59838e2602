use Rattle.conflict_core.proofs.Fewer.{met-or-not}
use Rattle.conflict_core.proofs.laws.met_or_not.Goals as goal

pub returns : goal.returns
returns c = met-or-not
