use Rattle.conflict_core.proofs.Fewer.{fewer-met}
use Rattle.conflict_core.proofs.laws.fewer_can_be_met.Goals as goal

pub returns : goal.returns
returns c = fewer-met
