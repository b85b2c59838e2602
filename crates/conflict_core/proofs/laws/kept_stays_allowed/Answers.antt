use Rattle.conflict_core.proofs.Stays.{kept-stays}
use Rattle.conflict_core.proofs.laws.kept_stays_allowed.Goals as goal

pub returns : goal.returns
returns c = kept-stays
