use Rattle.conflict_core.proofs.Enough.{enough-is-decided}
use Rattle.conflict_core.proofs.laws.enough_is_decided.Goals as goal

pub returns : goal.returns
returns c = enough-is-decided
