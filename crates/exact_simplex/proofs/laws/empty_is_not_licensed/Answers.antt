use Rattle.exact_simplex.proofs.LastSteps.{empty_is_not_licensed_lem}
use Rattle.exact_simplex.proofs.laws.empty_is_not_licensed.Goals as goal

pub returns : goal.returns
returns c = empty_is_not_licensed_lem
