use Rattle.exact_simplex.proofs.LastSteps.{least_is_not_licensed_lem}
use Rattle.exact_simplex.proofs.laws.least_is_not_licensed.Goals as goal

pub returns : goal.returns
returns c = least_is_not_licensed_lem
