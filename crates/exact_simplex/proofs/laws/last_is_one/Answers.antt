use Rattle.exact_simplex.proofs.LastSteps.{last_is_one_lem}
use Rattle.exact_simplex.proofs.laws.last_is_one.Goals as goal

pub returns : goal.returns
returns c = last_is_one_lem
