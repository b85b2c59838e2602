use Rattle.exact_simplex.proofs.Raises.{pivots_raise_from_lem}
use Rattle.exact_simplex.proofs.laws.pivots_raise_from.Goals as goal

pub returns : goal.returns
returns c = pivots_raise_from_lem
