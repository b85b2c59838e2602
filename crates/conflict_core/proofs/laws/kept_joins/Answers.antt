use Rattle.conflict_core.proofs.Joins.{kept-joins}
use Rattle.conflict_core.proofs.laws.kept_joins.Goals as goal

pub returns : goal.returns
returns c = kept-joins
