use Rattle.std.proofs.Common.{refl}
use Rattle.plan_model.proofs.laws.one_swap.Goals as goal

pub returns : goal.returns
returns c = (refl, refl)
