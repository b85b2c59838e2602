use Rattle.std.proofs.Common.{refl}
use Rattle.first_plans.proofs.laws.first_plans_by_protection.Goals as goal

pub returns : goal.returns
returns c = (refl, refl, refl)
