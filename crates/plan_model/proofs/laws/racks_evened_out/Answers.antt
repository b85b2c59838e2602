use Rattle.std.proofs.Common.{refl}
use Rattle.plan_model.proofs.laws.racks_evened_out.Goals as goal

pub returns : goal.returns
returns c = (refl, refl, refl, refl)
