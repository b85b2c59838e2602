use Rattle.spare_pool.proofs.StepFacts.{others-units}
use Rattle.spare_pool.proofs.laws.others_keep_units.Goals as goal

pub returns : goal.returns
returns c = others-units
