use Rattle.spare_pool.proofs.StepFacts.{replaced-units}
use Rattle.spare_pool.proofs.laws.replaced_keeps_units.Goals as goal

pub returns : goal.returns
returns c = replaced-units
