use Rattle.spare_pool.proofs.StepFacts.{short-units}
use Rattle.spare_pool.proofs.laws.short_is_missing.Goals as goal

pub returns : goal.returns
returns c = short-units
