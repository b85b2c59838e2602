use Rattle.spare_pool.proofs.StepsThere.{step-there, step-unique}
use Rattle.spare_pool.proofs.laws.step_is_one.Goals as goal

pub returns-clause-there : goal.returns-clause-there
returns-clause-there c = step-there

pub returns-clause-unique : goal.returns-clause-unique
returns-clause-unique c = step-unique
