use Rattle.spare_pool.proofs.StepsThere.{run-there}
use Rattle.spare_pool.proofs.RunFacts.{run-laws}
use Rattle.spare_pool.proofs.laws.every_run.Goals as goal

pub returns-clause-there : goal.returns-clause-there
returns-clause-there c = run-there

pub returns-clause-laws : goal.returns-clause-laws
returns-clause-laws c = run-laws
