use Rattle.spare_pool.proofs.StepFacts.{step-rule}
use Rattle.spare_pool.proofs.laws.step_keeps_rule.Goals as goal

pub returns : goal.returns
returns c = step-rule
