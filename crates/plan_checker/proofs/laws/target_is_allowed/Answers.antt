use Rattle.plan_checker.proofs.TargetFacts.{target-allowed}
use Rattle.plan_checker.proofs.laws.target_is_allowed.Goals as goal

pub returns : goal.returns
returns c = target-allowed
