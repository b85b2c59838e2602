use Rattle.plan_model.proofs.JoinedOnce.{joined-once}
use Rattle.plan_model.proofs.laws.joins_to_one_case.Goals as goal

pub returns : goal.returns
returns c = joined-once
