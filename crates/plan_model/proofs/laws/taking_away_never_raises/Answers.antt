use Rattle.plan_model.proofs.AllowedLaws.{taking-away}
use Rattle.plan_model.proofs.laws.taking_away_never_raises.Goals as goal

pub returns : goal.returns
returns c = taking-away
