use Rattle.first_plans.proofs.Endings.{more-takes}
use Rattle.first_plans.proofs.laws.more_takes_change_nothing.Goals as goal

pub returns : goal.returns
returns c = more-takes
