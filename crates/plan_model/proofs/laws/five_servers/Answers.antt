use Rattle.std.proofs.Common.{refl}
use Rattle.plan_model.proofs.laws.five_servers.Goals as goal

pub returns : goal.returns
returns c = refl
