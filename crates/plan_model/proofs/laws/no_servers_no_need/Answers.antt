use Rattle.plan_model.proofs.AllowedLaws.{no-servers}
use Rattle.plan_model.proofs.laws.no_servers_no_need.Goals as goal

pub returns : goal.returns
returns c = no-servers
