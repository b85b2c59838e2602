use Rattle.plan_checker.proofs.Promise.{promises}
use Rattle.plan_checker.proofs.laws.no_reason_keeps_promises.Goals as goal

pub returns : goal.returns
returns c = promises
