use Rattle.plan_checker.proofs.Acceptance.{no_reason-accepted}
use Rattle.plan_checker.proofs.Accepting.{accepted-no_reason}
use Rattle.plan_checker.proofs.laws.no_reason_means_accepted.Goals as goal

pub returns : goal.returns
returns c = record { accepted = no_reason-accepted; back = accepted-no_reason }
