use Rattle.online_mover.proofs.FurtherLaws.{run-case}
use Rattle.online_mover.proofs.laws.run_keeps_case.Goals as goal

pub returns : goal.returns
returns c = run-case
