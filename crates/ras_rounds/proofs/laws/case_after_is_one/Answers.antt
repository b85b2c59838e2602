use Rattle.ras_rounds.proofs.AfterOnce.{after-once}
use Rattle.ras_rounds.proofs.laws.case_after_is_one.Goals as goal

pub returns : goal.returns
returns c = after-once
