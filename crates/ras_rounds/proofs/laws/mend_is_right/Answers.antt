use Rattle.ras_rounds.proofs.WholeMend.{whole-mend}
use Rattle.ras_rounds.proofs.laws.mend_is_right.Goals as goal

pub returns : goal.returns
returns c = whole-mend
