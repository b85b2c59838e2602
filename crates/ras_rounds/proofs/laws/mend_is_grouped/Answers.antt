use Rattle.ras_rounds.proofs.Mended.{mended}
use Rattle.ras_rounds.proofs.laws.mend_is_grouped.Goals as goal

pub returns : goal.returns
returns c = mended
