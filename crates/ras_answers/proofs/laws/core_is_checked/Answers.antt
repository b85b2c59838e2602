use Rattle.ras_answers.proofs.CoreLemmas.{core-is-checked}
use Rattle.ras_answers.proofs.laws.core_is_checked.Goals as goal

pub returns : goal.returns
returns c = core-is-checked
