use Rattle.ras_answers.proofs.SolveLemmas.{solved-is-checked}
use Rattle.ras_answers.proofs.laws.solved_is_checked.Goals as goal

pub returns : goal.returns
returns c = solved-is-checked
