use Rattle.program_rows.proofs.BaseLimit.{program-kept}
use Rattle.class_expand.proofs.laws.program_keeps_limits.Goals as goal

pub returns : goal.returns
returns c = program-kept
