use Rattle.ras_rounds.proofs.Grouped.{grouped}
use Rattle.ras_rounds.proofs.laws.table_is_one.Goals as goal

pub returns : goal.returns
returns c = grouped
