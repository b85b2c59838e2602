use Rattle.move_text.proofs.RunFacts.{end-unique, end-case}
use Rattle.move_text.proofs.laws.move_text_end.Goals as goal

pub returns-clause-unique : goal.returns-clause-unique
returns-clause-unique c = end-unique

pub returns-clause-case : goal.returns-clause-case
returns-clause-case c = end-case
