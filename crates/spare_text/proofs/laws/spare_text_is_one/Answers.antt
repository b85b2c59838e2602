use Rattle.spare_text.proofs.RunFacts.{text-there, text-unique}
use Rattle.spare_text.proofs.laws.spare_text_is_one.Goals as goal

pub returns-clause-there : goal.returns-clause-there
returns-clause-there c = text-there

pub returns-clause-unique : goal.returns-clause-unique
returns-clause-unique c = text-unique
