use Rattle.std.proofs.lemmas.List.{get_or-replicate}
use Rattle.plan_model.proofs.tables.no_units.Goals as goal

pub returns : goal.returns
returns c = λ k small. get_or-replicate 256 k 0 0 small
