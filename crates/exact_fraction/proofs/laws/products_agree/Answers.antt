use Rattle.exact_fraction.proofs.LawLemmas.{products_agree_lem}
use Rattle.exact_fraction.proofs.laws.products_agree.Goals as goal

pub returns : goal.returns
returns c = products_agree_lem
