use Rattle.exact_fraction.proofs.LawLemmas.{sums_agree_lem}
use Rattle.exact_fraction.proofs.laws.sums_agree.Goals as goal

pub returns : goal.returns
returns c = sums_agree_lem
