use Rattle.exact_fraction.proofs.LawLemmas.{sums_commute_lem}
use Rattle.exact_fraction.proofs.laws.sums_commute.Goals as goal

pub returns : goal.returns
returns c = sums_commute_lem
