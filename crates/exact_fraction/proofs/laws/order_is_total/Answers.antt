use Rattle.exact_fraction.proofs.LawLemmas.{total_lem}
use Rattle.exact_fraction.proofs.laws.order_is_total.Goals as goal

pub returns : goal.returns
returns c = total_lem
