use Rattle.exact_fraction.proofs.LawLemmas.{by_sign_lem}
use Rattle.exact_fraction.proofs.laws.order_goes_by_sign.Goals as goal

pub returns : goal.returns
returns c = by_sign_lem
