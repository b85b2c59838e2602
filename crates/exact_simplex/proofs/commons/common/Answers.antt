use Rattle.exact_simplex.proofs.Divides.{divisor_some}
use Rattle.exact_simplex.proofs.CommonSteps.{common_some, common_none}
use Rattle.exact_simplex.proofs.commons.common.Goals as goal

pub nonzero_div-other : goal.nonzero_div-other
nonzero_div-other c = divisor_some c.gcd-shared.result c.args.other c.gcd-shared.ensures.1 c.requires.other

pub returns-clause-both : goal.returns-clause-both
returns-clause-both c = common_some c.args.den c.args.other c.gcd-shared.result c.multiple.result c.requires.den c.requires.other (rw c.from.ensures at c.gcd-shared.ensures) c.multiple.ensures

pub returns-clause-none : goal.returns-clause-none
returns-clause-none c = common_none c.args.den c.args.other c.gcd-shared.result c.multiple.result c.requires.den c.requires.other (rw c.from.ensures at c.gcd-shared.ensures) c.multiple.ensures
