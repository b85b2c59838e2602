use Rattle.std.proofs.Common.{subst, sym, to_z-of_z, FitsSigned, unsigned_abs}
use Rattle.std.specs.Int.{IsGcd, w128}
use Rattle.exact_fraction.proofs.Mixes.{gcd_above_none, gcd_most}
use Rattle.exact_fraction.proofs.Fast.{gcd_of_one}
use Rattle.exact_fraction.proofs.small.divisor.Goals as goal

pub returns-then-m-eq1-clause-gcd : goal.returns-then-m-eq1-clause-gcd
returns-then-m-eq1-clause-gcd c = subst (λ m. IsGcd (unsigned_abs c.args.n) m 1) (sym c.if-m-eq1.true) (gcd_of_one (unsigned_abs c.args.n))

pub returns-else-m-eq1-clause-gcd : goal.returns-else-m-eq1-clause-gcd
returns-else-m-eq1-clause-gcd c =
    let n : FitsSigned w128 c.args.n = c.ranges.n in
    let value = simp to_z-of_z at c.unsigned_abs.ensures.value in
    subst (λ m. IsGcd m c.args.m c.gcd.result) value c.gcd.ensures

pub returns-else-m-eq1-clause-above_none : goal.returns-else-m-eq1-clause-above_none
returns-else-m-eq1-clause-above_none c = gcd_above_none _ _ _ c.requires.above_none c.gcd.ensures

pub returns-else-m-eq1-clause-most : goal.returns-else-m-eq1-clause-most
returns-else-m-eq1-clause-most c = gcd_most _ _ _ _ c.requires.above_none c.requires.most c.gcd.ensures
