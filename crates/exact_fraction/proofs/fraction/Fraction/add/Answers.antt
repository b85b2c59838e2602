use Rattle.std.proofs.Common.{arith, ◌≡◌, pos, FitsSigned, rules}
use Rattle.std.specs.Int.{w128}
use Rattle.std.proofs.lemmas.Int.{ints}
use Rattle.exact_fraction.proofs.Fast.{left_zero_sum, right_zero_sum}
use Rattle.exact_fraction.proofs.fraction.Fraction.add.Goals as goal

pub returns-then-self-eq0-clause-value : goal.returns-then-self-eq0-clause-value
returns-then-self-eq0-clause-value c =
    let a : FitsSigned w128 c.args.self.num = search rules in
    let none : c.args.self.num ≡ pos 0 = omega (arith, ints) in
    (left_zero_sum _ _ _ _ c.args.self.lowest c.args.other.lowest none).value

pub returns-then-self-eq0-clause-fits : goal.returns-then-self-eq0-clause-fits
returns-then-self-eq0-clause-fits c =
    let a : FitsSigned w128 c.args.self.num = search rules in
    let none : c.args.self.num ≡ pos 0 = omega (arith, ints) in
    (left_zero_sum _ _ _ _ c.args.self.lowest c.args.other.lowest none).fits

pub returns-then-other-eq0-clause-value : goal.returns-then-other-eq0-clause-value
returns-then-other-eq0-clause-value c =
    let a : FitsSigned w128 c.args.other.num = search rules in
    let none : c.args.other.num ≡ pos 0 = omega (arith, ints) in
    (right_zero_sum _ _ _ _ c.args.self.lowest c.args.other.lowest none).value

pub returns-then-other-eq0-clause-fits : goal.returns-then-other-eq0-clause-fits
returns-then-other-eq0-clause-fits c =
    let a : FitsSigned w128 c.args.other.num = search rules in
    let none : c.args.other.num ≡ pos 0 = omega (arith, ints) in
    (right_zero_sum _ _ _ _ c.args.self.lowest c.args.other.lowest none).fits
