use Rattle.std.proofs.Common.{sym, rules, FitsSigned, to_z-of_z, pos, ◌*ℤ◌}
use Rattle.std.specs.Int.{w128}
use Rattle.exact_fraction.specs.Sizes.{IsSmall}
use Rattle.exact_fraction.proofs.Parts.{fits_sum, lowest_sum, ratio_sum}
use Rattle.exact_fraction.proofs.Fast.{alike_top, alike_none, one_times, alike_small}
use Rattle.exact_fraction.proofs.fraction.Fraction.add_alike.Goals as goal

pub returns-in_default-clause-none : goal.returns-in_default-clause-none
returns-in_default-clause-none c =
    let a : FitsSigned w128 c.args.self.num = search rules in
    let n : FitsSigned w128 c.args.other.num = search rules in
    let total = simp to_z-of_z at c.sum.ensures in
    alike_none c.sum.result _ _ _ _ c.args.self.lowest c.args.other.lowest c.requires c.in_default.is total

pub invariant_of-result : goal.invariant_of-result
invariant_of-result c =
    let a : FitsSigned w128 c.args.self.num = search rules in
    let b : FitsSigned w128 c.args.self.den = search rules in
    let n : FitsSigned w128 c.args.other.num = search rules in
    let d : FitsSigned w128 c.args.other.den = search rules in
    let top : FitsSigned w128 c.in-Some.top = search rules in
    let total = simp to_z-of_z at c.sum.ensures in
    let made = rw c.in-Some.is at total in
    let rest : FitsSigned w128 c.quotient-2.result = search rules in
    let there = alike_top _ _ _ _ _ _ _ _ c.args.self.lowest c.args.other.lowest c.requires made.0 made.1 (simp to_z-of_z at c.unsigned_abs.ensures.value) (simp to_z-of_z at c.divisor-t.ensures.gcd) c.divisor-t.ensures.above_none (simp to_z-of_z at c.quotient-2.ensures) in
    let small : IsSmall (pos 1 *ℤ c.quotient-2.result) = alike_small _ _ _ c.args.other.lowest c.divisor-t.ensures.above_none (simp to_z-of_z at c.quotient-2.ensures) in
    let num : FitsSigned w128 c.quotient.result = search rules in
    let is_num = simp to_z-of_z at c.quotient.ensures in
    simp to_z-of_z (record { lowest = lowest_sum _ _ _ _ _ _ _ _ _ _ _ _ there small (sym (one_times c.quotient-2.result)) is_num })

pub returns-clause-value : goal.returns-clause-value
returns-clause-value c =
    let a : FitsSigned w128 c.args.self.num = search rules in
    let b : FitsSigned w128 c.args.self.den = search rules in
    let n : FitsSigned w128 c.args.other.num = search rules in
    let d : FitsSigned w128 c.args.other.den = search rules in
    let top : FitsSigned w128 c.in-Some.top = search rules in
    let total = simp to_z-of_z at c.sum.ensures in
    let made = rw c.in-Some.is at total in
    let rest : FitsSigned w128 c.quotient-2.result = search rules in
    let there = alike_top _ _ _ _ _ _ _ _ c.args.self.lowest c.args.other.lowest c.requires made.0 made.1 (simp to_z-of_z at c.unsigned_abs.ensures.value) (simp to_z-of_z at c.divisor-t.ensures.gcd) c.divisor-t.ensures.above_none (simp to_z-of_z at c.quotient-2.ensures) in
    let small : IsSmall (pos 1 *ℤ c.quotient-2.result) = alike_small _ _ _ c.args.other.lowest c.divisor-t.ensures.above_none (simp to_z-of_z at c.quotient-2.ensures) in
    let num : FitsSigned w128 c.quotient.result = search rules in
    let is_num = simp to_z-of_z at c.quotient.ensures in
    simp to_z-of_z (ratio_sum _ _ _ _ _ _ _ _ _ _ _ _ there (sym (one_times c.quotient-2.result)) is_num)

pub returns-clause-fits : goal.returns-clause-fits
returns-clause-fits c =
    let a : FitsSigned w128 c.args.self.num = search rules in
    let b : FitsSigned w128 c.args.self.den = search rules in
    let n : FitsSigned w128 c.args.other.num = search rules in
    let d : FitsSigned w128 c.args.other.den = search rules in
    let top : FitsSigned w128 c.in-Some.top = search rules in
    let total = simp to_z-of_z at c.sum.ensures in
    let made = rw c.in-Some.is at total in
    let rest : FitsSigned w128 c.quotient-2.result = search rules in
    let there = alike_top _ _ _ _ _ _ _ _ c.args.self.lowest c.args.other.lowest c.requires made.0 made.1 (simp to_z-of_z at c.unsigned_abs.ensures.value) (simp to_z-of_z at c.divisor-t.ensures.gcd) c.divisor-t.ensures.above_none (simp to_z-of_z at c.quotient-2.ensures) in
    let small : IsSmall (pos 1 *ℤ c.quotient-2.result) = alike_small _ _ _ c.args.other.lowest c.divisor-t.ensures.above_none (simp to_z-of_z at c.quotient-2.ensures) in
    fits_sum _ _ _ _ _ _ _ _ _ _ there small
