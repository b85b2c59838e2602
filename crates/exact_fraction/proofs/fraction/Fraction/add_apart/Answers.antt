use Rattle.std.proofs.Common.{rules, FitsSigned, to_z-of_z}
use Rattle.std.specs.Int.{w128}
use Rattle.exact_fraction.proofs.Parts.{sum_found, TopFound, no_mix, no_bottom, fits_sum, lowest_sum, ratio_sum}
use Rattle.exact_fraction.proofs.fraction.Fraction.add_apart.Goals as goal

pub returns-in_default-clause-none : goal.returns-in_default-clause-none
returns-in_default-clause-none c =
    let a : FitsSigned w128 c.args.self.num = search rules in
    let b : FitsSigned w128 c.args.self.den = search rules in
    let n : FitsSigned w128 c.args.other.num = search rules in
    let d : FitsSigned w128 c.args.other.den = search rules in
    let own : FitsSigned w128 c.quotient-own.result = search rules in
    let their : FitsSigned w128 c.quotient.result = search rules in
    let found = sum_found c.args.self.num c.args.self.den c.args.other.num c.args.other.den c.divisor-g.result c.unsigned_abs.result c.quotient-own.result c.quotient.result c.args.self.lowest c.args.other.lowest (simp to_z-of_z at c.unsigned_abs.ensures.value) (simp to_z-of_z at c.divisor-g.ensures.gcd) c.divisor-g.ensures.above_none (simp to_z-of_z at c.quotient-own.ensures) (simp to_z-of_z at c.quotient.ensures) in
    let mixed = simp to_z-of_z at c.mix.ensures in
    no_mix c.args.self.num c.args.self.den c.args.other.num c.args.other.den c.divisor-g.result c.quotient-own.result c.quotient.result c.mix.result found c.in_default.is mixed

pub returns-in_default-product-clause-none : goal.returns-in_default-product-clause-none
returns-in_default-product-clause-none c =
    let a : FitsSigned w128 c.args.self.num = search rules in
    let b : FitsSigned w128 c.args.self.den = search rules in
    let n : FitsSigned w128 c.args.other.num = search rules in
    let d : FitsSigned w128 c.args.other.den = search rules in
    let own : FitsSigned w128 c.quotient-own.result = search rules in
    let their : FitsSigned w128 c.quotient.result = search rules in
    let found = sum_found c.args.self.num c.args.self.den c.args.other.num c.args.other.den c.divisor-g.result c.unsigned_abs.result c.quotient-own.result c.quotient.result c.args.self.lowest c.args.other.lowest (simp to_z-of_z at c.unsigned_abs.ensures.value) (simp to_z-of_z at c.divisor-g.ensures.gcd) c.divisor-g.ensures.above_none (simp to_z-of_z at c.quotient-own.ensures) (simp to_z-of_z at c.quotient.ensures) in
    let mixed = simp to_z-of_z at c.mix.ensures in
    let top : FitsSigned w128 c.in-Some.top = search rules in
    let rest : FitsSigned w128 c.quotient-2.result = search rules in
    let there : TopFound c.args.self.num c.args.self.den c.args.other.num c.args.other.den c.divisor-g.result c.quotient-own.result c.quotient.result c.in-Some.top c.divisor-t.result c.quotient-2.result = record { found = found; mixed = rw c.in-Some.is at mixed; is_t = simp to_z-of_z at c.divisor-t.ensures.gcd; some_t = c.divisor-t.ensures.above_none; is_rest = simp to_z-of_z at c.quotient-2.ensures } in
    let bottom = simp to_z-of_z at c.product.ensures in
    no_bottom c.args.self.num c.args.self.den c.args.other.num c.args.other.den c.divisor-g.result c.quotient-own.result c.quotient.result c.in-Some.top c.divisor-t.result c.quotient-2.result c.product.result there c.in_default-product.is bottom

pub invariant_of-result : goal.invariant_of-result
invariant_of-result c =
    let a : FitsSigned w128 c.args.self.num = search rules in
    let b : FitsSigned w128 c.args.self.den = search rules in
    let n : FitsSigned w128 c.args.other.num = search rules in
    let d : FitsSigned w128 c.args.other.den = search rules in
    let own : FitsSigned w128 c.quotient-own.result = search rules in
    let their : FitsSigned w128 c.quotient.result = search rules in
    let found = sum_found c.args.self.num c.args.self.den c.args.other.num c.args.other.den c.divisor-g.result c.unsigned_abs.result c.quotient-own.result c.quotient.result c.args.self.lowest c.args.other.lowest (simp to_z-of_z at c.unsigned_abs.ensures.value) (simp to_z-of_z at c.divisor-g.ensures.gcd) c.divisor-g.ensures.above_none (simp to_z-of_z at c.quotient-own.ensures) (simp to_z-of_z at c.quotient.ensures) in
    let mixed = simp to_z-of_z at c.mix.ensures in
    let top : FitsSigned w128 c.in-Some.top = search rules in
    let rest : FitsSigned w128 c.quotient-2.result = search rules in
    let there : TopFound c.args.self.num c.args.self.den c.args.other.num c.args.other.den c.divisor-g.result c.quotient-own.result c.quotient.result c.in-Some.top c.divisor-t.result c.quotient-2.result = record { found = found; mixed = rw c.in-Some.is at mixed; is_t = simp to_z-of_z at c.divisor-t.ensures.gcd; some_t = c.divisor-t.ensures.above_none; is_rest = simp to_z-of_z at c.quotient-2.ensures } in
    let bottom = simp to_z-of_z at c.product.ensures in
    let num : FitsSigned w128 c.quotient-3.result = search rules in
    let den : FitsSigned w128 c.in-Some-product.den = search rules in
    let small = rw c.in-Some-product.is at bottom in
    let is_num = simp to_z-of_z at c.quotient-3.ensures in
    simp to_z-of_z (record { lowest = lowest_sum c.args.self.num c.args.self.den c.args.other.num c.args.other.den c.divisor-g.result c.quotient-own.result c.quotient.result c.in-Some.top c.divisor-t.result c.quotient-2.result c.quotient-3.result c.in-Some-product.den there small.0 small.1 is_num })

pub returns-clause-value : goal.returns-clause-value
returns-clause-value c =
    let a : FitsSigned w128 c.args.self.num = search rules in
    let b : FitsSigned w128 c.args.self.den = search rules in
    let n : FitsSigned w128 c.args.other.num = search rules in
    let d : FitsSigned w128 c.args.other.den = search rules in
    let own : FitsSigned w128 c.quotient-own.result = search rules in
    let their : FitsSigned w128 c.quotient.result = search rules in
    let found = sum_found c.args.self.num c.args.self.den c.args.other.num c.args.other.den c.divisor-g.result c.unsigned_abs.result c.quotient-own.result c.quotient.result c.args.self.lowest c.args.other.lowest (simp to_z-of_z at c.unsigned_abs.ensures.value) (simp to_z-of_z at c.divisor-g.ensures.gcd) c.divisor-g.ensures.above_none (simp to_z-of_z at c.quotient-own.ensures) (simp to_z-of_z at c.quotient.ensures) in
    let mixed = simp to_z-of_z at c.mix.ensures in
    let top : FitsSigned w128 c.in-Some.top = search rules in
    let rest : FitsSigned w128 c.quotient-2.result = search rules in
    let there : TopFound c.args.self.num c.args.self.den c.args.other.num c.args.other.den c.divisor-g.result c.quotient-own.result c.quotient.result c.in-Some.top c.divisor-t.result c.quotient-2.result = record { found = found; mixed = rw c.in-Some.is at mixed; is_t = simp to_z-of_z at c.divisor-t.ensures.gcd; some_t = c.divisor-t.ensures.above_none; is_rest = simp to_z-of_z at c.quotient-2.ensures } in
    let bottom = simp to_z-of_z at c.product.ensures in
    let num : FitsSigned w128 c.quotient-3.result = search rules in
    let den : FitsSigned w128 c.in-Some-product.den = search rules in
    let small = rw c.in-Some-product.is at bottom in
    let is_num = simp to_z-of_z at c.quotient-3.ensures in
    simp to_z-of_z (ratio_sum c.args.self.num c.args.self.den c.args.other.num c.args.other.den c.divisor-g.result c.quotient-own.result c.quotient.result c.in-Some.top c.divisor-t.result c.quotient-2.result c.quotient-3.result c.in-Some-product.den there small.1 is_num)

pub returns-clause-fits : goal.returns-clause-fits
returns-clause-fits c =
    let a : FitsSigned w128 c.args.self.num = search rules in
    let b : FitsSigned w128 c.args.self.den = search rules in
    let n : FitsSigned w128 c.args.other.num = search rules in
    let d : FitsSigned w128 c.args.other.den = search rules in
    let own : FitsSigned w128 c.quotient-own.result = search rules in
    let their : FitsSigned w128 c.quotient.result = search rules in
    let found = sum_found c.args.self.num c.args.self.den c.args.other.num c.args.other.den c.divisor-g.result c.unsigned_abs.result c.quotient-own.result c.quotient.result c.args.self.lowest c.args.other.lowest (simp to_z-of_z at c.unsigned_abs.ensures.value) (simp to_z-of_z at c.divisor-g.ensures.gcd) c.divisor-g.ensures.above_none (simp to_z-of_z at c.quotient-own.ensures) (simp to_z-of_z at c.quotient.ensures) in
    let mixed = simp to_z-of_z at c.mix.ensures in
    let top : FitsSigned w128 c.in-Some.top = search rules in
    let rest : FitsSigned w128 c.quotient-2.result = search rules in
    let there : TopFound c.args.self.num c.args.self.den c.args.other.num c.args.other.den c.divisor-g.result c.quotient-own.result c.quotient.result c.in-Some.top c.divisor-t.result c.quotient-2.result = record { found = found; mixed = rw c.in-Some.is at mixed; is_t = simp to_z-of_z at c.divisor-t.ensures.gcd; some_t = c.divisor-t.ensures.above_none; is_rest = simp to_z-of_z at c.quotient-2.ensures } in
    let bottom = simp to_z-of_z at c.product.ensures in
    let num : FitsSigned w128 c.quotient-3.result = search rules in
    let den : FitsSigned w128 c.in-Some-product.den = search rules in
    let small = rw c.in-Some-product.is at bottom in
    let is_num = simp to_z-of_z at c.quotient-3.ensures in
    fits_sum c.args.self.num c.args.self.den c.args.other.num c.args.other.den c.divisor-g.result c.quotient-own.result c.quotient.result c.in-Some.top c.divisor-t.result c.quotient-2.result there small.0
