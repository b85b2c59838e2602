use Rattle.std.proofs.Common.{rules, FitsSigned, to_z-of_z, pos, int_div, refl}
use Rattle.std.specs.Int.{w128}
use Rattle.exact_fraction.proofs.Parts.{gcd_by, ProductFound, no_product_top, no_product_bottom, fits_product, lowest_product, ratio_product}
use Rattle.exact_fraction.proofs.fraction.Fraction.mul_apart.Goals as goal

pub returns-in_default-clause-none : goal.returns-in_default-clause-none
returns-in_default-clause-none c =
    let a : FitsSigned w128 c.args.self.num = search rules in
    let b : FitsSigned w128 c.args.self.den = search rules in
    let n : FitsSigned w128 c.args.other.num = search rules in
    let d : FitsSigned w128 c.args.other.den = search rules in
    let x : FitsSigned w128 c.quotient.result = search rules in
    let y : FitsSigned w128 c.quotient-2.result = search rules in
    let is_g = gcd_by _ _ _ _ (simp to_z-of_z at c.unsigned_abs.ensures.value) (simp to_z-of_z at c.divisor-g.ensures.gcd) in
    let is_h = gcd_by _ _ _ _ (simp to_z-of_z at c.unsigned_abs-2.ensures.value) (simp to_z-of_z at c.divisor-h.ensures.gcd) in
    let is_x = simp to_z-of_z at c.quotient.ensures in
    let is_y = simp to_z-of_z at c.quotient-2.ensures in
    let tops = simp to_z-of_z at c.product.ensures in
    let z = int_div c.args.self.den (pos c.divisor-h.result) in
    let w = int_div c.args.other.den (pos c.divisor-g.result) in
    let found : ProductFound c.args.self.num c.args.self.den c.args.other.num c.args.other.den c.divisor-g.result c.divisor-h.result c.quotient.result c.quotient-2.result z w = record { first = c.args.self.lowest; second = c.args.other.lowest; is_g = is_g; some_g = c.divisor-g.ensures.above_none; is_h = is_h; some_h = c.divisor-h.ensures.above_none; is_x = is_x; is_y = is_y; is_z = refl; is_w = refl } in
    no_product_top c.args.self.num c.args.self.den c.args.other.num c.args.other.den c.divisor-g.result c.divisor-h.result c.quotient.result c.quotient-2.result z w c.product.result found c.in_default.is tops

pub returns-in_default-product-clause-none : goal.returns-in_default-product-clause-none
returns-in_default-product-clause-none c =
    let a : FitsSigned w128 c.args.self.num = search rules in
    let b : FitsSigned w128 c.args.self.den = search rules in
    let n : FitsSigned w128 c.args.other.num = search rules in
    let d : FitsSigned w128 c.args.other.den = search rules in
    let x : FitsSigned w128 c.quotient.result = search rules in
    let y : FitsSigned w128 c.quotient-2.result = search rules in
    let is_g = gcd_by _ _ _ _ (simp to_z-of_z at c.unsigned_abs.ensures.value) (simp to_z-of_z at c.divisor-g.ensures.gcd) in
    let is_h = gcd_by _ _ _ _ (simp to_z-of_z at c.unsigned_abs-2.ensures.value) (simp to_z-of_z at c.divisor-h.ensures.gcd) in
    let is_x = simp to_z-of_z at c.quotient.ensures in
    let is_y = simp to_z-of_z at c.quotient-2.ensures in
    let tops = simp to_z-of_z at c.product.ensures in
    let z : FitsSigned w128 c.quotient-3.result = search rules in
    let w : FitsSigned w128 c.quotient-4.result = search rules in
    let found : ProductFound c.args.self.num c.args.self.den c.args.other.num c.args.other.den c.divisor-g.result c.divisor-h.result c.quotient.result c.quotient-2.result c.quotient-3.result c.quotient-4.result = record { first = c.args.self.lowest; second = c.args.other.lowest; is_g = is_g; some_g = c.divisor-g.ensures.above_none; is_h = is_h; some_h = c.divisor-h.ensures.above_none; is_x = is_x; is_y = is_y; is_z = simp to_z-of_z at c.quotient-3.ensures; is_w = simp to_z-of_z at c.quotient-4.ensures } in
    let bottoms = simp to_z-of_z at c.product-2.ensures in
    no_product_bottom c.args.self.num c.args.self.den c.args.other.num c.args.other.den c.divisor-g.result c.divisor-h.result c.quotient.result c.quotient-2.result c.quotient-3.result c.quotient-4.result c.product-2.result found c.in_default-product.is bottoms

pub invariant_of-result : goal.invariant_of-result
invariant_of-result c =
    let a : FitsSigned w128 c.args.self.num = search rules in
    let b : FitsSigned w128 c.args.self.den = search rules in
    let n : FitsSigned w128 c.args.other.num = search rules in
    let d : FitsSigned w128 c.args.other.den = search rules in
    let x : FitsSigned w128 c.quotient.result = search rules in
    let y : FitsSigned w128 c.quotient-2.result = search rules in
    let is_g = gcd_by _ _ _ _ (simp to_z-of_z at c.unsigned_abs.ensures.value) (simp to_z-of_z at c.divisor-g.ensures.gcd) in
    let is_h = gcd_by _ _ _ _ (simp to_z-of_z at c.unsigned_abs-2.ensures.value) (simp to_z-of_z at c.divisor-h.ensures.gcd) in
    let is_x = simp to_z-of_z at c.quotient.ensures in
    let is_y = simp to_z-of_z at c.quotient-2.ensures in
    let tops = simp to_z-of_z at c.product.ensures in
    let z : FitsSigned w128 c.quotient-3.result = search rules in
    let w : FitsSigned w128 c.quotient-4.result = search rules in
    let found : ProductFound c.args.self.num c.args.self.den c.args.other.num c.args.other.den c.divisor-g.result c.divisor-h.result c.quotient.result c.quotient-2.result c.quotient-3.result c.quotient-4.result = record { first = c.args.self.lowest; second = c.args.other.lowest; is_g = is_g; some_g = c.divisor-g.ensures.above_none; is_h = is_h; some_h = c.divisor-h.ensures.above_none; is_x = is_x; is_y = is_y; is_z = simp to_z-of_z at c.quotient-3.ensures; is_w = simp to_z-of_z at c.quotient-4.ensures } in
    let bottoms = simp to_z-of_z at c.product-2.ensures in
    let num : FitsSigned w128 c.in-Some.num = search rules in
    let den : FitsSigned w128 c.in-Some-product.den = search rules in
    let top = rw c.in-Some.is at tops in
    let bottom = rw c.in-Some-product.is at bottoms in
    simp to_z-of_z (record { lowest = lowest_product c.args.self.num c.args.self.den c.args.other.num c.args.other.den c.divisor-g.result c.divisor-h.result c.quotient.result c.quotient-2.result c.quotient-3.result c.quotient-4.result c.in-Some.num c.in-Some-product.den found top.0 bottom.0 top.1 bottom.1 })

pub returns-clause-value : goal.returns-clause-value
returns-clause-value c =
    let a : FitsSigned w128 c.args.self.num = search rules in
    let b : FitsSigned w128 c.args.self.den = search rules in
    let n : FitsSigned w128 c.args.other.num = search rules in
    let d : FitsSigned w128 c.args.other.den = search rules in
    let x : FitsSigned w128 c.quotient.result = search rules in
    let y : FitsSigned w128 c.quotient-2.result = search rules in
    let is_g = gcd_by _ _ _ _ (simp to_z-of_z at c.unsigned_abs.ensures.value) (simp to_z-of_z at c.divisor-g.ensures.gcd) in
    let is_h = gcd_by _ _ _ _ (simp to_z-of_z at c.unsigned_abs-2.ensures.value) (simp to_z-of_z at c.divisor-h.ensures.gcd) in
    let is_x = simp to_z-of_z at c.quotient.ensures in
    let is_y = simp to_z-of_z at c.quotient-2.ensures in
    let tops = simp to_z-of_z at c.product.ensures in
    let z : FitsSigned w128 c.quotient-3.result = search rules in
    let w : FitsSigned w128 c.quotient-4.result = search rules in
    let found : ProductFound c.args.self.num c.args.self.den c.args.other.num c.args.other.den c.divisor-g.result c.divisor-h.result c.quotient.result c.quotient-2.result c.quotient-3.result c.quotient-4.result = record { first = c.args.self.lowest; second = c.args.other.lowest; is_g = is_g; some_g = c.divisor-g.ensures.above_none; is_h = is_h; some_h = c.divisor-h.ensures.above_none; is_x = is_x; is_y = is_y; is_z = simp to_z-of_z at c.quotient-3.ensures; is_w = simp to_z-of_z at c.quotient-4.ensures } in
    let bottoms = simp to_z-of_z at c.product-2.ensures in
    let num : FitsSigned w128 c.in-Some.num = search rules in
    let den : FitsSigned w128 c.in-Some-product.den = search rules in
    let top = rw c.in-Some.is at tops in
    let bottom = rw c.in-Some-product.is at bottoms in
    simp to_z-of_z (ratio_product c.args.self.num c.args.self.den c.args.other.num c.args.other.den c.divisor-g.result c.divisor-h.result c.quotient.result c.quotient-2.result c.quotient-3.result c.quotient-4.result c.in-Some.num c.in-Some-product.den found top.1 bottom.1)

pub returns-clause-fits : goal.returns-clause-fits
returns-clause-fits c =
    let a : FitsSigned w128 c.args.self.num = search rules in
    let b : FitsSigned w128 c.args.self.den = search rules in
    let n : FitsSigned w128 c.args.other.num = search rules in
    let d : FitsSigned w128 c.args.other.den = search rules in
    let x : FitsSigned w128 c.quotient.result = search rules in
    let y : FitsSigned w128 c.quotient-2.result = search rules in
    let is_g = gcd_by _ _ _ _ (simp to_z-of_z at c.unsigned_abs.ensures.value) (simp to_z-of_z at c.divisor-g.ensures.gcd) in
    let is_h = gcd_by _ _ _ _ (simp to_z-of_z at c.unsigned_abs-2.ensures.value) (simp to_z-of_z at c.divisor-h.ensures.gcd) in
    let is_x = simp to_z-of_z at c.quotient.ensures in
    let is_y = simp to_z-of_z at c.quotient-2.ensures in
    let tops = simp to_z-of_z at c.product.ensures in
    let z : FitsSigned w128 c.quotient-3.result = search rules in
    let w : FitsSigned w128 c.quotient-4.result = search rules in
    let found : ProductFound c.args.self.num c.args.self.den c.args.other.num c.args.other.den c.divisor-g.result c.divisor-h.result c.quotient.result c.quotient-2.result c.quotient-3.result c.quotient-4.result = record { first = c.args.self.lowest; second = c.args.other.lowest; is_g = is_g; some_g = c.divisor-g.ensures.above_none; is_h = is_h; some_h = c.divisor-h.ensures.above_none; is_x = is_x; is_y = is_y; is_z = simp to_z-of_z at c.quotient-3.ensures; is_w = simp to_z-of_z at c.quotient-4.ensures } in
    let bottoms = simp to_z-of_z at c.product-2.ensures in
    let num : FitsSigned w128 c.in-Some.num = search rules in
    let den : FitsSigned w128 c.in-Some-product.den = search rules in
    let top = rw c.in-Some.is at tops in
    let bottom = rw c.in-Some-product.is at bottoms in
    fits_product c.args.self.num c.args.self.den c.args.other.num c.args.other.den c.divisor-g.result c.divisor-h.result c.quotient.result c.quotient-2.result c.quotient-3.result c.quotient-4.result found top.0 bottom.0
