use Rattle.std.proofs.Common.{rules, FitsSigned, to_z-of_z}
use Rattle.std.specs.Int.{w128}
use Rattle.exact_fraction.proofs.Parts.{no_product_top, fits_product}
use Rattle.exact_fraction.proofs.Fast.{whole_found, whole_lowest, one_small}
use Rattle.exact_fraction.proofs.fraction.Fraction.mul_whole.Goals as goal

pub invariant_of-result : goal.invariant_of-result
invariant_of-result c =
    let a : FitsSigned w128 c.args.self.num = search rules in
    let n : FitsSigned w128 c.args.other.num = search rules in
    let num : FitsSigned w128 c.in-Some.num = search rules in
    let made = rw c.in-Some.is at (simp to_z-of_z at c.product.ensures) in
    simp to_z-of_z (record { lowest = whole_lowest _ _ made.0 made.1 })

pub returns-in-Some-clause-fits : goal.returns-in-Some-clause-fits
returns-in-Some-clause-fits c =
    let a : FitsSigned w128 c.args.self.num = search rules in
    let n : FitsSigned w128 c.args.other.num = search rules in
    let num : FitsSigned w128 c.in-Some.num = search rules in
    let made = rw c.in-Some.is at (simp to_z-of_z at c.product.ensures) in
    fits_product _ _ _ _ _ _ _ _ _ _ (whole_found _ _ _ _ c.args.self.lowest c.args.other.lowest c.requires.own c.requires.their) made.0 (one_small _ _ c.requires.own c.requires.their)

pub returns-in-None-clause-none : goal.returns-in-None-clause-none
returns-in-None-clause-none c =
    let a : FitsSigned w128 c.args.self.num = search rules in
    let n : FitsSigned w128 c.args.other.num = search rules in
    let total = simp to_z-of_z at c.product.ensures in
    no_product_top _ _ _ _ _ _ _ _ _ _ c.product.result (whole_found _ _ _ _ c.args.self.lowest c.args.other.lowest c.requires.own c.requires.their) c.in-None.is total
