use Rattle.std.proofs.Common.{rules, FitsSigned, to_z-of_z, sym, ◌∙◌}
use Rattle.std.specs.Int.{w128}
use Rattle.exact_fraction.proofs.Parts.{fits_sum}
use Rattle.exact_fraction.proofs.Fast.{alike_none, whole_top, whole_lowest, whole_rest}
use Rattle.exact_fraction.proofs.fraction.Fraction.add_whole.Goals as goal

pub invariant_of-result : goal.invariant_of-result
invariant_of-result c =
    let a : FitsSigned w128 c.args.self.num = search rules in
    let n : FitsSigned w128 c.args.other.num = search rules in
    let num : FitsSigned w128 c.in-Some.num = search rules in
    let made = rw c.in-Some.is at (simp to_z-of_z at c.sum.ensures) in
    simp to_z-of_z (record { lowest = whole_lowest _ _ made.0 made.1 })

pub returns-in-Some-clause-fits : goal.returns-in-Some-clause-fits
returns-in-Some-clause-fits c =
    let a : FitsSigned w128 c.args.self.num = search rules in
    let n : FitsSigned w128 c.args.other.num = search rules in
    let num : FitsSigned w128 c.in-Some.num = search rules in
    let made = rw c.in-Some.is at (simp to_z-of_z at c.sum.ensures) in
    fits_sum _ _ _ _ _ _ _ _ _ _ (whole_top _ _ _ _ _ c.args.self.lowest c.args.other.lowest c.requires.own c.requires.their made.0 made.1) (whole_rest _ c.requires.their)

pub returns-in-None-clause-none : goal.returns-in-None-clause-none
returns-in-None-clause-none c =
    let a : FitsSigned w128 c.args.self.num = search rules in
    let n : FitsSigned w128 c.args.other.num = search rules in
    let total = simp to_z-of_z at c.sum.ensures in
    alike_none c.sum.result _ _ _ _ c.args.self.lowest c.args.other.lowest (c.requires.own ∙ sym c.requires.their) c.in-None.is total
