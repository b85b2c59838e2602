use Rattle.std.proofs.Common.{to_z-of_z, FitsSigned, rules, arith, ◌≤ℤ◌, pos}
use Rattle.std.proofs.lemmas.Int.{ints}
use Rattle.std.specs.Int.{w128}
use Rattle.exact_simplex.proofs.CommonSteps.{num_some, num_none}
use Rattle.exact_simplex.proofs.commons.num_over.Goals as goal

pub returns-clause-num : goal.returns-clause-num
returns-clause-num c =
    let num : FitsSigned w128 c.args.number.num = search rules in
    let den : FitsSigned w128 c.args.number.den = search rules in
    let own = simp to_z-of_z at c.unsigned_abs.ensures.value in
    let top = simp to_z-of_z at c.unsigned_abs-2.ensures.value in
    let not_below = simp to_z-of_z at c.if-number-lt0.false in
    let above : pos 0 ≤ℤ c.args.number.num = omega (arith, ints, not_below) in
    num_some c.args.number c.args.den c.multiple.result above c.requires.over (rw (c.from.ensures, own, top) at c.multiple.ensures)

pub returns-clause-none : goal.returns-clause-none
returns-clause-none c =
    let num : FitsSigned w128 c.args.number.num = search rules in
    let den : FitsSigned w128 c.args.number.den = search rules in
    let own = simp to_z-of_z at c.unsigned_abs.ensures.value in
    let top = simp to_z-of_z at c.unsigned_abs-2.ensures.value in
    num_none c.args.number c.args.den c.multiple.result c.requires.over (rw (c.from.ensures, own, top) at c.multiple.ensures)
