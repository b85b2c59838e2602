use Rattle.std.proofs.Common.{to_z-of_z, FitsSigned, rules, arith}
use Rattle.std.specs.Int.{w128}
use Rattle.exact_simplex.proofs.PointSteps.{whole_most, value_is}
use Rattle.exact_simplex.proofs.point.number_over.Goals as goal

pub overflow_add-result : goal.overflow_add-result
overflow_add-result c =
    let num : FitsSigned w128 c.args.step.num = search rules in
    let den : FitsSigned w128 c.args.step.den = search rules in
    let own = simp to_z-of_z at c.unsigned_abs-own.ensures.value in
    let top = simp to_z-of_z at c.unsigned_abs-top.ensures.value in
    let most = whole_most c.args.low c.args.step c.requires.step in
    rw (own, top) (omega (arith, most))

pub returns-clause-value : goal.returns-clause-value
returns-clause-value c =
    let num : FitsSigned w128 c.args.step.num = search rules in
    let den : FitsSigned w128 c.args.step.den = search rules in
    let own = simp to_z-of_z at c.unsigned_abs-own.ensures.value in
    let top = simp to_z-of_z at c.unsigned_abs-top.ensures.value in
    rw (c.from.ensures, own, top) (value_is c.args.low c.args.step c.args.den c.requires.step.above c.requires.over)
