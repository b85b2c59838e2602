use Rattle.std.proofs.Common.{arith}
use Rattle.class_expand.proofs.PartMost.{center-most}
use Rattle.class_expand.proofs.counting.in_center.Goals as goal

pub overflow_cast-result : goal.overflow_cast-result
overflow_cast-result c =
    let most = center-most c.args.case.now c.args.a.now c.args.r c.args.center c.requires.fitting c.requires.there in
    omega (arith, most, c.units_in_center.ensures)

pub returns-clause-most : goal.returns-clause-most
returns-clause-most c =
    let most = center-most c.args.case.now c.args.a.now c.args.r c.args.center c.requires.fitting c.requires.there in
    omega (arith, most, c.units_in_center.ensures)
