use Rattle.std.proofs.Common.{arith}
use Rattle.class_expand.proofs.PartMost.{board-most}
use Rattle.class_expand.proofs.counting.on_board.Goals as goal

pub overflow_cast-result : goal.overflow_cast-result
overflow_cast-result c =
    let most = board-most c.args.case.now c.args.a.now c.args.r c.args.board c.requires.fitting c.requires.there in
    omega (arith, most, c.units_on_board.ensures)

pub returns-clause-most : goal.returns-clause-most
returns-clause-most c =
    let most = board-most c.args.case.now c.args.a.now c.args.r c.args.board c.requires.fitting c.requires.there in
    omega (arith, most, c.units_on_board.ensures)
