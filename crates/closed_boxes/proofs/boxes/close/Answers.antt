use Rattle.closed_boxes.proofs.Closure.{closed_at, refuted_by}
use Rattle.closed_boxes.proofs.boxes.close.Goals as goal

pub returns-in_ok-row_alone-in-Short : goal.returns-in_ok-row_alone-in-Short
returns-in_ok-row_alone-in-Short c =
    let short = rw c.in-Short.is at c.in_ok-row.ensures in
    refuted_by c.args.program.now c.args.bounds.now c.in-Short.row c.in_ok-row_alone-in-Short.field-0 c.requires.fixed short c.in_ok-row_alone-in-Short.ensures.tops

pub returns-in_ok-duals-in-Whole : goal.returns-in_ok-duals-in-Whole
returns-in_ok-duals-in-Whole c =
    let least = rw c.in-Whole.is at c.in_ok-row.ensures in
    let duals = rw c.as_slice.ensures.items at c.in_ok-duals-in-Whole.ensures in
    closed_at c.args.program.now c.args.bounds.now c.in-Whole.point c.value-value.result c.in_ok-duals-in-Whole.duals c.requires.fixed least duals c.value-value.ensures
