use Rattle.std.proofs.Common.{◌∙◌}
use Rattle.exact_simplex.proofs.ReboundSteps.{moved_result, within_rows}
use Rattle.exact_simplex.proofs.other_box.rebound.Goals as goal

pub rows_after-requires-clause-units : goal.rows_after-requires-clause-units
rows_after-requires-clause-units c = within_rows c.args.at.now c.as_slice-cells.result.now c.as_slice-units.result.now c.len.result c.args.old.now c.args.new.now c.as_slice.result.now c.as_slice-cells.ensures.items c.as_slice-units.ensures.items (c.as_slice.ensures.value ∙ c.in_ok-shifts.ensures)

pub returns-clause-standing : goal.returns-clause-standing
returns-clause-standing c =
    let size = rw c.in-Some.is at c.in_ok-rows.ensures.size in
    let rows = rw c.in-Some.is at c.in_ok-rows.ensures.rows in
    moved_result c.args.program.now c.args.old.now c.args.new.now c.args.at.now _ c.as_slice-cells.result.now c.in-Some.rows.items c.as_slice-units.result.now c.len.result c.as_slice.result.now c.requires.standing c.as_slice-cells.ensures.items c.as_slice-units.ensures.items c.len.ensures (c.as_slice.ensures.value ∙ c.in_ok-shifts.ensures) c.in_ok-units.ensures c.from_vec-cells.ensures size rows
