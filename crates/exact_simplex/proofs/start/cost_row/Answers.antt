use Rattle.std.proofs.Common.{rules, to_z-of_z, FitsSigned, length}
use Rattle.std.specs.Int.{w64}
use Rattle.exact_simplex.specs.Forms.{costs, form_at, parts_of}
use Rattle.exact_simplex.proofs.StartSteps.{form_when}
use Rattle.exact_simplex.proofs.start.cost_row.Goals as goal

pub returns : goal.returns
returns c =
    let v : FitsSigned w64 c.costs_at_lows-value.result = search rules in
    let made = simp to_z-of_z at c.whole_row.ensures in
    form_when c.whole_row.result (length c.args.program.now.columns) c.costs_at_lows-value.result c.as_slice-given.result.now (form_at (parts_of c.args.program.now c.args.bounds.now) costs) made (rw c.as_slice-given.ensures.value (rw c.as_slice-columns.ensures.items at c.in_ok-slopes.ensures)) c.costs_at_lows-value.ensures
