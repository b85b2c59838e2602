use Rattle.std.proofs.Common.{◌∙◌, ◌≡◌, length}
use Rattle.exact_simplex.proofs.StopSteps.{stop_duals_found}
use Rattle.exact_simplex.proofs.run.near_duals.Goals as goal

pub returns-clause-duals : goal.returns-clause-duals
returns-clause-duals c =
    let program = c.args.program.now in
    let weights = c.in_ok-weights.weights.items in
    let size : length weights ≡ length program.rows = c.in_ok-weights.ensures.size ∙ c.len.ensures in
    let are = rw c.len.ensures at c.in_ok-weights.ensures.weights in
    stop_duals_found program c.args.at.now weights c.near_multipliers.result size are (rw c.as_slice.ensures.value at c.near_multipliers.ensures.near)
