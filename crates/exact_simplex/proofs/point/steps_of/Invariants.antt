use Rattle.std.proofs.Common.{◌≡◌, ℕ, ◌<◌, suc, length}
use Rattle.exact_simplex.specs.Cells.{cell_of, row_of}
use Rattle.exact_simplex.proofs.point.steps_of.Given as goal

abbrev pub invariant-loop-j : goal.invariant-loop-j
invariant-loop-j l = record {
  size : length l.steps.items ≡ l.j;
  steps : (j : ℕ) → j < l.j → cell_of l.steps.items j ≡ cell_of (row_of l.at.cells (suc j)) 0;
}
