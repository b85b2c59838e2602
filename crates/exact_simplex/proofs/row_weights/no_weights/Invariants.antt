use Rattle.std.proofs.Common.{◌≡◌, ℕ, ◌<◌, length, pos}
use Rattle.exact_simplex.specs.Cells.{cell_of}
use Rattle.exact_simplex.proofs.row_weights.no_weights.Given as goal

abbrev pub invariant-loop-i : goal.invariant-loop-i
invariant-loop-i l = record {
  size : length l.weights.items ≡ l.i;
  none : (i : ℕ) → i < l.i → (cell_of l.weights.items i).num ≡ pos 0;
}
