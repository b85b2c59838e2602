use Rattle.std.proofs.Common.{◌≡◌, ℕ, ◌<◌, length}
use Rattle.exact_simplex.specs.Cells.{cell_of}
use Rattle.exact_simplex.specs.Certificates.{IsWeight}
use Rattle.exact_simplex.proofs.row_weights.weights_of.Given as goal

abbrev pub invariant-loop-k : goal.invariant-loop-k
invariant-loop-k l = record {
  size : length l.weights.items ≡ l.rows;
  weights : (i : ℕ) → i < l.rows → IsWeight l.units l.row l.k i (cell_of l.weights.items i).num (cell_of l.weights.items i).den;
}
