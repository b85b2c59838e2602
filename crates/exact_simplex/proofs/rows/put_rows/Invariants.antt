use Rattle.std.proofs.Common.{◌≡◌, ℕ, ◌<◌, ◌≤◌, length, take, unwrap_or}
use Rattle.exact_simplex.specs.Cells.{row_of}
use Rattle.exact_simplex.specs.Changes.{change_at}
use Rattle.exact_simplex.proofs.rows.put_rows.Given as goal

abbrev pub invariant-loop-change : goal.invariant-loop-change
invariant-loop-change l = record {
  place : l.place ≡ length l.changes.items;
  few : length l.changes.items ≤ length l.fn.cells;
  size : length l.cells ≡ length l.fn.cells;
  left : l.changes.items ≡ take (length l.changes.items) l.fn.changes.items;
  before : (i : ℕ) → i < length l.changes.items → row_of l.cells i ≡ row_of l.fn.cells i;
  put : (i : ℕ) → length l.changes.items ≤ i → i < length l.fn.cells → row_of l.cells i ≡ unwrap_or (change_at l.fn.changes.items i) (row_of l.fn.cells i);
}

abbrev pub decreases-loop-change : goal.decreases-loop-change
decreases-loop-change l = length l.changes.items
