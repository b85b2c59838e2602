use Rattle.std.proofs.Common.{◌≡◌, ℕ, ◌<◌, ◌==◌, length}
use Rattle.exact_simplex.specs.Cells.{row_of}
use Rattle.exact_simplex.specs.Changes.{ChangeFor, change_at}
use Rattle.exact_simplex.proofs.rows.changes_of.Given as goal

abbrev pub invariant-loop-i : goal.invariant-loop-i
invariant-loop-i l = record {
  size : length l.changes.items ≡ l.i;
  at : (i : ℕ) → i < l.i → ChangeFor (i == l.place) (change_at l.changes.items i) (row_of l.cells i) l.shares l.column l.pivot;
}
