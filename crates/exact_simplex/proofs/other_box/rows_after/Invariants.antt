use Rattle.std.proofs.Common.{ℕ, ◌<◌}
use Rattle.exact_simplex.specs.Cells.{cell_of, row_of}
use Rattle.exact_simplex.specs.Rebounds.{IsRowShifted, ValueFits}
use Rattle.exact_simplex.proofs.Pushes.{Listed}
use Rattle.exact_simplex.proofs.other_box.rows_after.Given as goal

abbrev pub invariant-loop-place : goal.invariant-loop-place
invariant-loop-place l = record {
  listed : Listed (λ i row. IsRowShifted i row (row_of l.cells i) l.shifts) l.rows.items l.place;
  fits : (i : ℕ) → i < l.place → ValueFits i (row_of l.cells i) l.shifts (cell_of (row_of l.cells i) 0);
}
