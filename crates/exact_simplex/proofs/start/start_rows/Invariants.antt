use Rattle.std.proofs.Common.{length}
use Rattle.exact_simplex.specs.Beginning.{ShowsForm}
use Rattle.exact_simplex.specs.Forms.{forms_of, parts_of}
use Rattle.exact_simplex.proofs.Pushes.{Listed}
use Rattle.exact_simplex.proofs.start.start_rows.Given as goal

abbrev pub invariant-loop-i : goal.invariant-loop-i
invariant-loop-i l = Listed (λ i row. ShowsForm (length l.program.columns) row (forms_of (parts_of l.program l.bounds) i)) l.cells.items l.i
