use Rattle.std.proofs.Common.{length}
use Rattle.exact_simplex.specs.Beginning.{ShowsForm}
use Rattle.exact_simplex.specs.Forms.{forms_of, parts_of}
use Rattle.exact_simplex.proofs.Pushes.{row_pushed}
use Rattle.exact_simplex.proofs.start.start_rows.Goals as goal

pub loop-i-preserved : goal.loop-i-preserved
loop-i-preserved c =
    rw c.in_ok-push.ensures.items (row_pushed (λ i row. ShowsForm (length c.args.program.now.columns) row (forms_of (parts_of c.args.program.now c.args.bounds.now) i)) c.loop-i.cells.items c.in_ok-row.row c.loop-i.i c.loop-i.invariant c.in_ok-row.ensures)
