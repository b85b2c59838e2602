use Rattle.std.proofs.Common.{◌∙◌, ◌<◌, add-one, arith, length, suc, sym}
use Rattle.exact_simplex.specs.Cells.{row_of}
use Rattle.exact_simplex.proofs.FitSteps.{pivot_fits}
use Rattle.exact_simplex.proofs.TableSteps.{shows_after}
use Rattle.exact_simplex.proofs.table.Tableau.pivot.Goals as goal

pub returns-clause-made : goal.returns-clause-made
returns-clause-made c = λ _ n t scale above h.
    let is = rw (c.in-Some.is, c.as_slice.ensures.items, add-one) at c.in_ok-found.ensures.changes in
    rw c.set.ensures (shows_after n c.args.self.now.cells c.put_rows.new.cells c.args.self.now.units c.in-Some.changes.items t c.args.row c.args.unit c.requires.row c.requires.unit scale above c.requires.pivot h is c.put_rows.ensures.size c.put_rows.ensures.rows)

pub returns-clause-fits : goal.returns-clause-fits
returns-clause-fits c = λ _.
    let is = rw (c.in-Some.is, c.as_slice.ensures.items, add-one) at c.in_ok-found.ensures.changes in
    let cells = c.args.self.now.cells in
    let shape = c.args.self.now.shape in
    let own = shape.rows c.args.row c.requires.row in
    let within = c.requires.unit in
    let there : suc c.args.unit < length (row_of cells c.args.row) = omega arith in
    pivot_fits c.in-Some.changes.items cells c.args.row (suc c.args.unit) there (λ i p. shape.rows i p ∙ sym own) c.requires.pivot is
