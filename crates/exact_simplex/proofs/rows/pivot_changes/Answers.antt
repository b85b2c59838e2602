use Rattle.std.proofs.Common.{◌≡◌, []}
use Rattle.std.proofs.lemmas.List.{get_or_read}
use Rattle.exact_simplex.specs.Cells.{row_of}
use Rattle.exact_simplex.specs.Changes.{ChangesFit}
use Rattle.exact_simplex.specs.Pivots.{PivotFits}
use Rattle.exact_simplex.proofs.FitSteps.{changes_at, none_of}
use Rattle.exact_simplex.proofs.rows.pivot_changes.Goals as goal

pub returns-clause-none : goal.returns-clause-none
returns-clause-none c =
    let cells = c.args.cells.now in
    let is_row : c.index-cells-place.result ≡ row_of cells c.args.place = get_or_read cells c.args.place c.index-cells-place.result c.requires.place c.index-cells-place.is [] in
    let are = rw c.in-Some.is at c.in_ok-shares.ensures.shares in
    none_of (PivotFits cells c.args.place c.args.column) (ChangesFit cells c.args.place c.in-Some.shares c.args.column c.cell-pivot.result) c.changes_of.result
    (changes_at cells c.in-Some.shares c.index-cells-place.result c.cell-pivot.result c.args.place c.args.column is_row c.cell-pivot.ensures c.requires.sizes are)
    c.changes_of.ensures.none
