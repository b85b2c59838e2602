use Rattle.bound_certificate.proofs.Combined.{line_at}
use Rattle.closed_boxes.proofs.RowFacts.{if_found}
use Rattle.closed_boxes.proofs.rows.helper_of.Goals as goal

pub returns-clause-some : goal.returns-clause-some
returns-clause-some c =
    let line = line_at c.args.program.now c.as_slice.result.now c.args.row c.index-as_slice-row.result c.as_slice.ensures.items c.requires c.index-as_slice-row.is in
    if_found c.args.program.now c.args.row c.first_helper.result c.requires
    (rw c.as_slice-2.ensures.items at c.first_helper.ensures.helper)
    (rw (c.as_slice-3.ensures.items, ← line.terms_is) at c.first_helper.ensures.stands)
