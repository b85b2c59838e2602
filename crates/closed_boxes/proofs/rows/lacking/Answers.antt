use Rattle.std.proofs.Common.{◌≡◌, ◌≤◌, ◌^◌, sym, ◌∙◌, arith, rules, to_z-of_z, FitsSigned, unsigned_abs, length}
use Rattle.std.specs.Int.{w32, w128}
use Rattle.bound_certificate.proofs.Combined.{line_at}
use Rattle.closed_boxes.proofs.Lacks.{difference_fits, least_fits, difference_is, columns_in}
use Rattle.closed_boxes.proofs.rows.lacking.Goals as goal

pub sum_of_terms-requires-clause-few : goal.sum_of_terms-requires-clause-few
sum_of_terms-requires-clause-few c =
    let line = line_at c.args.program.now c.as_slice.result.now c.args.row c.index-as_slice-row.result c.as_slice.ensures.items c.requires.row c.index-as_slice-row.is in
    rw c.as_slice-2.ensures.items line.few

pub sum_of_terms-requires-clause-in_range : goal.sum_of_terms-requires-clause-in_range
sum_of_terms-requires-clause-in_range c =
    let line = line_at c.args.program.now c.as_slice.result.now c.args.row c.index-as_slice-row.result c.as_slice.ensures.items c.requires.row c.index-as_slice-row.is in
    columns_in c.args.program.now.columns c.index-as_slice-row.result.terms c.as_slice-2.result.now (length c.args.numbers.now) c.as_slice-2.ensures.items c.requires.size line.in_range.terms

pub returns : goal.returns
returns c =
    let line = line_at c.args.program.now c.as_slice.result.now c.args.row c.index-as_slice-row.result c.as_slice.ensures.items c.requires.row c.index-as_slice-row.is in
    let narrow : FitsSigned w32 c.index-as_slice-row.result.least = least_fits c.index-as_slice-row.result.least line.in_range.least in
    let from : c.from.result ≡ c.index-as_slice-row.result.least = simp to_z-of_z at c.from.ensures in
    let small : unsigned_abs c.from.result ≤ 2 ^ 64 = rw from (omega (arith, line.in_range.least)) in
    let a : FitsSigned w128 c.from.result = search rules in
    let b : FitsSigned w128 c.sum_of_terms.result = search rules in
    let d = difference_fits c.from.result c.sum_of_terms.result small c.sum_of_terms.ensures.size in
    let value = rw (c.as_slice-2.ensures.items, ← line.terms_is) at c.sum_of_terms.ensures.value in
    simp to_z-of_z (difference_is _ _ _ _ (from ∙ sym line.least_is) value)
