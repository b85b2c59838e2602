use Rattle.std.proofs.Common.{rules, to_z-of_z, FitsSigned}
use Rattle.std.specs.Int.{w64, w32}
use Rattle.bound_certificate.proofs.Combined.{line_at}
use Rattle.bound_certificate.proofs.Total.{low_in}
use Rattle.exact_simplex.proofs.StartSteps.{surplus_when}
use Rattle.exact_simplex.proofs.start.surplus_row.Goals as goal

pub factor_slopes-requires-clause-few : goal.factor_slopes-requires-clause-few
factor_slopes-requires-clause-few c = rw c.as_slice-terms.ensures.items (line_at c.args.program.now c.as_slice-rows.result.now c.args.i c.index-rows-i.result c.as_slice-rows.ensures.items c.requires.row c.index-rows-i.is).few

pub factor_slopes-requires-clause-factors : goal.factor_slopes-requires-clause-factors
factor_slopes-requires-clause-factors c = rw c.as_slice-terms.ensures.items (λ k d p. ((line_at c.args.program.now c.as_slice-rows.result.now c.args.i c.index-rows-i.result c.as_slice-rows.ensures.items c.requires.row c.index-rows-i.is).in_range.terms k d p).factor)

pub terms_at_lows-at_lows-requires-clause-few : goal.terms_at_lows-at_lows-requires-clause-few
terms_at_lows-at_lows-requires-clause-few c = rw c.as_slice-terms.ensures.items (line_at c.args.program.now c.as_slice-rows.result.now c.args.i c.index-rows-i.result c.as_slice-rows.ensures.items c.requires.row c.index-rows-i.is).few

pub terms_at_lows-at_lows-requires-clause-factors : goal.terms_at_lows-at_lows-requires-clause-factors
terms_at_lows-at_lows-requires-clause-factors c = rw c.as_slice-terms.ensures.items (λ k d p. ((line_at c.args.program.now c.as_slice-rows.result.now c.args.i c.index-rows-i.result c.as_slice-rows.ensures.items c.requires.row c.index-rows-i.is).in_range.terms k d p).factor)

pub terms_at_lows-at_lows-requires-clause-lows : goal.terms_at_lows-at_lows-requires-clause-lows
terms_at_lows-at_lows-requires-clause-lows c = rw c.as_slice-low.ensures.items (low_in c.args.program.now c.args.bounds.now c.requires.is_box)

pub returns : goal.returns
returns c =
    let line = line_at c.args.program.now c.as_slice-rows.result.now c.args.i c.index-rows-i.result c.as_slice-rows.ensures.items c.requires.row c.index-rows-i.is in
    let v : FitsSigned w64 c.above_least-value.result = search rules in
    let a : FitsSigned w64 c.terms_at_lows-at_lows.result = search rules in
    let l : FitsSigned w32 c.index-rows-i.result.least = search rules in
    let made = simp to_z-of_z at c.whole_row.ensures in
    let value = simp to_z-of_z at c.above_least-value.ensures in
    surplus_when c.whole_row.result c.args.program.now c.args.bounds.now c.args.i c.index-rows-i.result c.as_slice-terms.result.now c.as_slice-low.result.now c.above_least-value.result c.terms_at_lows-at_lows.result c.in_ok-slopes.slopes.items c.as_slice-given.result.now line c.as_slice-terms.ensures.items c.as_slice-low.ensures.items (rw c.as_slice-columns.ensures.items at c.in_ok-slopes.ensures) c.as_slice-given.ensures.value c.terms_at_lows-at_lows.ensures.value value made
