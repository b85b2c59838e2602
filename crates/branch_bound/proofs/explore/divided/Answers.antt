use Rattle.std.proofs.Common.{ℕ, List, sym, subst, Some, slice_index}
use Rattle.bound_certificate.specs.Bound.{leaf_bound}
use Rattle.bound_certificate.specs.Shown.{Shows}
use Rattle.branch_bound.specs.Openings.{CanCut}
use Rattle.branch_bound.proofs.ExploreFacts.{fractional_cut}
use Rattle.branch_bound.proofs.explore.divided.Goals as goal

pub split_column-requires-clause-rows : goal.split_column-requires-clause-rows
split_column-requires-clause-rows c = c.requires.standing.stands.rows

pub split_column-requires-clause-units : goal.split_column-requires-clause-units
split_column-requires-clause-units c = c.requires.standing.stands.shows.units_size

pub returns : goal.returns
returns c =
    let program = c.args.program.now in
    let box = c.args.bounds.now in
    let column = c.in-Some.column in
    let cut = fractional_cut program box c.args.point c.args.duals column c.requires.is_box c.requires.least c.in-Some.ensures.some in (
      c.requires.rows,
      subst (λ (whole : List ℕ). CanCut program box (record { column = column; at = slice_index whole column; shown = Some c.args.point })) (sym c.as_slice.ensures.items) cut.0,
      subst (λ (whole : List ℕ). Shows program box column (slice_index whole column) (leaf_bound program box c.args.duals) c.args.point) (sym c.as_slice.ensures.items) cut.1,
    )
