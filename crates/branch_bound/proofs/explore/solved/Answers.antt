use Rattle.std.proofs.Common.{arith}
use Rattle.branch_bound.proofs.ExploreFacts.{certified_within, none_short, settled_within, whole_within}
use Rattle.branch_bound.proofs.explore.solved.Goals as goal

pub settle_helpers-requires-clause-within : goal.settle_helpers-requires-clause-within
settle_helpers-requires-clause-within c = λ j _. whole_within c.args.program.now c.args.bounds.now c.args.point.now c.requires.is_box c.requires.least.lies j

pub unreachable-requires : goal.unreachable-requires
unreachable-requires c =
    let short = rw c.in-Short.is at c.in_ok-point.ensures in
    none_short c.args.program.now c.args.bounds.now c.args.point.now c.in-Short.row c.requires.least.lies c.requires.whole short

pub returns : goal.returns
returns c =
    let found = rw c.in-Whole.is at c.in_ok-point.ensures in
    let within = settled_within c.args.program.now c.args.bounds.now c.args.point.now c.args.duals c.in-Whole.point c.requires.is_box c.requires.least c.requires.whole found in
    (c.requires.rows, record { whole = found.whole; value_is = c.value-value.ensures }, omega (arith, within, c.value-value.ensures), certified_within c.args.program.now c.args.bounds.now c.args.point.now c.args.duals c.requires.least)
