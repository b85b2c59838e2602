use Rattle.std.proofs.Common.{arith}
use Rattle.std.specs.Option.{option_copied}
use Rattle.branch_bound.proofs.best_first.search.Goals as goal

pub returns-in-Stopped : goal.returns-in-Stopped
returns-in-Stopped c =
    let step = rw c.in-Stopped.is at c.in_ok-step.ensures.step in
    let first = option_copied c.args.first in
    c.finish.ensures c.args.program.now first c.args.nodes step.0 (omega (arith, step.1, c.loop-search.invariant.within)) (c.in_ok-step.ensures.best first c.loop-search.invariant.best) step.2
