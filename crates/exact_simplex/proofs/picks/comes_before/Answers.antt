use Rattle.std.proofs.Common.{arith, below_more}
use Rattle.exact_simplex.proofs.PickSteps.{when_all, when_less, when_greater, when_equal, when_none}
use Rattle.exact_simplex.proofs.picks.comes_before.Goals as goal

pub returns-in_default : goal.returns-in_default
returns-in_default c = λ n t h.
    let some = rw (c.cell_at-a.ensures, c.cell_at-b.ensures) at c.in_default.ensures.some in
    let none = rw (c.cell_at-a.ensures, c.cell_at-b.ensures, c.cell_at-first.ensures, c.cell_at-second.ensures) at c.in_default.ensures.none in
    when_none c.args.cells.now t c.args.place c.args.held c.args.other c.loop-i.i c.loop-i-test.true (λ j p. (c.loop-i.invariant n t h j p).0) some none

pub returns-in-Less : goal.returns-in-Less
returns-in-Less c = λ n t h.
    let is = rw (c.in-Less.is, c.cell_at-a.ensures, c.cell_at-b.ensures, c.cell_at-first.ensures, c.cell_at-second.ensures) at c.in-Some.ensures.order in
    when_less n c.args.cells.now t c.args.place c.args.held c.args.other c.loop-i.i h c.loop-i-test.true (c.loop-i.invariant n t h) is

pub returns-in-Greater : goal.returns-in-Greater
returns-in-Greater c = λ n t h.
    let is = rw (c.in-Greater.is, c.cell_at-a.ensures, c.cell_at-b.ensures, c.cell_at-first.ensures, c.cell_at-second.ensures) at c.in-Some.ensures.order in
    when_greater n c.args.cells.now t c.args.place c.args.held c.args.other c.loop-i.i h c.loop-i-test.true (c.loop-i.invariant n t h) is

pub loop-i-preserved : goal.loop-i-preserved
loop-i-preserved c = λ n t h.
    let is = rw (c.in-Equal.is, c.cell_at-a.ensures, c.cell_at-b.ensures, c.cell_at-first.ensures, c.cell_at-second.ensures) at c.in-Some.ensures.order in
    below_more _ _ (c.loop-i.invariant n t h) (when_equal n c.args.cells.now t c.args.place c.args.held c.args.other c.loop-i.i h c.loop-i-test.true is)

pub returns : goal.returns
returns c = λ n t h. when_all c.args.cells.now t c.args.place c.args.held c.args.other (λ i p. c.loop-i.invariant n t h i (omega arith))
