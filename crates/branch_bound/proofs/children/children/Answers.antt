use Rattle.std.proofs.Common.{sym, subst, arith}
use Rattle.ip_model.specs.declared.parts.Bounds.{Bounds}
use Rattle.ip_model.specs.Points.{IsBoxOf}
use Rattle.bound_certificate.proofs.Total.{high_in}
use Rattle.bound_certificate.proofs.WalkSteps.{high_side_is_box}
use Rattle.branch_bound.specs.Making.{IsMade}
use Rattle.branch_bound.proofs.StateFacts.{made_improves}
use Rattle.branch_bound.proofs.children.children.Goals as goal

pub high_side-requires-clause-at : goal.high_side-requires-clause-at
high_side-requires-clause-at c = omega (arith, c.requires.cut.below, high_in c.args.program.now c.args.bounds.now c.requires.is_box c.args.cut.now.column)

pub make-requires-2-clause-is_box : goal.make-requires-2-clause-is_box
make-requires-2-clause-is_box c =
    subst (λ (b : Bounds). IsBoxOf c.args.program.now b) (sym c.in_ok-above.ensures)
    (high_side_is_box c.args.program.now c.args.bounds.now c.args.cut.now.column c.args.cut.now.at c.requires.is_box c.requires.cut.above c.requires.cut.below)

pub returns-clause-low : goal.returns-clause-low
returns-clause-low c =
    let program = c.args.program.now in
    let parent = c.args.parent.now in
    let here : IsMade program c.make.new.best c.in_ok-below.below parent c.in_ok-low.low = record { right = c.in_ok-low.ensures.leaf; kept = c.in_ok-low.ensures.kept; no_less = c.in_ok-low.ensures.parent } in
    subst (λ (b : Bounds). IsMade program c.make-2.new.best b parent c.in_ok-low.low) c.in_ok-below.ensures
    (made_improves program c.make.new.best c.make-2.new.best c.in_ok-below.below parent c.in_ok-low.low c.in_ok-high.ensures.improves here)
