use Rattle.std.proofs.Common.{sym, subst}
use Rattle.ip_model.specs.declared.parts.Bounds.{Bounds}
use Rattle.ip_model.specs.Points.{IsBoxOf}
use Rattle.bound_certificate.proofs.WalkSteps.{full_box_is_box}
use Rattle.branch_bound.specs.Openings.{HasFullHelpers}
use Rattle.branch_bound.proofs.StateFacts.{full_helpers, start_search}
use Rattle.branch_bound.proofs.state.of_one_leaf.Goals as goal

pub leaf_of-requires-clause-is_box : goal.leaf_of-requires-clause-is_box
leaf_of-requires-clause-is_box c = subst (λ (b : Bounds). IsBoxOf c.args.program.now b) (sym c.requires.full) (full_box_is_box c.args.program.now)

pub leaf_of-requires-clause-helpers : goal.leaf_of-requires-clause-helpers
leaf_of-requires-clause-helpers c = subst (λ (b : Bounds). HasFullHelpers c.args.program.now b) (sym c.requires.full) (full_helpers c.args.program.now)

pub returns-clause-right : goal.returns-clause-right
returns-clause-right c =
    start_search c.args.program.now c.leaf_of.new.best c.in_ok-node.field-0.node c.in_ok-node.field-0.leaf c.args.bounds.now c.in_ok-tree.tree c.new-frontier.result c.push.new.self
    c.requires.full c.in_ok-tree.ensures.nodes c.new-frontier.ensures c.in_ok-push.ensures c.in_ok-node.ensures.leaf c.in_ok-node.ensures.kept
