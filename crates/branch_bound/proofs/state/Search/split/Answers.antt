use Rattle.std.proofs.Common.{◌∙◌, ap, sym, subst}
use Rattle.std.proofs.lemmas.Option.{slice_get_within}
use Rattle.ip_model.specs.declared.parts.Bounds.{Bounds}
use Rattle.ip_model.specs.Points.{IsBoxOf}
use Rattle.bound_certificate.specs.declared.multipliers.Multipliers.{Multipliers}
use Rattle.bound_certificate.specs.declared.tree.Node.TheVariants.{Bound}
use Rattle.bound_certificate.specs.Bound.{RowsInRange}
use Rattle.bound_certificate.specs.Trees.{low_side, high_side}
use Rattle.search_tree.specs.Boxes.{box_at}
use Rattle.search_tree.specs.Leaves.{multipliers_of}
use Rattle.branch_bound.specs.Making.{IsMade}
use Rattle.branch_bound.specs.Openings.{CanCut, HasFullHelpers}
use Rattle.branch_bound.proofs.StateFacts.{opened, the_cut, lent_some, lent_is, split_done}
use Rattle.branch_bound.proofs.state.Search.split.Goals as goal

pub unwrap-parent-requires : goal.unwrap-parent-requires
unwrap-parent-requires c =
    let popped = c.requires.popped in
    let here = opened c.args.program.now c.args.self.now.tree popped.before c.args.self.now.best c.args.node c.args.leaf popped.right popped.least.there in
    lent_some c.multipliers.result here.y (c.multipliers.ensures ∙ ap multipliers_of here.node)

pub bounds-requires-clause-there : goal.bounds-requires-clause-there
bounds-requires-clause-there c =
    let popped = c.requires.popped in
    let here = opened c.args.program.now c.args.self.now.tree popped.before c.args.self.now.best c.args.node c.args.leaf popped.right popped.least.there in
    slice_get_within c.args.self.now.tree c.args.node (Bound here.y) here.node

pub children-requires-clause-is_box : goal.children-requires-clause-is_box
children-requires-clause-is_box c =
    let popped = c.requires.popped in
    let here = opened c.args.program.now c.args.self.now.tree popped.before c.args.self.now.best c.args.node c.args.leaf popped.right popped.least.there in
    let within = slice_get_within c.args.self.now.tree c.args.node (Bound here.y) here.node in
    subst (λ (b : Bounds). IsBoxOf c.args.program.now b) (sym c.in_ok-bounds.ensures) (popped.right.grown.boxes c.args.node within)

pub children-requires-clause-helpers : goal.children-requires-clause-helpers
children-requires-clause-helpers c =
    let popped = c.requires.popped in
    let here = opened c.args.program.now c.args.self.now.tree popped.before c.args.self.now.best c.args.node c.args.leaf popped.right popped.least.there in
    subst (λ (b : Bounds). HasFullHelpers c.args.program.now b) (sym c.in_ok-bounds.ensures) here.known.helpers

pub children-requires-clause-cut : goal.children-requires-clause-cut
children-requires-clause-cut c =
    let popped = c.requires.popped in
    let here = opened c.args.program.now c.args.self.now.tree popped.before c.args.self.now.best c.args.node c.args.leaf popped.right popped.least.there in
    subst (λ (b : Bounds). CanCut c.args.program.now b c.unwrap-cut.result) (sym c.in_ok-bounds.ensures)
    (the_cut c.args.program.now c.args.self.now.best (box_at c.args.program.now c.args.self.now.tree c.args.node) c.args.leaf.bound c.args.leaf.cut c.unwrap-cut.result c.unwrap-cut.ensures here.known.cut).0

pub children-requires-clause-parent : goal.children-requires-clause-parent
children-requires-clause-parent c =
    let popped = c.requires.popped in
    let here = opened c.args.program.now c.args.self.now.tree popped.before c.args.self.now.best c.args.node c.args.leaf popped.right popped.least.there in
    let same = lent_is c.multipliers.result c.unwrap-parent.result here.y c.unwrap-parent.ensures (c.multipliers.ensures ∙ ap multipliers_of here.node) in
    subst (λ (y : Multipliers). RowsInRange c.args.program.now y) (sym same) here.known.rows

pub returns-clause-right : goal.returns-clause-right
returns-clause-right c =
    let program = c.args.program.now in
    let nodes = c.args.self.now.tree in
    let cut = c.unwrap-cut.result in
    let popped = c.requires.popped in
    let here = opened program nodes popped.before c.args.self.now.best c.args.node c.args.leaf popped.right popped.least.there in
    let box = box_at program nodes c.args.node in
    let new = c.children.new.best in
    let same = lent_is c.multipliers.result c.unwrap-parent.result here.y c.unwrap-parent.ensures (c.multipliers.ensures ∙ ap multipliers_of here.node) in
    let low = subst (λ (y : Multipliers). IsMade program new (low_side box cut.column cut.at) y c.in_ok-low.low) same
    (subst (λ (b : Bounds). IsMade program new (low_side b cut.column cut.at) c.unwrap-parent.result.now c.in_ok-low.low) c.in_ok-bounds.ensures c.in_ok-low.ensures.low) in
    let high = subst (λ (y : Multipliers). IsMade program new (high_side box cut.column cut.at) y c.in_ok-low.high) same
    (subst (λ (b : Bounds). IsMade program new (high_side b cut.column cut.at) c.unwrap-parent.result.now c.in_ok-low.high) c.in_ok-bounds.ensures c.in_ok-low.ensures.high) in
    split_done program nodes popped.before c.args.self.now.best new c.args.node c.args.leaf cut c.in_ok-low.low c.in_ok-low.high
    (record { right = popped.right; least = popped.least; here = here; cut_is = c.unwrap-cut.ensures; improves = c.in_ok-low.ensures.improves; low_made = low; high_made = high })
    c.split.new.self c.args.self.now.frontier c.push.new.self c.push-2.new.self c.in_ok-split.ensures.ok popped.taken c.in_ok-push.ensures c.in_ok-push-2.ensures
