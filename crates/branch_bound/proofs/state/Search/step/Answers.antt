use Rattle.std.proofs.Common.{arith, refl, inl, inr}
use Rattle.search_tree.specs.Boxes.{box_at}
use Rattle.branch_bound.proofs.ReasonFacts.{reasoned_walk}
use Rattle.branch_bound.proofs.StateFacts.{opened, none_left, none_then, least_bound_is, all_known, all_shown, far_has_cut, full_short}
use Rattle.branch_bound.proofs.state.Search.step.Goals as goal

pub returns-in_default-clause-step : goal.returns-in_default-clause-step
returns-in_default-clause-step c = (
  c.requires.right.grown,
  refl,
  none_left c.args.program.now c.args.self.now.tree c.args.self.now.frontier c.args.self.now.best c.requires.right (none_then c.pop.result _ c.in_default.not-Some c.pop.ensures.none),
  reasoned_walk c.args.program.now c.args.self.now.tree c.requires.right.reasoned,
)

pub returns-then-is_near-clause-step : goal.returns-then-is_near-clause-step
returns-then-is_near-clause-step c =
    let least = c.in-Some.ensures.least in (
      c.requires.right.grown,
      refl,
      record {
        bound = least_bound_is c.args.program.now c.args.self.now.tree c.args.self.now.frontier c.args.self.now.best c.in-Some.node c.in-Some.leaf c.requires.right least;
        shown = all_shown c.args.program.now c.args.self.now.tree c.args.self.now.frontier c.args.self.now.best c.in-Some.node c.in-Some.leaf c.requires.right least.there;
        reasoned = reasoned_walk c.args.program.now c.args.self.now.tree c.requires.right.reasoned;
        decided = all_known c.args.program.now c.args.self.now.tree c.args.self.now.frontier c.args.self.now.best c.requires.right;
        over = inl (c.is_near.ensures.0 c.if-is_near.true);
      },
    )

pub returns-then-len-nodes-clause-step : goal.returns-then-len-nodes-clause-step
returns-then-len-nodes-clause-step c =
    let program = c.args.program.now in
    let nodes = c.args.self.now.tree in
    let leaf = c.in-Some.leaf in
    let best = c.args.self.now.best in
    let least = c.in-Some.ensures.least in
    let here = opened program nodes c.args.self.now.frontier best c.in-Some.node leaf c.requires.right least.there in
    let has = far_has_cut program best (box_at program nodes c.in-Some.node) leaf.bound c.args.gap leaf.cut here.known.cut (λ near. let yes = c.is_near.ensures.1 near in let no = c.if-is_near.false in cc) in (
      c.requires.right.grown,
      refl,
      record {
        bound = least_bound_is program nodes c.args.self.now.frontier best c.in-Some.node leaf c.requires.right least;
        shown = all_shown program nodes c.args.self.now.frontier best c.in-Some.node leaf c.requires.right least.there;
        reasoned = reasoned_walk program nodes c.requires.right.reasoned;
        decided = all_known program nodes c.args.self.now.frontier best c.requires.right;
        over = inr (full_short program nodes c.args.self.now.frontier best c.in-Some.node c.args.nodes leaf c.requires.right least.there has (omega arith));
      },
    )

pub split-requires-clause-cut : goal.split-requires-clause-cut
split-requires-clause-cut c =
    let program = c.args.program.now in
    let nodes = c.args.self.now.tree in
    let leaf = c.in-Some.leaf in
    let best = c.args.self.now.best in
    let here = opened program nodes c.args.self.now.frontier best c.in-Some.node leaf c.requires.right c.in-Some.ensures.least.there in
    far_has_cut program best (box_at program nodes c.in-Some.node) leaf.bound c.args.gap leaf.cut here.known.cut (λ near. let yes = c.is_near.ensures.1 near in let no = c.if-is_near.false in cc)
