use Rattle.branch_bound.proofs.FoundFacts.{found_plan}
use Rattle.branch_bound.proofs.state.Search.finish.Goals as goal

pub returns : goal.returns
returns c = λ program first budget grown few since stopped.
    found_plan program first c.args.gap budget c.args.lower c.args.self.tree c.into_tree-tree.result.nodes c.args.self.best c.unwrap-point.result
    c.into_tree-tree.ensures.nodes c.into_tree-tree.result.has_root c.unwrap-point.ensures grown few since stopped (c.is_near-near.ensures.0 c.if-not-near.false)
