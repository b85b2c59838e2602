use Rattle.std.proofs.Common.{arith}
use Rattle.search_tree.proofs.Parents.{parent_is, way_next, way_last}
use Rattle.search_tree.proofs.growth.SearchTree.bounds.Goals as goal

pub cut-requires-clause-low : goal.cut-requires-clause-low
cut-requires-clause-low c =
    let parent = parent_is c.self.view_is c.requires.grown c.self.invariant.1 c.loop-node-test.true c.loop-node.invariant.there c.index-parent.ensures c.index.ensures c.in-Split.is in
    omega (arith, parent.sides.there, c.loop-node.invariant.part.lows)

pub cut-requires-clause-high : goal.cut-requires-clause-high
cut-requires-clause-high c =
    let parent = parent_is c.self.view_is c.requires.grown c.self.invariant.1 c.loop-node-test.true c.loop-node.invariant.there c.index-parent.ensures c.index.ensures c.in-Split.is in
    omega (arith, parent.sides.there, c.loop-node.invariant.part.highs)

pub cut-requires-clause-at : goal.cut-requires-clause-at
cut-requires-clause-at c = (parent_is c.self.view_is c.requires.grown c.self.invariant.1 c.loop-node-test.true c.loop-node.invariant.there c.index-parent.ensures c.index.ensures c.in-Split.is).at_fits

pub loop-node-smaller : goal.loop-node-smaller
loop-node-smaller c = (parent_is c.self.view_is c.requires.grown c.self.invariant.1 c.loop-node-test.true c.loop-node.invariant.there c.index-parent.ensures c.index.ensures c.in-Split.is).before

pub loop-node-preserved : goal.loop-node-preserved
loop-node-preserved c =
    let parent = parent_is c.self.view_is c.requires.grown c.self.invariant.1 c.loop-node-test.true c.loop-node.invariant.there c.index-parent.ensures c.index.ensures c.in-Split.is in
    way_next parent c.loop-node.invariant c.cut.ensures

pub returns : goal.returns
returns c = way_last c.self.view_is c.requires.grown c.requires.there c.loop-node-test.false c.loop-node.invariant
