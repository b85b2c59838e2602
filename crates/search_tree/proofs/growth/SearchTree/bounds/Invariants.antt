use Rattle.search_tree.proofs.Parents.{IsOnWay}
use Rattle.search_tree.proofs.growth.SearchTree.bounds.Given as goal

abbrev pub invariant-loop-node : goal.invariant-loop-node
invariant-loop-node l = IsOnWay l.program l.self-inside.nodes.items l.k l.node l.bounds

abbrev pub decreases-loop-node : goal.decreases-loop-node
decreases-loop-node l = l.node
