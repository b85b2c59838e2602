use Rattle.std.proofs.Common.{arith}
use Rattle.search_tree.proofs.Grow.{split_is, split_grown}
use Rattle.search_tree.proofs.Parents.{leaf_within}
use Rattle.search_tree.proofs.growth.SearchTree.split.Goals as goal

pub returns-clause-ok : goal.returns-clause-ok
returns-clause-ok c =
    split_is c.args.self.now c.self.inside.nodes.items c.push_split.new.nodes.items c.args.i c.args.column c.args.at c.len-count.result c.args.shown c.args.low c.args.high
    c.self.view_is c.in_ok-push_split.ensures.nodes (omega arith) (leaf_within c.args.self.now c.args.i c.requires.leaf)

pub returns-clause-grown : goal.returns-clause-grown
returns-clause-grown c =
    let is = split_is c.args.self.now c.self.inside.nodes.items c.push_split.new.nodes.items c.args.i c.args.column c.args.at c.len-count.result c.args.shown c.args.low c.args.high
    c.self.view_is c.in_ok-push_split.ensures.nodes (omega arith) (leaf_within c.args.self.now c.args.i c.requires.leaf) in
    split_grown c.args.self.now _ c.args.i c.args.column c.args.at c.args.shown c.args.low c.args.high is
