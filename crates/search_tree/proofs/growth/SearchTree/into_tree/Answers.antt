use Rattle.search_tree.proofs.Grow.{nodes_few}
use Rattle.search_tree.proofs.LeafFacts.{bound_is_least}
use Rattle.search_tree.proofs.growth.SearchTree.into_tree.Goals as goal

pub returns-clause-bound : goal.returns-clause-bound
returns-clause-bound c = λ program. bound_is_least program c.args.self

pub returns-clause-few : goal.returns-clause-few
returns-clause-few c = λ program grown. nodes_few program c.args.self grown
