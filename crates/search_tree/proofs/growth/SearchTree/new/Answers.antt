use Rattle.std.proofs.Common.{sym, subst, List}
use Rattle.bound_certificate.specs.declared.tree.Node.{Node}
use Rattle.search_tree.specs.Growth.{IsGrown}
use Rattle.search_tree.proofs.Grow.{one_leaf}
use Rattle.search_tree.proofs.growth.SearchTree.new.Goals as goal

pub returns-clause-grown : goal.returns-clause-grown
returns-clause-grown c = λ program is. subst (λ (nodes : List Node). IsGrown program nodes) (sym c.in_ok-nodes.ensures.items) (one_leaf program c.args.leaf is)
