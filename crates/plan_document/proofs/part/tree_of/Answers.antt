use Rattle.std.proofs.Common.{arith, map, sym, codes}
use Rattle.serde_json.specs.View.{view}
use Rattle.plan_document.proofs.Sizes.{entries_at-size}
use Rattle.plan_document.proofs.part.tree_of.Goals as goal

pub nodes_of-requires : goal.nodes_of-requires
nodes_of-requires c =
    omega (arith, entries_at-size (codes "tree") (view c.args.value.now) (map view c.in-Some.entries.now) (sym c.in-Some.ensures), c.requires.small)
