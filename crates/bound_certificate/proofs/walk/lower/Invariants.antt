use Rattle.std.proofs.Common.{◌≡◌, length, drop}
use Rattle.bound_certificate.specs.Pending.{nodes_before, HoldsFrom}
use Rattle.bound_certificate.specs.Trees.{first_fault, fault_of_tree, lesser_of, least_bound, bound_of_tree}
use Rattle.bound_certificate.proofs.walk.lower.Given as goal

abbrev pub invariant-loop-i : goal.invariant-loop-i
invariant-loop-i l = record {
  sums : l.sums ≡ length l.program.columns;
  size : length l.places.items ≡ length l.tree.nodes;
  held : HoldsFrom l.program l.tree.nodes l.i l.i l.places.items;
  no_fault : first_fault l.program (length l.tree.nodes) (nodes_before l.tree.nodes l.i) (drop l.i l.tree.nodes) ≡ fault_of_tree l.program l.tree.nodes;
  found : lesser_of l.found (least_bound l.program (nodes_before l.tree.nodes l.i) (drop l.i l.tree.nodes)) ≡ bound_of_tree l.program l.tree.nodes;
}
