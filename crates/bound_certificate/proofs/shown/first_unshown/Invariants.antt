use Rattle.std.proofs.Common.{◌≡◌, length, drop, None, []}
use Rattle.bound_certificate.specs.Pending.{nodes_before, HoldsFrom}
use Rattle.bound_certificate.specs.Trees.{first_fault}
use Rattle.bound_certificate.specs.Shown.{first_unshown}
use Rattle.bound_certificate.proofs.shown.first_unshown.Given as goal

abbrev pub invariant-loop-i : goal.invariant-loop-i
invariant-loop-i l = record {
  size : length l.places.items ≡ length l.tree.nodes;
  held : HoldsFrom l.program l.tree.nodes l.i l.i l.places.items;
  sound : first_fault l.program (length l.tree.nodes) (nodes_before l.tree.nodes l.i) (drop l.i l.tree.nodes) ≡ None;
  unshown : first_unshown l.program l.lower (nodes_before l.tree.nodes l.i) (drop l.i l.tree.nodes) ≡ first_unshown l.program l.lower [] l.tree.nodes;
}
