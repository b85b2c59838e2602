-- Which nodes were split, in order.
use Rattle.std.specs.Prelude.{ℕ, ◌≡◌, ◌+◌, ◌*◌, ◌<◌, List, length, Option, Some, None, slice_get, slice_index}
use Rattle.bound_certificate.specs.declared.tree.Node.{Node}
use Rattle.bound_certificate.specs.declared.tree.Node.TheVariants.{Split, Bound, Refute}

-- the two children of a node, where it is a split
abbrev pub children_of : Option Node → Option (ℕ × ℕ)
children_of (Some (Split column at low high shown)) = Some (low, high)
children_of (Some (Bound y)) = None
children_of (Some (Refute y)) = None
children_of None = None

-- each split added two nodes, its children, and there is no other node but the first
pub record HasSplits (nodes : List Node) (splits : List ℕ) : Type 0 where
  pub size : length nodes ≡ 2 * length splits + 1
  pub children : (s : ℕ) → s < length splits → children_of (slice_get nodes (slice_index splits s)) ≡ Some (2 * s + 1, 2 * s + 2)
