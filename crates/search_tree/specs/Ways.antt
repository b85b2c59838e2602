-- In how many ways the count columns can be set in a box, and over the leaves of a tree.
use Rattle.std.specs.Prelude.{ℕ, zero, suc, ◌+◌, ◌-◌, ◌*◌, List, [], length, slice_index, if◌then◌else◌, sum_by}
use Rattle.ip_model.specs.declared.parts.Bounds.{Bounds}
use Rattle.ip_model.specs.declared.program.Program.{Program}
use Rattle.ip_model.specs.Limits.{helper_at}
use Rattle.bound_certificate.specs.declared.tree.Node.{Node}
use Rattle.bound_certificate.specs.declared.tree.Node.TheVariants.{Split, Bound, Refute}
use Rattle.search_tree.specs.Boxes.{with_boxes}

-- the product of f 0, .., f (n - 1)
abbrev pub product_below : ℕ → (ℕ → ℕ) → ℕ
product_below zero f = 1
product_below (suc n) f = product_below n f * f n

-- how many whole numbers column j can take in the box, a helper counting as one
abbrev pub width_at : Program → Bounds → ℕ → ℕ
width_at program box j = if helper_at program.columns j then 1 else slice_index box.high j - slice_index box.low j + 1

-- in how many ways the count columns can be set in the box
abbrev pub ways : Program → Bounds → ℕ
ways program box = product_below (length program.columns) (width_at program box)

abbrev pub leaf_count : Node → ℕ
leaf_count (Split column at low high shown) = 0
leaf_count (Bound y) = 1
leaf_count (Refute y) = 1

-- how many leaves there are
abbrev pub leaves_of : List Node → ℕ
leaves_of nodes = sum_by leaf_count nodes

-- the ways of a leaf's box
abbrev pub leaf_ways : Program → Bounds × Node → ℕ
leaf_ways program placed = leaf_count placed.1 * ways program placed.0

-- the ways of all leaves' boxes
abbrev pub ways_of_leaves : Program → List Node → ℕ
ways_of_leaves program nodes = sum_by (leaf_ways program) (with_boxes program [] nodes)
