-- The boxes that a walk over the nodes still holds.
use Rattle.std.specs.Prelude.{ℕ, ◌≡◌, ◌<◌, ◌≤◌, true, false, List, length, take, reverse, Option, Some, None, slice_index, slice_index_or, slice_set}
use Rattle.ip_model.specs.declared.parts.Bounds.{Bounds}
use Rattle.ip_model.specs.declared.program.Program.{Program}
use Rattle.ip_model.specs.Points.{IsBoxOf}
use Rattle.bound_certificate.specs.declared.tree.Node.{Node}
use Rattle.bound_certificate.specs.declared.tree.Node.TheVariants.{Split, Bound, Refute}
use Rattle.bound_certificate.specs.Bound.{RowsInRange}
use Rattle.bound_certificate.specs.Trees.{box_of, is_named, low_side, high_side}

-- the nodes before node i, the latest first
abbrev pub nodes_before : List Node → ℕ → List Node
nodes_before nodes i = reverse (take i nodes)

-- what is held for node k: its box, where an earlier node names it or it is node 0
abbrev pub IsHeldFor : Program → List Node → ℕ → Option Bounds → Type 0
IsHeldFor program earlier k None = (is_named earlier k ≡ false) × (0 < k)
IsHeldFor program earlier k (Some box) = (0 < k → is_named earlier k ≡ true) × (box ≡ box_of program earlier k) × IsBoxOf program box

-- each node from i on
abbrev pub HoldsFrom : Program → List Node → ℕ → ℕ → List (Option Bounds) → Type 0
HoldsFrom program nodes i from places = (k : ℕ) → from ≤ k → k < length nodes → IsHeldFor program (nodes_before nodes i) k (slice_index_or places k None)

-- a node that breaks no rule names a column, children and rows that are there
abbrev pub NodeFits : Program → ℕ → Bounds → Node → Type 0
NodeFits program count box (Split column at low high shown) =
    (column < length program.columns) × (slice_index box.low column ≤ at) × (at < slice_index box.high column) × (low < count) × (high < count)
NodeFits program count box (Bound y) = RowsInRange program y
NodeFits program count box (Refute y) = RowsInRange program y

-- what is held once a node with this box was visited
abbrev pub places_after : Node → Bounds → List (Option Bounds) → List (Option Bounds)
places_after (Split column at low high shown) box places = slice_set (slice_set places low (Some (low_side box column at))) high (Some (high_side box column at))
places_after (Bound y) box places = places
places_after (Refute y) box places = places
