-- The boxes of the nodes of a tree.
use Rattle.std.specs.Prelude.{ℕ, ◌+◌, List, [], ◌∷◌, length, min, max, slice_index, slice_set}
use Rattle.ip_model.specs.declared.parts.Bounds.{Bounds}
use Rattle.ip_model.specs.declared.program.Program.{Program}
use Rattle.bound_certificate.specs.declared.tree.Node.{Node}
use Rattle.bound_certificate.specs.Pending.{nodes_before}
use Rattle.bound_certificate.specs.Trees.{box_of}

-- the box of node k
abbrev pub box_at : Program → List Node → ℕ → Bounds
box_at program nodes k = box_of program (nodes_before nodes k) k

-- the part of a box where a column is at most `at`, and where it is more
abbrev pub part_below : Bounds → ℕ → ℕ → Bounds
part_below box column at = record { low = box.low; high = slice_set box.high column (min at (slice_index box.high column)) }

abbrev pub part_above : Bounds → ℕ → ℕ → Bounds
part_above box column at = record { low = slice_set box.low column (max (at + 1) (slice_index box.low column)); high = box.high }

-- each of these nodes with its box, after the earlier ones, the latest of which stands first
abbrev pub with_boxes : Program → List Node → List Node → List (Bounds × Node)
with_boxes program earlier [] = []
with_boxes program earlier (node ∷ nodes) = (box_of program earlier (length earlier), node) ∷ with_boxes program (node ∷ earlier) nodes
