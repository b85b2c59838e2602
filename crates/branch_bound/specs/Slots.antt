-- The slots of open leaves.
use Rattle.std.specs.Prelude.{ℕ, zero, suc, ◌≡◌, ◌<◌, ◌==◌, ◌++◌, if◌then◌else◌, List, [], ◌∷◌, Option, Some, None, slice_index_or}
use Rattle.branch_bound.specs.declared.leaf.NumberedLeaf.{NumberedLeaf}
use Rattle.branch_bound.specs.declared.leaf.OpenLeaf.{OpenLeaf}

-- the leaf of node k, where a slot has it
abbrev pub leaf_of : List (Option NumberedLeaf) → ℕ → Option OpenLeaf
leaf_of [] k = None
leaf_of (None ∷ slots) k = leaf_of slots k
leaf_of (Some numbered ∷ slots) k = if numbered.node == k then Some numbered.leaf else leaf_of slots k

-- for each of the first so many nodes what is open there
abbrev pub leaves_of : List (Option NumberedLeaf) → ℕ → List (Option OpenLeaf)
leaves_of slots zero = []
leaves_of slots (suc nodes) = leaves_of slots nodes ++ leaf_of slots nodes ∷ []

-- each leaf is one of so many nodes, and no node has two slots
pub record IsNumbered (slots : List (Option NumberedLeaf)) (nodes : ℕ) : Type 0 where
  pub below : (s : ℕ) (numbered : NumberedLeaf) → slice_index_or slots s None ≡ Some numbered → numbered.node < nodes
  pub apart : (s t : ℕ) (a b : NumberedLeaf) → slice_index_or slots s None ≡ Some a → slice_index_or slots t None ≡ Some b → a.node ≡ b.node → s ≡ t
