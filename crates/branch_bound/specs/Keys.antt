-- The keys of open leaves.
use Rattle.std.specs.Prelude.{ℕ, ◌≡◌, ◌≤◌, ◌==◌, ◌&&◌, if◌then◌else◌, List, Option, Some, None, slice_get, slice_index_or, count_by}
use Rattle.std.specs.Ordering.{nat_cmp, ordering_then}
use Rattle.std.specs.declared.cmp.Ordering.{Ordering}
use Rattle.std.specs.declared.cmp.Reverse.{Reverse}
use Rattle.branch_bound.specs.declared.leaf.NumberedLeaf.{NumberedLeaf}
use Rattle.branch_bound.specs.declared.leaf.OpenLeaf.{OpenLeaf}

-- the least bound comes first, then the least number, and then the least slot
abbrev pub key_order : Reverse (ℕ × ℕ × ℕ) → Reverse (ℕ × ℕ × ℕ) → Ordering
key_order x y = ordering_then (ordering_then (nat_cmp y.0.0 x.0.0) (nat_cmp y.0.1 x.0.1)) (nat_cmp y.0.2 x.0.2)

-- how many keys of this bound and node a slot has: 1 where its leaf is that node's and has the bound
abbrev pub keys_of : Option NumberedLeaf → ℕ → ℕ → ℕ
keys_of (Some numbered) bound k = if (numbered.leaf.bound == bound) && (numbered.node == k) then 1 else 0
keys_of None bound k = 0

-- each leaf in a slot has its key once, and there is no other key
abbrev pub HoldsKeys : List (Option NumberedLeaf) → List (Reverse (ℕ × ℕ × ℕ)) → Type 0
HoldsKeys slots keys = (bound k slot : ℕ) → count_by (λ key. (key.0.0 == bound) && ((key.0.1 == k) && (key.0.2 == slot))) keys ≡ keys_of (slice_index_or slots slot None) bound k

-- this leaf is open, and none has a lesser bound
pub record IsLeastOpen (leaves : List (Option OpenLeaf)) (k : ℕ) (leaf : OpenLeaf) : Type 0 where
  pub there : slice_get leaves k ≡ Some (Some leaf)
  pub least : (j : ℕ) (other : OpenLeaf) → slice_get leaves j ≡ Some (Some other) → leaf.bound ≤ other.bound
