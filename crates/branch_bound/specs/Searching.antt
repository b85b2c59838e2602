-- The state of a search.
use Rattle.std.specs.Prelude.{ℕ, ◌≡◌, ◌+◌, ◌*◌, ◌<◌, ◌≤◌, ◌⊎◌, List, [], length, Option, Some, None, slice_get, slice_set}
use Rattle.ip_model.specs.declared.program.Program.{Program}
use Rattle.ip_model.specs.Choices.{choices_of}
use Rattle.bound_certificate.specs.declared.tree.Node.{Node}
use Rattle.bound_certificate.specs.declared.tree.Least.TheVariants.{At, AllRefuted}
use Rattle.bound_certificate.specs.Shown.{AreShown, IsShown}
use Rattle.bound_certificate.specs.Trees.{bound_of_tree}
use Rattle.exact_simplex.specs.Reasons.{AreKnown, AreReasoned, IsReasoned}
use Rattle.search_tree.specs.Boxes.{box_at}
use Rattle.search_tree.specs.Growth.{IsGrown}
use Rattle.branch_bound.specs.declared.found.Best.{Best}
use Rattle.branch_bound.specs.declared.leaf.OpenLeaf.{OpenLeaf}
use Rattle.branch_bound.specs.declared.state.Step.{Step}
use Rattle.branch_bound.specs.declared.state.Step.TheVariants as step
use Rattle.branch_bound.specs.Keys.{IsLeastOpen}
use Rattle.branch_bound.specs.Openings.{HasWithin, IsKept}

-- The tree grew from one leaf, what is known of each node is right, each split has its reason and each leaf is tight, and each shown
-- point is within the bound of each open leaf.
pub record IsSearch (program : Program) (nodes : List Node) (leaves : List (Option OpenLeaf)) (best : Option Best) : Type 0 where
  pub grown : IsGrown program nodes
  pub size : length leaves ≡ length nodes
  pub kept : (k : ℕ) (node : Node) (leaf : Option OpenLeaf) → slice_get nodes k ≡ Some node → slice_get leaves k ≡ Some leaf → IsKept program best (box_at program nodes k) node leaf
  pub reasoned : (k : ℕ) (node : Node) → slice_get nodes k ≡ Some node → IsReasoned program (box_at program nodes k) node
  pub shown : (k : ℕ) (node : Node) (j : ℕ) (leaf : OpenLeaf) → slice_get nodes k ≡ Some node → slice_get leaves j ≡ Some (Some leaf) → IsShown program leaf.bound (box_at program nodes k) node

-- the same, but for an open leaf of least bound, which was taken out
pub record IsPopped (program : Program) (nodes : List Node) (leaves : List (Option OpenLeaf)) (best : Option Best) (i : ℕ) (leaf : OpenLeaf) : Type 0 where
  pub before : List (Option OpenLeaf)
  pub right : IsSearch program nodes before best
  pub least : IsLeastOpen before i leaf
  pub taken : leaves ≡ slice_set before i None

-- a whole point is known whose value is above the lower bound by at most the gap
abbrev pub IsNear : Option Best → ℕ → ℕ → Type 0
IsNear best lower gap = HasWithin best (gap + lower)

-- the budget has no room for a split, and is less than it takes to try all ways to set the count columns
pub record IsFull (program : Program) (nodes : List Node) (budget : ℕ) : Type 0 where
  pub no_room : budget < length nodes + 2
  pub short : budget + 1 < 2 * choices_of program.columns

-- the search is over with this bound
pub record IsStopped (program : Program) (nodes : List Node) (best : Option Best) (lower gap budget : ℕ) : Type 0 where
  pub bound : bound_of_tree program nodes ≡ At lower
  pub shown : AreShown program lower [] nodes
  pub reasoned : AreReasoned program [] nodes
  pub decided : AreKnown program (HasWithin best) [] nodes
  pub over : IsNear best lower gap ⊎ IsFull program nodes budget

-- a split, or the end
abbrev pub IsStep : Program → ℕ → ℕ → ℕ → List Node → List (Option OpenLeaf) → Option Best → Step → Type 0
IsStep program gap budget before nodes leaves best step.Grown = IsSearch program nodes leaves best × (length nodes ≡ before + 2) × (length nodes ≤ budget)
IsStep program gap budget before nodes leaves best step.AllRefuted = IsGrown program nodes × (length nodes ≡ before) × (bound_of_tree program nodes ≡ AllRefuted) × AreReasoned program [] nodes
IsStep program gap budget before nodes leaves best (step.Stopped lower) = IsGrown program nodes × (length nodes ≡ before) × IsStopped program nodes best lower gap budget
