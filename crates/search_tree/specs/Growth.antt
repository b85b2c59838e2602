-- Trees that grew by splits of leaves, from one leaf on.
use Rattle.std.specs.Prelude.{ℕ, ◌≡◌, ◌+◌, ◌*◌, ◌<◌, ◌≤◌, ◌++◌, false, List, [], ◌∷◌, length, Option, Some, None, All, slice_get, slice_set, slice_index, ⊤}
use Rattle.ip_model.specs.declared.parts.Bounds.{Bounds}
use Rattle.ip_model.specs.declared.point.Point.{Point}
use Rattle.ip_model.specs.declared.program.Program.{Program}
use Rattle.ip_model.specs.Choices.{choices_of}
use Rattle.ip_model.specs.Limits.{helper_at}
use Rattle.ip_model.specs.Points.{IsBoxOf}
use Rattle.bound_certificate.specs.declared.multipliers.Multipliers.{Multipliers}
use Rattle.bound_certificate.specs.declared.tree.Node.{Node}
use Rattle.bound_certificate.specs.declared.tree.Node.TheVariants.{Split, Bound, Refute}
use Rattle.bound_certificate.specs.Bound.{RowsInRange, Refutes}
use Rattle.bound_certificate.specs.Trees.{low_side, high_side, fault_of_tree}
use Rattle.search_tree.specs.Boxes.{box_at}
use Rattle.search_tree.specs.Ways.{leaves_of, ways_of_leaves}

-- the nodes once node i was split in the column at `at`, its children being the two last nodes
abbrev pub split_nodes : List Node → ℕ → ℕ → ℕ → Option Point → Node → Node → List Node
split_nodes nodes i column at shown low high = slice_set nodes i (Split column at (length nodes) (length nodes + 1) shown) ++ low ∷ high ∷ []

-- a leaf whose rows are in the program, and which is refuted where it says so
abbrev pub IsLeafOf : Program → Bounds → Node → Type 0
IsLeafOf program box (Split column at low high shown) = ⊥
IsLeafOf program box (Bound y) = RowsInRange program y
IsLeafOf program box (Refute y) = RowsInRange program y × Refutes program box y

-- a leaf that is not refuted can be split in a count column, and its two children are leaves of their boxes
pub record CanSplit (program : Program) (nodes : List Node) (i column at : ℕ) (low high : Node) : Type 0 where
  pub y : Multipliers
  pub leaf : slice_get nodes i ≡ Some (Bound y)
  pub there : column < length program.columns
  pub count : helper_at program.columns column ≡ false
  pub above : slice_index (box_at program nodes i).low column ≤ at
  pub below : at < slice_index (box_at program nodes i).high column
  pub low_child : IsLeafOf program (low_side (box_at program nodes i) column at) low
  pub high_child : IsLeafOf program (high_side (box_at program nodes i) column at) high

-- where the node is a split, its column is a count column
abbrev pub SplitsCount : Program → Node → Type 0
SplitsCount program (Split column at low high shown) = helper_at program.columns column ≡ false
SplitsCount program (Bound y) = ⊤
SplitsCount program (Refute y) = ⊤

-- what every tree keeps that grew from one leaf: no rule is broken, each node has a box of the program, only count columns are split,
-- there is one leaf more than there are splits, and the leaves part the ways to set the count columns among them
pub record IsGrown (program : Program) (nodes : List Node) : Type 0 where
  pub right : fault_of_tree program nodes ≡ None
  pub boxes : (k : ℕ) → k < length nodes → IsBoxOf program (box_at program nodes k)
  pub counts : All (SplitsCount program) nodes
  pub size : length nodes + 1 ≡ 2 * leaves_of nodes
  pub parted : ways_of_leaves program nodes ≡ choices_of program.columns
