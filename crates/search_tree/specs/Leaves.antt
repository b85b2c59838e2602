-- The leaves that are not refuted, and their bounds.
use Rattle.std.specs.Prelude.{ℕ, ◌≡◌, ◌≤◌, List, Option, Some, None, slice_get}
use Rattle.ip_model.specs.declared.program.Program.{Program}
use Rattle.bound_certificate.specs.declared.multipliers.Multipliers.{Multipliers}
use Rattle.bound_certificate.specs.declared.tree.Least.{Least}
use Rattle.bound_certificate.specs.declared.tree.Least.TheVariants.{At, AllRefuted}
use Rattle.bound_certificate.specs.declared.tree.Node.{Node}
use Rattle.bound_certificate.specs.declared.tree.Node.TheVariants.{Split, Bound, Refute}
use Rattle.bound_certificate.specs.Bound.{leaf_bound}
use Rattle.search_tree.specs.Boxes.{box_at}

-- node k is a leaf with this bound in its box
pub record IsLeafAt (program : Program) (nodes : List Node) (k bound : ℕ) : Type 0 where
  pub y : Multipliers
  pub leaf : slice_get nodes k ≡ Some (Bound y)
  pub is : bound ≡ leaf_bound program (box_at program nodes k) y

-- a leaf has the bound, and none has a lesser one
pub record IsLeastLeaf (program : Program) (nodes : List Node) (bound : ℕ) : Type 0 where
  pub k : ℕ
  pub leaf : IsLeafAt program nodes k bound
  pub least : (j other : ℕ) → IsLeafAt program nodes j other → bound ≤ other

-- the least of the leaves' bounds, or that all leaves are refuted
abbrev pub IsLeast : Program → List Node → Least → Type 0
IsLeast program nodes (At bound) = IsLeastLeaf program nodes bound
IsLeast program nodes AllRefuted = (k bound : ℕ) → IsLeafAt program nodes k bound → ⊥

-- the multipliers of a node that is a leaf and not refuted
abbrev pub multipliers_of : Option Node → Option Multipliers
multipliers_of (Some (Bound y)) = Some y
multipliers_of (Some (Split column at low high shown)) = None
multipliers_of (Some (Refute y)) = None
multipliers_of None = None

abbrev pub multipliers_at : List Node → ℕ → Option Multipliers
multipliers_at nodes i = multipliers_of (slice_get nodes i)
