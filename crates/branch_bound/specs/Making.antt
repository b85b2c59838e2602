-- New leaves.
use Rattle.std.specs.Prelude.{◌≤◌, Option, Some, None, ⊤}
use Rattle.ip_model.specs.declared.parts.Bounds.{Bounds}
use Rattle.ip_model.specs.declared.program.Program.{Program}
use Rattle.bound_certificate.specs.declared.multipliers.Multipliers.{Multipliers}
use Rattle.bound_certificate.specs.Bound.{leaf_bound}
use Rattle.search_tree.specs.Growth.{IsLeafOf}
use Rattle.branch_bound.specs.declared.found.Best.{Best}
use Rattle.branch_bound.specs.declared.leaf.OpenLeaf.{OpenLeaf}
use Rattle.branch_bound.specs.declared.make.Made.{Made}
use Rattle.branch_bound.specs.Openings.{IsKept}

-- the leaf's bound is no less than that of its parent's multipliers
abbrev pub IsNoLess : Program → Bounds → Multipliers → Option OpenLeaf → Type 0
IsNoLess program box parent (Some leaf) = leaf_bound program box parent ≤ leaf.bound
IsNoLess program box parent None = ⊤

-- a leaf of this box, with what is known of it
pub record IsMade (program : Program) (best : Option Best) (box : Bounds) (parent : Multipliers) (made : Made) : Type 0 where
  pub right : IsLeafOf program box made.node
  pub kept : IsKept program best box made.node made.leaf
  pub no_less : IsNoLess program box parent made.leaf
