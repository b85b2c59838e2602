-- What a search knows of its leaves and of the best whole point so far.
use Rattle.std.specs.Prelude.{ℕ, ◌≡◌, ◌<◌, ◌≤◌, false, IsTrue, List, length, Option, Some, None, slice_index, ⊤}
use Rattle.ip_model.specs.declared.parts.Bounds.{Bounds}
use Rattle.ip_model.specs.declared.point.Point.{Point}
use Rattle.ip_model.specs.declared.program.Program.{Program}
use Rattle.ip_model.specs.Limits.{helper_at, top_of}
use Rattle.ip_model.specs.Points.{value_of, IsWholePoint}
use Rattle.bound_certificate.specs.declared.multipliers.Multipliers.{Multipliers}
use Rattle.bound_certificate.specs.declared.tree.Node.{Node}
use Rattle.bound_certificate.specs.declared.tree.Node.TheVariants.{Split, Bound, Refute}
use Rattle.bound_certificate.specs.Bound.{leaf_bound, RowsInRange}
use Rattle.bound_certificate.specs.Shown.{Shows}
use Rattle.exact_simplex.specs.Licences.{IsLicensed}
use Rattle.exact_simplex.specs.Reasons.{HasPointWithin}
use Rattle.branch_bound.specs.declared.found.Best.{Best}
use Rattle.branch_bound.specs.declared.leaf.Cut.{Cut}
use Rattle.branch_bound.specs.declared.leaf.OpenLeaf.{OpenLeaf}

-- ---- whole points

-- a whole point with its value
pub record IsBest (program : Program) (best : Best) : Type 0 where
  pub whole : IsWholePoint program best.point
  pub value_is : best.value ≡ value_of program best.point

-- a whole point of at most this value is known
abbrev pub HasWithin : Option Best → ℕ → Type 0
HasWithin (Some best) value = best.value ≤ value
HasWithin None value = ⊥

-- what was within reach before still is
abbrev pub Improves : Option Best → Option Best → Type 0
Improves old new = (value : ℕ) → HasWithin old value → HasWithin new value

-- what is known is a whole point, and no worse than the first, where there is one
pub record IsBestSince (program : Program) (first : Option (List ℕ)) (best : Option Best) : Type 0 where
  pub right : (known : Best) → best ≡ Some known → IsBest program known
  pub no_worse : (point : List ℕ) → first ≡ Some point → HasWithin best (value_of program point)

-- ---- leaves

-- each helper from 0 to its top
pub record HasFullHelpers (program : Program) (box : Bounds) : Type 0 where
  pub low : (j : ℕ) → IsTrue (helper_at program.columns j) → slice_index box.low j ≡ 0
  pub high : (j : ℕ) → IsTrue (helper_at program.columns j) → slice_index box.high j ≡ top_of program.columns j

-- the box can be split in this count column at `at`
pub record CanCut (program : Program) (box : Bounds) (cut : Cut) : Type 0 where
  pub there : cut.column < length program.columns
  pub count : helper_at program.columns cut.column ≡ false
  pub above : slice_index box.low cut.column ≤ cut.at
  pub below : cut.at < slice_index box.high cut.column

-- the point tells why, where there is one, and its value, rounded up, is at most the bound; else the box is licensed
abbrev pub ShowsWhy : Program → Bounds → ℕ → ℕ → ℕ → Option Point → Type 0
ShowsWhy program box column at bound (Some point) = Shows program box column at bound point
ShowsWhy program box column at bound None = IsLicensed program box

-- the box can be split so, or some point of its relaxation and a whole point that is known are within the bound
abbrev pub IsCutOf : Program → Option Best → Bounds → ℕ → Option Cut → Type 0
IsCutOf program best box bound (Some cut) = CanCut program box cut × ShowsWhy program box cut.column cut.at bound cut.shown
IsCutOf program best box bound None = HasPointWithin program box bound × HasWithin best bound

-- what is known of a leaf with these multipliers
pub record IsOpenAt (program : Program) (best : Option Best) (box : Bounds) (y : Multipliers) (leaf : OpenLeaf) : Type 0 where
  pub rows : RowsInRange program y
  pub bound_is : leaf.bound ≡ leaf_bound program box y
  pub helpers : HasFullHelpers program box
  pub cut : IsCutOf program best box leaf.bound leaf.cut

-- the leaves that are not refuted are open, and no other node is
abbrev pub IsKept : Program → Option Best → Bounds → Node → Option OpenLeaf → Type 0
IsKept program best box (Bound y) (Some leaf) = IsOpenAt program best box y leaf
IsKept program best box (Bound y) None = ⊥
IsKept program best box (Refute y) (Some leaf) = ⊥
IsKept program best box (Refute y) None = ⊤
IsKept program best box (Split column at low high shown) (Some leaf) = ⊥
IsKept program best box (Split column at low high shown) None = ⊤
