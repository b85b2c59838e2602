-- What the splits and the leaves of a tree know of their boxes.
use Rattle.std.specs.Prelude.{ℕ, ◌≡◌, ◌+◌, ◌*◌, ◌<◌, ◌≤◌, ◌⊎◌, false, List, [], ◌∷◌, length, slice_index, Some, None, ⊤}
use Rattle.ip_model.specs.declared.parts.Bounds.{Bounds}
use Rattle.ip_model.specs.declared.point.Point.{Point}
use Rattle.ip_model.specs.declared.program.Program.{Program}
use Rattle.ip_model.specs.Limits.{helper_at}
use Rattle.ip_model.specs.Points.{IsPointIn, IsPointOf, numerator, value_over}
use Rattle.bound_certificate.specs.declared.tree.Node.{Node}
use Rattle.bound_certificate.specs.declared.tree.Node.TheVariants.{Split, Bound, Refute}
use Rattle.bound_certificate.specs.Bound.{leaf_bound}
use Rattle.bound_certificate.specs.Trees.{box_of}
use Rattle.exact_simplex.specs.Licences.{IsLicensed}

-- some point of the relaxation has a value that, rounded up, is at most the bound
pub record HasPointWithin (program : Program) (box : Bounds) (bound : ℕ) : Type 0 where
  pub den : ℕ
  pub x : ℕ → ℕ
  pub some : 1 ≤ den
  pub lies : IsPointIn program box den x
  pub within : value_over program den x ≤ den * bound

-- some such point is not whole at some count column
pub record HasFractionWithin (program : Program) (box : Bounds) (bound : ℕ) : Type 0 where
  pub den : ℕ
  pub x : ℕ → ℕ
  pub some : 1 ≤ den
  pub lies : IsPointIn program box den x
  pub within : value_over program den x ≤ den * bound
  pub column : ℕ
  pub there : column < length program.columns
  pub count : helper_at program.columns column ≡ false
  pub apart : (m : ℕ) → x column ≡ den * m → ⊥

-- some count column is not fixed in the box
pub record HasFreeCount (program : Program) (box : Bounds) : Type 0 where
  pub column : ℕ
  pub there : column < length program.columns
  pub count : helper_at program.columns column ≡ false
  pub free : slice_index box.low column < slice_index box.high column

-- a leaf of this box with this bound, which says all that its relaxation knows
abbrev pub IsTight : Program → Bounds → ℕ → Type 0
IsTight program box bound = IsLicensed program box ⊎ HasPointWithin program box bound

-- a leaf of this box with this bound, which a further split may help
abbrev pub IsUndecided : Program → Bounds → ℕ → Type 0
IsUndecided program box bound = (IsLicensed program box × HasFreeCount program box) ⊎ HasFractionWithin program box bound

-- it lies in the relaxation of the box, strictly between `at` and `at + 1` in the column
pub record LiesBetween (program : Program) (box : Bounds) (column at : ℕ) (point : Point) : Type 0 where
  pub lies : IsPointOf program box point
  pub above : point.den * at < numerator point column
  pub below : numerator point column < point.den * (at + 1)

-- a point that a split shows lies strictly inside it; a split that shows none is licensed; a leaf that is not refuted is tight
abbrev pub IsReasoned : Program → Bounds → Node → Type 0
IsReasoned program box (Split column at low high (Some point)) = LiesBetween program box column at point
IsReasoned program box (Split column at low high None) = IsLicensed program box
IsReasoned program box (Bound y) = IsTight program box (leaf_bound program box y)
IsReasoned program box (Refute y) = ⊤

-- each of these nodes, after the earlier ones, the latest of which stands first
abbrev pub AreReasoned : Program → List Node → List Node → Type 0
AreReasoned program earlier [] = ⊤
AreReasoned program earlier (node ∷ nodes) = IsReasoned program (box_of program earlier (length earlier)) node × AreReasoned program (node ∷ earlier) nodes

-- a leaf that is not refuted is undecided, or something within its bound is known
abbrev pub IsKnown : Program → (ℕ → Type 0) → Bounds → Node → Type 0
IsKnown program within box (Split column at low high shown) = ⊤
IsKnown program within box (Bound y) = IsUndecided program box (leaf_bound program box y) ⊎ within (leaf_bound program box y)
IsKnown program within box (Refute y) = ⊤

-- each of these nodes, after the earlier ones, the latest of which stands first
abbrev pub AreKnown : Program → (ℕ → Type 0) → List Node → List Node → Type 0
AreKnown program within earlier [] = ⊤
AreKnown program within earlier (node ∷ nodes) = IsKnown program within (box_of program earlier (length earlier)) node × AreKnown program within (node ∷ earlier) nodes
