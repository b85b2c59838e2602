-- What a search finds.
use Rattle.std.specs.Prelude.{ℕ, ◌≡◌, ◌+◌, ◌*◌, ◌<◌, ◌≤◌, List, [], length, Option, Some, None, All, ⊤}
use Rattle.ip_model.specs.declared.program.Program.{Program}
use Rattle.ip_model.specs.Choices.{choices_of}
use Rattle.ip_model.specs.Points.{value_of, IsWholePoint}
use Rattle.bound_certificate.specs.declared.tree.Least.TheVariants.{At, AllRefuted}
use Rattle.bound_certificate.specs.declared.tree.Node.{Node}
use Rattle.bound_certificate.specs.Shown.{AreShown}
use Rattle.bound_certificate.specs.Trees.{bound_of_tree, fault_of_tree}
use Rattle.search_tree.specs.Growth.{SplitsCount}
use Rattle.branch_bound.specs.declared.found.Best.{Best}
use Rattle.branch_bound.specs.declared.found.Found.{Found}
use Rattle.branch_bound.specs.declared.found.Found.TheVariants.{Plan, Empty, Limit}
use Rattle.exact_simplex.specs.Reasons.{AreReasoned, AreKnown}
use Rattle.branch_bound.specs.Openings.{IsBestSince, HasWithin}

-- No rule is broken, there are no more nodes than the budget, and only count columns are split. A point that a split shows lies strictly
-- inside it, a split that shows none is licensed, and a leaf that is not refuted is tight.
pub record IsTreeWithin (program : Program) (nodes : List Node) (budget : ℕ) : Type 0 where
  pub right : fault_of_tree program nodes ≡ None
  pub few : length nodes ≤ budget
  pub counts : All (SplitsCount program) nodes
  pub reasoned : AreReasoned program [] nodes

-- no worse than the first whole point, where there is one
abbrev pub IsNoWorse : Program → Option (List ℕ) → ℕ → Type 0
IsNoWorse program (Some first) value = value ≤ value_of program first
IsNoWorse program None value = ⊤

-- a whole point whose value is above the tree's bound by at most the gap
pub record IsPlan (program : Program) (first : Option (List ℕ)) (gap : ℕ) (point : List ℕ) (value lower : ℕ) (nodes : List Node) : Type 0 where
  pub whole : IsWholePoint program point
  pub value_is : value ≡ value_of program point
  pub bound : bound_of_tree program nodes ≡ At lower
  pub under : lower ≤ value
  pub near : value ≤ gap + lower
  pub shown : AreShown program lower [] nodes
  pub no_worse : IsNoWorse program first value

-- the best whole point that is known is above the bound by more than the gap
abbrev pub IsFar : Option Best → ℕ → ℕ → Type 0
IsFar (Some best) gap lower = gap + lower < best.value
IsFar None gap lower = ⊤

-- The budget has no room for a split, and is less than it takes to try all ways to set the count columns. The best whole point that is
-- known, if one is, is above the tree's bound by more than the gap, and is within the bound of each leaf that is not undecided.
pub record IsLimit (program : Program) (first : Option (List ℕ)) (gap budget : ℕ) (best : Option Best) (lower : ℕ) (nodes : List Node) : Type 0 where
  pub no_room : budget < length nodes + 2
  pub short : budget + 1 < 2 * choices_of program.columns
  pub bound : bound_of_tree program nodes ≡ At lower
  pub shown : AreShown program lower [] nodes
  pub known : IsBestSince program first best
  pub far : IsFar best gap lower
  pub decided : AreKnown program (HasWithin best) [] nodes

abbrev pub IsFound : Program → Option (List ℕ) → ℕ → ℕ → Found → Type 0
IsFound program first gap budget (Plan point value lower tree) = IsTreeWithin program tree.nodes budget × IsPlan program first gap point value lower tree.nodes
IsFound program first gap budget (Empty tree) = IsTreeWithin program tree.nodes budget × (bound_of_tree program tree.nodes ≡ AllRefuted)
IsFound program first gap budget (Limit best lower tree) = IsTreeWithin program tree.nodes budget × IsLimit program first gap budget best lower tree.nodes
