-- What is found on the way to a core.
use Rattle.std.specs.Prelude.{ℕ, ◌≡◌, ◌<◌, ◌≤◌, ◌++◌, Bool, true, false, List, length, take, drop}
use Rattle.ras_inventory.specs.declared.region.Region.{Region}
use Rattle.ras_inventory.specs.declared.bindings.Bindings.{Bindings}
use Rattle.ras_requests.specs.declared.all.Requests.{Requests}
use Rattle.conflict_core.specs.declared.steps.Clash.{Clash}
use Rattle.conflict_core.specs.declared.steps.Tried.{Tried}
use Rattle.conflict_core.specs.declared.steps.Tried.TheVariants.{Met, Clashes}
use Rattle.conflict_core.specs.declared.steps.Found.{Found}
use Rattle.conflict_core.specs.declared.steps.Found.TheVariants.{Plans, Fewer}
use Rattle.conflict_core.specs.declared.steps.Stop.{Stop}
use Rattle.conflict_core.specs.declared.steps.Stop.TheVariants.{Size, Spent}
use Rattle.conflict_core.specs.Kept.{AreMembers}
use Rattle.conflict_core.specs.Answers.{ArePlans, IsFaultOf, IsLimitOf, IsPlanFor, IsRefutationOf}

-- a set of reservations with the document that says that it can't be met
pub record IsClash (region : Region) (requests : Requests) (bindings : Bindings) (nodes : ℕ) (clash : Clash) : Type 0 where
  pub those : AreMembers (length requests.list) clash.members
  pub refuted : IsRefutationOf region requests bindings clash.members nodes clash.refutation

-- one of at most so many members
pub record IsFewer (region : Region) (requests : Requests) (bindings : Bindings) (nodes most : ℕ) (clash : Clash) : Type 0 where
  pub clashes : IsClash region requests bindings nodes clash
  pub few : length clash.members ≤ most

-- what came of a set
abbrev pub IsTried : Region → Requests → Bindings → List ℕ → ℕ → Tried → Type 0
IsTried region requests bindings members nodes (Met document) = IsPlanFor region requests bindings members nodes document
IsTried region requests bindings members nodes (Clashes clash) = (clash.members ≡ members) × IsClash region requests bindings nodes clash

-- what came of taking each member away in turn
abbrev pub IsFound : Region → Requests → Bindings → List ℕ → ℕ → Found → Type 0
IsFound region requests bindings members nodes (Plans plans) = ArePlans region requests bindings members nodes (length members) plans
IsFound region requests bindings members nodes (Fewer clash) = (length clash.members < length members) × IsClash region requests bindings nodes clash

-- why no more is found
abbrev pub IsStop : Region → Requests → Bindings → ℕ → Stop → Type 0
IsStop region requests bindings nodes (Size fault) = IsFaultOf region requests bindings fault
IsStop region requests bindings nodes (Spent over document) =
    AreMembers (length requests.list) over × IsLimitOf region requests bindings over nodes document

-- the members without those from one place to before another, where these were cut out, and else all
abbrev pub AreLeft : List ℕ → ℕ → ℕ → Bool → List ℕ → Type 0
AreLeft members from to true left = left ≡ take from members ++ drop to members
AreLeft members from to false left = left ≡ members
