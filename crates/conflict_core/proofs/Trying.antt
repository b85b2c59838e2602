-- What came of sets that were tried.
use Rattle.std.proofs.Common.{◌≡◌, ℕ, ◌++◌, ◌≤◌, sym, subst, List, length, take}
use Rattle.std.specs.Prelude.{drop}
use Rattle.ras_inventory.specs.declared.region.Region.{Region}
use Rattle.ras_inventory.specs.declared.bindings.Bindings.{Bindings}
use Rattle.ras_requests.specs.declared.all.Requests.{Requests}
use Rattle.plan_document.specs.declared.document.Document.{Document}
use Rattle.conflict_core.specs.declared.steps.Tried.{Tried}
use Rattle.conflict_core.specs.declared.steps.Tried.TheVariants.{Met}
use Rattle.conflict_core.specs.declared.steps.Found.{Found}
use Rattle.conflict_core.specs.declared.steps.Found.TheVariants.{Plans}
use Rattle.conflict_core.specs.Kept.{AreMembers}
use Rattle.conflict_core.specs.Answers.{ArePlans, IsPlanFor}
use Rattle.conflict_core.specs.Steps.{IsFound, IsTried}
use Rattle.conflict_core.proofs.Cuts.{members-cut}

-- what is left of a set is a set
pub cut-are : (members fewer : List ℕ) (from to count : ℕ) → fewer ≡ take from members ++ drop to members → from ≤ to → AreMembers count members → AreMembers count fewer
cut-are members fewer from to count e order those = subst (λ (xs : List ℕ). AreMembers count xs) (sym {A = List ℕ} e) (members-cut members from to count order those)

module _ (region : Region) (requests : Requests) (bindings : Bindings) (nodes : ℕ) (members : List ℕ) where
  pub met-plan : (tried : Tried) (document : Document) → tried ≡ Met document → IsTried region requests bindings members nodes tried
      → IsPlanFor region requests bindings members nodes document
  met-plan tried document e h = subst (λ (t : Tried). IsTried region requests bindings members nodes t) e h

  pub plans-found : (found : Found) (plans : List Document) → found ≡ Plans plans → IsFound region requests bindings members nodes found
      → ArePlans region requests bindings members nodes (length members) plans
  plans-found found plans e h = subst (λ (f : Found). IsFound region requests bindings members nodes f) e h
