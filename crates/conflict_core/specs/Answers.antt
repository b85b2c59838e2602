-- What `core` answers.
use Rattle.std.specs.Prelude.{ℕ, ◌≡◌, ◌<◌, ⊤, List, length, Some, None, get_or}
use Rattle.std.specs.List.{remove}
use Rattle.ras_inventory.specs.declared.region.Region.{Region}
use Rattle.ras_inventory.specs.declared.bindings.Bindings.{Bindings}
use Rattle.ras_requests.specs.declared.all.Requests.{Requests}
use Rattle.plan_model.specs.declared.cases.Case.{Case}
use Rattle.plan_model.specs.declared.cases.Grouping.TheVariants.{Class}
use Rattle.program_rows.specs.declared.fault.SizeFault.{SizeFault}
use Rattle.program_rows.specs.declared.fault.SizeFault.TheVariants.{Columns, Rows, Memory}
use Rattle.program_rows.specs.Settings.{region_setting, phase_classes}
use Rattle.program_rows.specs.Sizes.{size_fault_of}
use Rattle.plan_document.specs.declared.document.Document.{Document}
use Rattle.plan_document.specs.declared.document.Answer.TheVariants as answers
use Rattle.first_plans.specs.FirstPlan.{first_plan_of}
use Rattle.plan_checker.specs.Shape.{HasPlan}
use Rattle.plan_checker.specs.Solution.{IsSolution}
use Rattle.conflict_core.specs.declared.answer.CoreAnswer.{CoreAnswer}
use Rattle.conflict_core.specs.declared.answer.CoreAnswer.TheVariants.{Core, Fits, Limit}
use Rattle.conflict_core.specs.Kept.{AreMembers, all_members}
use Rattle.conflict_core.specs.Cores.{IsCaseOf, IsCore}

-- the document solves the case of a set, with the greatest wanted gap and no racks
pub record IsDocumentOf (region : Region) (requests : Requests) (bindings : Bindings) (members : List ℕ) (nodes : ℕ) (document : Document) : Type 0 where
  pub case : Case
  pub is_case : IsCaseOf region requests bindings members case
  pub solution : IsSolution case 1000000000000 nodes 0 document

-- it has an assignment
pub record IsPlanFor (region : Region) (requests : Requests) (bindings : Bindings) (members : List ℕ) (nodes : ℕ) (document : Document) : Type 0 where
  pub is : IsDocumentOf region requests bindings members nodes document
  pub plan : HasPlan document.region.plan

-- it says that no assignment is allowed
pub record IsRefutationOf (region : Region) (requests : Requests) (bindings : Bindings) (members : List ℕ) (nodes : ℕ) (document : Document) : Type 0 where
  pub is : IsDocumentOf region requests bindings members nodes document
  pub answer : document.answer ≡ answers.Infeasible

-- its budget was spent before an assignment was found, and there is no first plan
pub record IsLimitOf (region : Region) (requests : Requests) (bindings : Bindings) (members : List ℕ) (nodes : ℕ) (document : Document) : Type 0 where
  pub is : IsDocumentOf region requests bindings members nodes document
  pub answer : document.answer ≡ answers.Limit
  pub no_plan : document.region.plan ≡ None
  pub no_first : first_plan_of is.case ≡ None

-- the n-th of these documents, of which there are so many, has an assignment for the set without its n-th member
pub record ArePlans (region : Region) (requests : Requests) (bindings : Bindings) (members : List ℕ) (nodes : ℕ) (count : ℕ) (plans : List Document) : Type 0 where
  pub many : length plans ≡ count
  pub each : (n : ℕ) (d : Document) → n < count → IsPlanFor region requests bindings (remove members n) nodes (get_or plans n d)

-- A core with the document that says that it can't be met and one for each member that is left out; or a document with an assignment for all; or a set
-- with its document that has none.
abbrev pub IsCoreAnswer : Region → Requests → Bindings → ℕ → CoreAnswer → Type 0
IsCoreAnswer region requests bindings nodes (Core members refutation plans) =
    IsCore region requests bindings members × IsRefutationOf region requests bindings members nodes refutation
    × ArePlans region requests bindings members nodes (length members) plans
IsCoreAnswer region requests bindings nodes (Fits plan) = IsPlanFor region requests bindings (all_members requests) nodes plan
IsCoreAnswer region requests bindings nodes (Limit over document) =
    AreMembers (length requests.list) over × IsLimitOf region requests bindings over nodes document

-- the program of some set of the reservations has this size
pub record HasSize (region : Region) (requests : Requests) (bindings : Bindings) (fault : SizeFault) : Type 0 where
  pub members : List ℕ
  pub those : AreMembers (length requests.list) members
  pub case : Case
  pub is_case : IsCaseOf region requests bindings members case
  pub size : size_fault_of case (region_setting case) (phase_classes case (region_setting case) Class) ≡ Some fault

-- want of memory, or the size of the program of some set
abbrev pub IsFaultOf : Region → Requests → Bindings → SizeFault → Type 0
IsFaultOf region requests bindings Memory = ⊤
IsFaultOf region requests bindings (Columns n) = HasSize region requests bindings (Columns n)
IsFaultOf region requests bindings (Rows n) = HasSize region requests bindings (Rows n)
