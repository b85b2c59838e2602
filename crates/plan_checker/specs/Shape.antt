-- What a document that was read keeps: its shape, and that it names what is in the case.
use Rattle.program_rows.specs.declared.phases.Phase.{Phase}
use Rattle.program_rows.specs.declared.phases.Phase.TheVariants.{Region, Rack}
use Rattle.std.specs.Prelude.{ℕ, Bool, false, ◌≡◌, ◌<◌, ◌≤◌, ◌^◌, true, All, length, Option, Some, None, IfSome, ⊤}
use Rattle.plan_model.specs.declared.cases.Case.{Case}
use Rattle.plan_model.specs.Allowed.{fits}
use Rattle.plan_document.specs.declared.part.Planned.{Planned}
use Rattle.plan_document.specs.declared.part.Part.{Part}
use Rattle.plan_document.specs.declared.part.RackPart.{RackPart}
use Rattle.plan_document.specs.declared.document.Answer.{Answer}
use Rattle.plan_document.specs.declared.document.Answer.TheVariants as answer
use Rattle.plan_document.specs.declared.document.Document.{Document}

-- a plan fits the case and states numbers of at most 2^62
pub record PlanInRange (case : Case) (plan : Planned) : Type 0 where
  pub fitting : fits case plan.of ≡ true
  pub value : plan.value ≤ 2 ^ 62
  pub gap : plan.gap ≤ 2 ^ 62

-- a part with a plan states a bound
abbrev pub HasBound : Option Planned → Option ℕ → Type 0
HasBound None lower = ⊤
HasBound (Some plan) None = ⊥
HasBound (Some plan) (Some lower) = ⊤

pub record PartInRange (case : Case) (part : Part) : Type 0 where
  pub plan : IfSome part.plan (PlanInRange case)
  pub bound : HasBound part.plan part.lower
  pub lower : IfSome part.lower (λ n. n ≤ 2 ^ 62)

-- which members go with an answer
abbrev pub GoesWith : Answer → Option Planned → Option ℕ → Option RackPart → Type 0
GoesWith answer.Plan (Some plan) lower rack = ⊤
GoesWith answer.Plan None lower rack = ⊥
GoesWith answer.Infeasible None None None = ⊤
GoesWith answer.Infeasible None None (Some rack) = ⊥
GoesWith answer.Infeasible None (Some lower) rack = ⊥
GoesWith answer.Infeasible (Some plan) lower rack = ⊥
GoesWith answer.Limit (Some plan) lower rack = ⊤
GoesWith answer.Limit None (Some lower) None = ⊤
GoesWith answer.Limit None (Some lower) (Some rack) = ⊥
GoesWith answer.Limit None None rack = ⊥

-- there is a plan
abbrev pub HasPlan : Option Planned → Type 0
HasPlan None = ⊥
HasPlan (Some plan) = ⊤

-- a rack part has a plan and names chosen reservations of the case, at least one
pub record RackInRange (case : Case) (rack : RackPart) : Type 0 where
  pub part : PartInRange case rack.part
  pub has_plan : HasPlan rack.part.plan
  pub some : 0 < length rack.chosen
  pub chosen : All (λ r. r < length case.wants) rack.chosen

pub record HasShape (case : Case) (document : Document) : Type 0 where
  pub protections : length document.protection ≡ length case.wants
  pub region : PartInRange case document.region
  pub rack : IfSome document.rack (RackInRange case)
  pub members : GoesWith document.answer document.region.plan document.region.lower document.rack

-- whether racks count in a phase
abbrev pub counts_racks : Phase → Bool
counts_racks Region = false
counts_racks (Rack from chosen) = true
