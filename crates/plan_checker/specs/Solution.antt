-- What the document of a case keeps.
use Rattle.std.specs.Prelude.{ℕ, ◌≡◌, ◌+◌, ◌*◌, ◌<◌, ◌≤◌, true, List, length, Option, Some, None, IfSome}
use Rattle.std.specs.Option.{IsSomeAnd}
use Rattle.plan_model.specs.declared.cases.Case.{Case}
use Rattle.plan_model.specs.declared.cases.Assignment.{Assignment}
use Rattle.plan_model.specs.declared.cases.Grouping.TheVariants.{Class}
use Rattle.plan_model.specs.Allowed.{region_allowed}
use Rattle.plan_model.specs.Costs.{region_cost, rack_cost}
use Rattle.ip_model.specs.Choices.{choices_of}
use Rattle.program_rows.specs.Settings.{Setting, region_setting, rack_setting, phase_classes}
use Rattle.program_rows.specs.Programs.{program_columns}
use Rattle.plan_document.specs.Writable.{CanBeWritten}
use Rattle.plan_document.specs.declared.part.Part.{Part}
use Rattle.plan_document.specs.declared.part.Planned.{Planned}
use Rattle.plan_document.specs.declared.part.RackPart.{RackPart}
use Rattle.plan_document.specs.declared.document.Answer.TheVariants as answer
use Rattle.plan_document.specs.declared.document.Document.{Document}
use Rattle.plan_checker.specs.Accepted.{IsAccepted}
use Rattle.plan_checker.specs.Headline.{KeepsPromises}
use Rattle.plan_checker.specs.Reasons.{first_reason}
use Rattle.plan_checker.specs.Shape.{HasShape}
use Rattle.plan_checker.specs.Causes.{HasCauses}
use Rattle.plan_checker.specs.Points.{shows_points}
use Rattle.first_plans.specs.FirstPlan.{first_plan_of}

-- how many ways there are to count the classes of a phase
abbrev pub phase_choices : Case → Setting → ℕ
phase_choices case setting = choices_of (program_columns case setting (phase_classes case setting Class))

-- the budget is below what always suffices for the last part, which is the rack part where there is one
abbrev pub IsTooFew : Case → ℕ → Option Planned → Option RackPart → Type 0
IsTooFew case nodes plan None = nodes + 1 < 2 * phase_choices case (region_setting case)
IsTooFew case nodes None (Some rack) = ⊥
IsTooFew case nodes (Some first) (Some rack) = nodes + 1 < 2 * phase_choices case (rack_setting case first.of rack.chosen)

-- the causes of the last part, which is the rack part where there is one
abbrev pub HasLastCauses : Case → Part → Option Planned → Option RackPart → Type 0
HasLastCauses case region plan None = HasCauses case (region_setting case) Class region
HasLastCauses case region None (Some rack) = ⊥
HasLastCauses case region (Some first) (Some rack) = HasCauses case (rack_setting case first.of rack.chosen) Class rack.part

-- the wanted gap, the budget and how many reservations at most are chosen are those that were asked for, and servers are grouped in classes
pub record States (wanted budget most : ℕ) (document : Document) : Type 0 where
  pub gap : document.gap ≡ wanted
  pub nodes : document.nodes ≡ budget
  pub racks : document.racks ≡ most
  pub grouping : document.grouping ≡ Class

-- each tree has at most so many nodes
pub record HasFewNodes (nodes : ℕ) (document : Document) : Type 0 where
  pub region : length document.region.tree.nodes ≤ nodes
  pub rack : IfSome document.rack (λ rack. length rack.part.tree.nodes ≤ nodes)

-- points are shown in the last part alone, and with answer limit alone
pub record ShowsPointsLast (document : Document) : Type 0 where
  pub region : shows_points document.region.tree.nodes ≡ true → (document.answer ≡ answer.Limit) × (document.rack ≡ None)
  pub rack : IfSome document.rack (λ rack. shows_points rack.part.tree.nodes ≡ true → document.answer ≡ answer.Limit)

-- the region's plan costs at most what the first plan costs, where there is one, and the rack part's at most what the region's plan costs with the racks
pub record IsNoWorse (case : Case) (document : Document) : Type 0 where
  pub region : IfSome (first_plan_of case) (λ a. IsSomeAnd document.region.plan (λ plan. plan.value ≤ region_cost case a))
  pub rack : IfSome document.region.plan (λ first. IfSome document.rack (λ rack. IsSomeAnd rack.part.plan (λ plan. plan.value ≤ rack_cost case first.of rack.chosen)))

-- The document states what was asked for, is accepted, and so keeps its promises. Its plans are no worse than what each phase began with. With answer infeasible
-- no assignment is allowed. With answer limit the budget was below what always suffices, what is known of the last part's splits, leaves and plan are its causes, and
-- there is no plan only where there is no first plan. Over any names of servers and reservations, what is written of it is read again as the same document.
pub record IsSolution (case : Case) (gap nodes racks : ℕ) (document : Document) : Type 0 where
  pub stated : States gap nodes racks document
  pub shape : HasShape case document
  pub accepted : IsAccepted case document
  pub no_reason : first_reason case document ≡ None
  pub promises : KeepsPromises case document
  pub few : HasFewNodes nodes document
  pub points : ShowsPointsLast document
  pub no_worse : IsNoWorse case document
  pub none : document.answer ≡ answer.Infeasible → (a : Assignment) → region_allowed case a ≡ true → ⊥
  pub no_first : document.answer ≡ answer.Limit → document.region.plan ≡ None → first_plan_of case ≡ None
  pub too_few : document.answer ≡ answer.Limit → IsTooFew case nodes document.region.plan document.rack
  pub causes : document.answer ≡ answer.Limit → HasLastCauses case document.region document.region.plan document.rack
  pub writable : (servers reservations : List (List ℕ)) → length servers ≡ length case.places → length reservations ≡ length case.wants → CanBeWritten servers reservations document
