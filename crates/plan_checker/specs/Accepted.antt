-- When a document is accepted.
use Rattle.std.specs.Prelude.{ℕ, ◌≡◌, ◌+◌, ◌≤◌, ◌<◌, true, Bool, List, [], length, map, Option, Some, None, IfSome, option_map, ⊤}
use Rattle.std.specs.List.{list_all}
use Rattle.ras_requests.specs.declared.requests.Protection.{Protection}
use Rattle.plan_model.specs.declared.cases.Case.{Case}
use Rattle.plan_model.specs.declared.cases.Assignment.{Assignment}
use Rattle.plan_model.specs.declared.cases.Grouping.{Grouping}
use Rattle.plan_model.specs.Allowed.{region_allowed}
use Rattle.plan_model.specs.Costs.{region_cost, rack_cost}
use Rattle.plan_model.specs.Rack.{rack_allowed}
use Rattle.program_rows.specs.Settings.{Setting, region_setting, rack_setting}
use Rattle.program_rows.specs.Accepted.{IsRightTree, IsSpent}
use Rattle.plan_document.specs.declared.part.Planned.{Planned}
use Rattle.plan_document.specs.declared.part.Part.{Part}
use Rattle.plan_document.specs.declared.part.RackPart.{RackPart}
use Rattle.plan_document.specs.declared.document.Answer.TheVariants as answer
use Rattle.plan_document.specs.declared.document.Document.{Document}
use Rattle.plan_checker.specs.Reasons.{is_closed, right_chosen, stated_chosen}

-- the protection of each reservation of the case
abbrev pub case_protections : Case → List Protection
case_protections case = map (λ want. want.protection) case.wants

-- its assignment is allowed, its stated value is the cost, and its stated gap is value minus the stated bound
pub record IsRightPlan (allows : Assignment → Bool) (cost : Assignment → ℕ) (lower : Option ℕ) (plan : Planned) : Type 0 where
  pub allowed : allows plan.of ≡ true
  pub value : plan.value ≡ cost plan.of
  pub gap : IfSome lower (λ n. plan.gap + n ≡ plan.value)

-- its plan, if it has one, is right, and so is its tree
pub record IsRightPart (case : Case) (setting : Setting) (how : Grouping) (allows : Assignment → Bool) (cost : Assignment → ℕ) (part : Part) : Type 0 where
  pub plan : IfSome part.plan (IsRightPlan allows cost part.lower)
  pub tree : IsRightTree case setting how part.lower part.tree.nodes

abbrev pub IsRightRack : Case → Grouping → Assignment → RackPart → Type 0
IsRightRack case how region rack =
    IsRightPart case (rack_setting case region rack.chosen) how (rack_allowed case region rack.chosen) (λ a. rack_cost case a rack.chosen) rack.part

abbrev pub gap_of : Option Planned → Option ℕ
gap_of plan = option_map (λ p. p.gap) plan

-- the stated gaps are at most the wanted gap
abbrev pub GapsWithin : ℕ → Document → Type 0
GapsWithin wanted document = IfSome document.region.plan (λ plan. plan.gap ≤ wanted) × IfSome document.rack (λ rack. IfSome rack.part.plan (λ plan. plan.gap ≤ wanted))

-- the budget of the last part is spent
abbrev pub SpentBudget : Case → Document → Option RackPart → Option Planned → Type 0
SpentBudget case document None plan =
    IfSome document.region.lower (λ lower. IsSpent case (region_setting case) document.grouping document.nodes document.gap (gap_of document.region.plan) lower document.region.tree.nodes)
SpentBudget case document (Some rack) None = ⊤
SpentBudget case document (Some rack) (Some first) =
    IfSome rack.part.lower (λ lower. IsSpent case (rack_setting case first.of rack.chosen) document.grouping document.nodes document.gap (gap_of rack.part.plan) lower rack.part.tree.nodes)

-- a rack part is there exactly where reservations are chosen
abbrev pub GoesWithChosen : Option RackPart → List ℕ → Type 0
GoesWithChosen None chosen = chosen ≡ []
GoesWithChosen (Some rack) chosen = 0 < length chosen

-- The stated protection of each reservation is that of the case. Each part is right. The stated list of chosen reservations is the chosen list, and a rack part is there exactly where it is not empty, unless the answer is that there
-- is no plan. Where the answer is a plan, each
-- stated gap is at most the wanted gap; where it is that there is none, all leaves are refuted; where it is a limit, the last part's budget is spent.
pub record IsAccepted (case : Case) (document : Document) : Type 0 where
  pub protections : document.protection ≡ case_protections case
  pub region : IsRightPart case (region_setting case) document.grouping (region_allowed case) (region_cost case) document.region
  pub rack : IfSome document.region.plan (λ first. IfSome document.rack (IsRightRack case document.grouping first.of))
  pub chosen : (document.answer ≡ answer.Infeasible → ⊥) → stated_chosen document ≡ right_chosen case document
  pub rack_there : (document.answer ≡ answer.Infeasible → ⊥) → GoesWithChosen document.rack (right_chosen case document)
  pub gaps : document.answer ≡ answer.Plan → GapsWithin document.gap document
  pub refuted : document.answer ≡ answer.Infeasible → list_all is_closed document.region.tree.nodes ≡ true
  pub spent : document.answer ≡ answer.Limit → SpentBudget case document document.rack document.region.plan
