-- What an accepted document promises, over single servers and plain sums.
use Rattle.std.specs.Prelude.{ℕ, ◌≡◌, ◌-◌, ◌<◌, ◌≤◌, true, All, List, length, IfSome}
use Rattle.plan_model.specs.declared.cases.Case.{Case}
use Rattle.plan_model.specs.declared.cases.Assignment.{Assignment}
use Rattle.plan_model.specs.Units.{server_with}
use Rattle.plan_model.specs.Allowed.{fits, serves, survives, region_allowed}
use Rattle.plan_model.specs.Losses.{losses}
use Rattle.plan_model.specs.Costs.{region_cost, rack_cost}
use Rattle.plan_model.specs.Rack.{rack_allowed}
use Rattle.plan_document.specs.declared.part.Planned.{Planned}
use Rattle.plan_document.specs.declared.document.Answer.TheVariants as answer
use Rattle.plan_document.specs.declared.document.Document.{Document}

-- Each server has at most one reservation, and one that it may serve. Each reservation keeps its requested
-- units, also after any one loss that its stated protection names.
-- The stated value is the cost, and it exceeds the cost of no allowed assignment by more than the stated gap.
pub record KeepsPromise (case : Case) (allowed : Assignment → Type 0) (cost : Assignment → ℕ) (plan : Planned) : Type 0 where
  pub places : fits case plan.of ≡ true
  pub serves : (s : ℕ) → s < length case.places → serves case (server_with case plan.of s) ≡ true
  pub needs : (r : ℕ) → r < length case.wants → All (λ lost. survives case plan.of r lost ≡ true) (losses case r)
  pub value : plan.value ≡ cost plan.of
  pub least : (b : Assignment) → allowed b → plan.value - cost b ≤ plan.gap

-- of the region part
abbrev pub RegionPromise : Case → Planned → Type 0
RegionPromise case plan = KeepsPromise case (λ b. region_allowed case b ≡ true) (region_cost case) plan

-- of the rack part, which starts from the region part's assignment
abbrev pub RackPromise : Case → Assignment → List ℕ → Planned → Type 0
RackPromise case region chosen plan = KeepsPromise case (λ b. rack_allowed case region chosen b ≡ true) (λ b. rack_cost case b chosen) plan

pub record KeepsPromises (case : Case) (document : Document) : Type 0 where
  pub region : IfSome document.region.plan (RegionPromise case)
  pub rack : IfSome document.region.plan (λ first. IfSome document.rack (λ rack. IfSome rack.part.plan (RackPromise case first.of rack.chosen)))
  pub infeasible : document.answer ≡ answer.Infeasible → (b : Assignment) → region_allowed case b ≡ true → ⊥
