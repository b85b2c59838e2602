-- The target of an accepted document fits and serves the case.
use Rattle.std.proofs.Common.{ℕ, ◌≡◌, ◌&&◌, Bool, true, false, subst, refl, List, Option, Some, None, IfSome, option_and_then, zip}
use Rattle.std.specs.List.{list_all}
use Rattle.std.proofs.lemmas.Bool.{and_parts}
use Rattle.plan_model.specs.declared.cases.Assignment.{Assignment}
use Rattle.plan_model.specs.declared.cases.Case.{Case}
use Rattle.plan_model.specs.Allowed.{fits, serves, keeps_need, region_allowed}
use Rattle.plan_model.specs.Costs.{rack_cost, region_cost}
use Rattle.plan_model.specs.Rack.{keeps_to_chosen, rack_allowed}
use Rattle.plan_model.specs.Units.{all_reservations, servers_with_places}
use Rattle.plan_document.specs.declared.document.Answer.{Answer}
use Rattle.plan_document.specs.declared.document.Answer.TheVariants as answer
use Rattle.plan_document.specs.declared.document.Document.{Document}
use Rattle.plan_document.specs.declared.part.Planned.{Planned}
use Rattle.plan_document.specs.declared.part.RackPart.{RackPart}
use Rattle.plan_checker.specs.Accepted.{IsAccepted, IsRightPlan, IsRightRack}
use Rattle.plan_checker.specs.Shape.{GoesWith, HasPlan, HasShape, RackInRange}
use Rattle.plan_checker.specs.Target.{first_of, planned_of, target_of}

plan-allowed : (allows : Assignment → Bool) (cost : Assignment → ℕ) (lower : Option ℕ) (plan : Option Planned) → IfSome plan (IsRightPlan allows cost lower)
    → IfSome (planned_of plan) (λ target. allows target ≡ true)
plan-allowed allows cost lower None right = tt
plan-allowed allows cost lower (Some plan) right = right.allowed

-- where there is a part of the racks, the region's part has a plan
first-plan : (a : Answer) (plan : Option Planned) (lower : Option ℕ) (rack : RackPart) → GoesWith a plan lower (Some rack) → (first : Planned) × (plan ≡ Some first)
first-plan a (Some first) lower rack h = (first, refl)
first-plan answer.Plan None lower rack h = absurd h
first-plan answer.Infeasible None None rack h = absurd h
first-plan answer.Infeasible None (Some lower) rack h = absurd h
first-plan answer.Limit None (Some lower) rack h = absurd h
first-plan answer.Limit None None rack h = absurd h

rack-is-allowed : (case : Case) (first : Assignment) (chosen : List ℕ) (a : Assignment) → rack_allowed case first chosen a ≡ true → region_allowed case a ≡ true
rack-is-allowed case first chosen a h = (and_parts (region_allowed case a) (list_all (keeps_to_chosen case chosen) (zip (servers_with_places case first) a.of)) h).0

rack-target : (case : Case) (first : Assignment) (chosen : List ℕ) (cost : Assignment → ℕ) (lower : Option ℕ) (plan other : Option Planned)
    → IfSome plan (IsRightPlan (rack_allowed case first chosen) cost lower) → HasPlan plan → IfSome (first_of (planned_of plan) (planned_of other)) (λ target. region_allowed case target ≡ true)
rack-target case first chosen cost lower None other right has = absurd has
rack-target case first chosen cost lower (Some plan) other right has = rack-is-allowed case first chosen plan.of right.allowed

pub target-allowed : (case : Case) (document : Document) → HasShape case document → IsAccepted case document → IfSome (target_of document) (λ target. region_allowed case target ≡ true)
target-allowed case document shape accepted = go document.rack shape.rack shape.members accepted.rack
  where
    go : (o : Option RackPart) → IfSome o (RackInRange case) → GoesWith document.answer document.region.plan document.region.lower o
        → IfSome document.region.plan (λ first. IfSome o (IsRightRack case document.grouping first.of))
        → IfSome (first_of (option_and_then (λ rack. planned_of rack.part.plan) o) (planned_of document.region.plan)) (λ target. region_allowed case target ≡ true)
    go None range members right = plan-allowed (region_allowed case) (region_cost case) document.region.lower document.region.plan accepted.region.plan
    go (Some rack) range members right =
        let first = first-plan document.answer document.region.plan document.region.lower rack members in
        let rack_right = subst (λ (p : Option Planned). IfSome p (λ first. IsRightRack case document.grouping first.of rack)) first.1 right in
        rack-target case first.0.of rack.chosen (λ a. rack_cost case a rack.chosen) rack.part.lower rack.part.plan document.region.plan rack_right.plan range.has_plan

if-some : {A : Type 0} (o : Option A) (P Q : A → Type 0) → ((a : A) → P a → Q a) → IfSome o P → IfSome o Q
if-some None P Q f h = tt
if-some (Some a) P Q f h = f a h

three : (a b c : Bool) → a && b && c ≡ true → (a ≡ true) × (b ≡ true)
three true true c h = (refl, refl)
three true false c h = absurd cc
three false b c h = absurd cc

pub target-fits : (case : Case) (document : Document) → HasShape case document → IsAccepted case document → IfSome (target_of document) (λ target. fits case target ≡ true)
target-fits case document shape accepted =
    if-some (target_of document) (λ target. region_allowed case target ≡ true) (λ target. fits case target ≡ true)
    (λ a h. (three (fits case a) (list_all (serves case) (servers_with_places case a)) (list_all (keeps_need case a) (all_reservations case)) h).0) (target-allowed case document shape accepted)

pub target-serves : (case : Case) (document : Document) → HasShape case document → IsAccepted case document
    → IfSome (target_of document) (λ target. list_all (serves case) (servers_with_places case target) ≡ true)
target-serves case document shape accepted =
    if-some (target_of document) (λ target. region_allowed case target ≡ true) (λ target. list_all (serves case) (servers_with_places case target) ≡ true)
    (λ a h. (three (fits case a) (list_all (serves case) (servers_with_places case a)) (list_all (keeps_need case a) (all_reservations case)) h).1) (target-allowed case document shape accepted)
