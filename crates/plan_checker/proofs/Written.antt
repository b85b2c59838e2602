-- A document that the format can state has the shape that the verdict asks for.
use Rattle.std.proofs.Common.{◌≡◌, ℕ, ◌<◌, refl, ◌∙◌, subst, arith, true, false, List, length, get_or, nat_lt, Option, Some, None, is_some, All}
use Rattle.std.specs.Prelude.{IfSome}
use Rattle.std.specs.Option.{option_map_or}
use Rattle.std.proofs.lemmas.Bool.{and_from, eq-eqb}
use Rattle.std.proofs.lemmas.List.Sums.{list_all-from_AllPass}
use Rattle.plan_model.specs.declared.cases.Case.{Case}
use Rattle.plan_document.specs.declared.part.Planned.{Planned}
use Rattle.plan_document.specs.declared.part.Part.{Part}
use Rattle.plan_document.specs.declared.part.RackPart.{RackPart}
use Rattle.plan_document.specs.declared.part.Form.{Form}
use Rattle.plan_document.specs.declared.part.Form.TheVariants as form
use Rattle.plan_document.specs.declared.document.Answer.{Answer}
use Rattle.plan_document.specs.declared.document.Answer.TheVariants as answer
use Rattle.plan_document.specs.Documents.{form_of, may_have_rack}
use Rattle.plan_document.specs.Writable.{PlanIsInRange, HasForm, PartCanBeWritten, RackCanBeWritten}
use Rattle.plan_checker.specs.Shape.{PlanInRange, HasBound, PartInRange, GoesWith, HasPlan, RackInRange}
use Rattle.plan_checker.specs.Laws.{WrittenHasShape}

nat_lt-from : (m n : ℕ) → m < n → nat_lt m n ≡ true
nat_lt-from m n h = grind arith

place_in : (n m : ℕ) (to : Option ℕ) → m ≡ n → IfSome to (λ r. r < m) → option_map_or (λ r. nat_lt r n) to true ≡ true
place_in n m None same h = refl
place_in n m (Some r) same h = nat_lt-from r n (omega (arith, same, h))

bound_in : (f : Form) (plan : Option Planned) (lower : Option ℕ) → HasForm f plan lower → HasBound plan lower
bound_in f None lower h = tt
bound_in form.Planned (Some plan) None h = cc
bound_in form.Bounded (Some plan) None h = cc
bound_in form.Bare (Some plan) None h = cc
bound_in f (Some plan) (Some lower) h = tt

members_in : (a : Answer) (plan : Option Planned) (lower : Option ℕ) (rack : Option RackPart) → HasForm (form_of a (is_some plan)) plan lower
    → (is_some rack ≡ true → may_have_rack (form_of a (is_some plan)) ≡ true) → GoesWith a plan lower rack
members_in answer.Plan (Some plan) lower rack h beside = tt
members_in answer.Plan None lower rack h beside = cc
members_in answer.Infeasible (Some plan) lower rack h beside = cc
members_in answer.Infeasible None (Some lower) rack h beside = cc
members_in answer.Infeasible None None None h beside = tt
members_in answer.Infeasible None None (Some rack) h beside = let clash : false ≡ true = beside refl in cc
members_in answer.Limit (Some plan) lower rack h beside = tt
members_in answer.Limit None None rack h beside = cc
members_in answer.Limit None (Some lower) None h beside = tt
members_in answer.Limit None (Some lower) (Some rack) h beside = let clash : false ≡ true = beside refl in cc

plan_there : (plan : Option Planned) → is_some plan ≡ true → HasPlan plan
plan_there (Some plan) h = tt
plan_there None h = cc

module _ (case : Case) (servers reservations : List (List ℕ)) (places : length servers ≡ length case.places) (wants : length reservations ≡ length case.wants) where
  plan_in : (plan : Option Planned) → IfSome plan (PlanIsInRange servers reservations) → IfSome plan (PlanInRange case)
  plan_in None h = tt
  plan_in (Some plan) h = record {
    fitting = and_from _ _ (eq-eqb (length plan.of.of) (length case.places) (h.places ∙ places))
        (list_all-from_AllPass (λ (to : Option ℕ). option_map_or (λ r. nat_lt r (length case.wants)) to true) plan.of.of
        (λ k d q. place_in (length case.wants) (length reservations) (get_or plan.of.of k d) wants (h.there k d q)));
    value = h.value_most;
    gap = h.gap_most;
  }

  part_in : (f : Form) (part : Part) → PartCanBeWritten servers reservations f part → PartInRange case part
  part_in f part h = record { plan = plan_in part.plan h.plan; bound = bound_in f part.plan part.lower h.form; lower = h.lower_most }

  rack_in : (rack : Option RackPart) → IfSome rack (RackCanBeWritten servers reservations) → IfSome rack (RackInRange case)
  rack_in None h = tt
  rack_in (Some rack) h = record {
    part = part_in form.Planned rack.part h.part;
    has_plan = plan_there rack.part.plan h.part.form.0;
    some = h.chosen_least;
    chosen = subst (λ n. All (λ r. r < n) rack.chosen) wants h.chosen_there;
  }

pub written-has_shape : WrittenHasShape
written-has_shape case servers reservations document places wants h = record {
  protections = h.protections ∙ wants;
  region = part_in case servers reservations places wants (form_of document.answer (is_some document.region.plan)) document.region h.region;
  rack = rack_in case servers reservations places wants document.rack h.rack;
  members = members_in document.answer document.region.plan document.region.lower document.rack h.region.form h.beside;
}
