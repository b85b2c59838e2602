-- The phase of racks in its own words.
use Rattle.std.proofs.Common.{◌≡◌, ℕ, zero, suc, ◌<◌, ◌≤◌, Bool, true, false, cond, List, [], ◌∷◌, length, take, ap, sym, subst, ◌∙◌, refl, arith, Some, None, nat_le, nat_eq}
use Rattle.std.specs.Prelude.{Option, Result, Ok, Err, IfOk, IfErr, ◌&&◌, zip}
use Rattle.std.specs.List.{list_all}
use Rattle.std.specs.Option.{option_eq, IsSomeAnd}
use Rattle.std.proofs.lemmas.Bool.Decides.{nat_tests}
use Rattle.plan_model.specs.declared.cases.Place.{Place}
use Rattle.plan_model.specs.declared.cases.Case.{Case}
use Rattle.plan_model.specs.declared.cases.Assignment.{Assignment}
use Rattle.plan_model.specs.declared.cases.Grouping.{Grouping}
use Rattle.plan_model.specs.declared.cases.Grouping.TheVariants as grouping
use Rattle.plan_model.specs.Allowed.{fits, region_allowed}
use Rattle.plan_model.specs.Chosen.{AreChosen}
use Rattle.plan_model.specs.Costs.{rack_cost}
use Rattle.plan_model.specs.Rack.{is_movable, none_or_in, some_value, keeps_to_chosen, rack_allowed}
use Rattle.plan_model.specs.Units.{servers_with_places}
use Rattle.plan_model.proofs.CaseFacts.{and-left, and-right}
use Rattle.symmetry_classes.specs.declared.groups.Class.{Class}
use Rattle.program_rows.specs.declared.fault.SizeFault.{SizeFault}
use Rattle.program_rows.specs.declared.fault.SizeFault.TheVariants.{Columns, Rows, Memory}
use Rattle.program_rows.specs.Choice.{chosen_of, longest_prefix, rack_program_fits, ranking}
use Rattle.program_rows.specs.Phases.{phase_allowed, phase_cost}
use Rattle.program_rows.specs.Programs.{program_columns, program_lines, program_fits}
use Rattle.program_rows.specs.Settings.{Setting, rack_setting, phase_classes}
use Rattle.program_rows.specs.Sizes.{IsFault, size_fault, size_fault_of}
use Rattle.plan_document.specs.declared.document.Answer.{Answer}
use Rattle.plan_document.specs.declared.document.Answer.TheVariants as answer
use Rattle.plan_document.specs.declared.part.Planned.{Planned}
use Rattle.plan_document.specs.declared.part.Part.{Part}
use Rattle.plan_checker.specs.Shape.{GoesWith, HasPlan}
use Rattle.class_expand.proofs.Chosen.{chosen-there}
use Rattle.class_expand.proofs.Phases.{rack-phase_allowed, rack-phase_cost}
use Rattle.plan_checker.specs.Solved.{IsSolved}
use Rattle.phase_search.proofs.Converted.{solved-other, solved-by}

-- ---- the region's assignment is allowed in the phase that starts from it

same-place : (o : Option ℕ) → option_eq nat_eq o o ≡ true
same-place None = refl
same-place (Some r) = grind (arith, nat_tests)

own-kept : (case : Case) (chosen : List ℕ) (s : Place × Option ℕ) (b : Bool) → is_movable case chosen s ≡ b → cond b (none_or_in chosen s.1) (option_eq nat_eq s.1 s.1) ≡ true
own-kept case chosen s true e = and-right s.0.up (none_or_in chosen s.1) (and-left (s.0.up && none_or_in chosen s.1) (some_value case chosen s.0.kind) e)
own-kept case chosen s false e = same-place s.1

both : (a b : Bool) → a ≡ true → b ≡ true → (a && b) ≡ true
both true b h k = k
both false b h k = h

all-kept : (case : Case) (chosen : List ℕ) (ps : List Place) (os : List (Option ℕ)) → list_all (keeps_to_chosen case chosen) (zip (zip ps os) os) ≡ true
all-kept case chosen [] os = refl
all-kept case chosen (p ∷ ps) [] = refl
all-kept case chosen (p ∷ ps) (o ∷ os) =
    both (keeps_to_chosen case chosen ((p, o), o)) (list_all (keeps_to_chosen case chosen) (zip (zip ps os) os))
    (own-kept case chosen (p, o) (is_movable case chosen (p, o)) refl) (all-kept case chosen ps os)

own-allowed : (case : Case) (region : Assignment) (chosen : List ℕ) → region_allowed case region ≡ true → rack_allowed case region chosen region ≡ true
own-allowed case region chosen allowed =
    both (region_allowed case region) (list_all (keeps_to_chosen case chosen) (zip (servers_with_places case region) region.of)) allowed (all-kept case chosen case.places region.of)

pub start-fits : (case : Case) (region : Assignment) → region_allowed case region ≡ true → fits case region ≡ true
start-fits case region allowed = and-left _ _ (and-left _ _ allowed)

pub start-allowed : (case : Case) (region : Assignment) (chosen : List ℕ) → region_allowed case region ≡ true → phase_allowed case (rack_setting case region chosen) region ≡ true
start-allowed case region chosen allowed = sym (rack-phase_allowed case region chosen allowed region allowed) ∙ own-allowed case region chosen allowed

-- ---- the chosen reservations

pub are-chosen : (case : Case) (region : Assignment) (chosen : List ℕ) (most : ℕ) → chosen ≡ chosen_of case region most → AreChosen case chosen
are-chosen case region chosen most e = subst (λ (rs : List ℕ). AreChosen case rs) (sym e) (chosen-there case region most)

prefix-by : (test : List ℕ → Bool) (rs : List ℕ) (n : ℕ) (b : Bool) → test (take (suc n) rs) ≡ b
    → (0 < length (longest_prefix test rs n) → test (longest_prefix test rs n) ≡ true)
    → 0 < length (cond b (take (suc n) rs) (longest_prefix test rs n)) → test (cond b (take (suc n) rs) (longest_prefix test rs n)) ≡ true
prefix-by test rs n true e shorter some = e
prefix-by test rs n false e shorter some = shorter some

prefix-passes : (test : List ℕ → Bool) (rs : List ℕ) (n : ℕ) → 0 < length (longest_prefix test rs n) → test (longest_prefix test rs n) ≡ true
prefix-passes test rs zero some = absurd (omega (arith, some))
prefix-passes test rs (suc n) some = prefix-by test rs n (test (take (suc n) rs)) refl (prefix-passes test rs n) some

pub chosen-fits : (case : Case) (region : Assignment) (chosen : List ℕ) (most : ℕ) → chosen ≡ chosen_of case region most → 0 < length chosen
    → rack_program_fits case region chosen ≡ true
chosen-fits case region chosen most e some =
    ap (rack_program_fits case region) e
    ∙ prefix-passes (rack_program_fits case region) (take most (ranking case region)) (length (take most (ranking case region))) (subst (λ (rs : List ℕ). 0 < length rs) e some)

-- ---- the faults of a program that fits

no-size_fault : (columns rows : ℕ) → (nat_le columns 2048 && nat_le rows 2048) ≡ true → size_fault columns rows ≡ None
no-size_fault columns rows h = grind (arith, nat_tests)

only-memory : (o : Option SizeFault) (fault : SizeFault) → o ≡ None → IsFault o fault → fault ≡ Memory
only-memory o Memory none is = refl
only-memory o (Columns n) none is = cc
only-memory o (Rows n) none is = cc

pub fitting-faults : (case : Case) (setting : Setting) (how : Grouping) (r : Result (Answer × Part) SizeFault) → program_fits case setting (phase_classes case setting grouping.Class) ≡ true
    → IfErr r (IsFault (size_fault_of case setting (phase_classes case setting how))) → how ≡ grouping.Class → IfErr r (λ fault. fault ≡ Memory)
fitting-faults case setting how (Ok x) fits is same = tt
fitting-faults case setting how (Err fault) fits is same =
    only-memory (size_fault_of case setting (phase_classes case setting how)) fault
    (ap (λ (h : Grouping). size_fault_of case setting (phase_classes case setting h)) same
    ∙ no-size_fault (length (program_columns case setting (phase_classes case setting grouping.Class))) (length (program_lines case setting (phase_classes case setting grouping.Class))) fits) is

-- ---- what the search answers, in the words of the racks

module _ (case : Case) (region : Assignment) (chosen : List ℕ) (allowed : region_allowed case region ≡ true) (are : AreChosen case chosen) (how : Grouping) (wanted budget : ℕ) where
  abbrev setting : Setting
  setting = rack_setting case region chosen

  pub rack-solved : (first : Option Assignment) (outcome : Answer) (part : Part)
      → IsSolved case setting how (phase_allowed case setting) (phase_cost case setting) wanted budget first outcome part
      → IsSolved case setting how (rack_allowed case region chosen) (λ a. rack_cost case a chosen) wanted budget first outcome part
  rack-solved first outcome part h =
      solved-other (phase_allowed case setting) (rack_allowed case region chosen) (phase_cost case setting) (λ a. rack_cost case a chosen)
      (λ a is. rack-phase_allowed case region chosen allowed a (and-left (region_allowed case a) _ is) ∙ is)
      (λ a. sym (rack-phase_cost case region chosen are a)) case setting how wanted budget first outcome part h

  -- the same over the classes of this grouping
  pub by-classes : (classes : List Class) (r : Result (Answer × Part) SizeFault) → classes ≡ phase_classes case setting how
      → IfOk r (λ x. (h : Grouping) → classes ≡ phase_classes case setting h → IsSolved case setting h (phase_allowed case setting) (phase_cost case setting) wanted budget (Some region) x.0 x.1)
      → IfOk r (λ x. IsSolved case setting how (phase_allowed case setting) (phase_cost case setting) wanted budget (Some region) x.0 x.1)
  by-classes classes r grouped h = solved-by case setting how (phase_allowed case setting) (phase_cost case setting) wanted budget (Some region) classes r grouped h

  pub rack-result : (r : Result (Answer × Part) SizeFault)
      → IfOk r (λ x. IsSolved case setting how (phase_allowed case setting) (phase_cost case setting) wanted budget (Some region) x.0 x.1)
      → IfOk r (λ x. IsSolved case setting how (rack_allowed case region chosen) (λ a. rack_cost case a chosen) wanted budget (Some region) x.0 x.1)
  rack-result (Ok x) h = rack-solved (Some region) x.0 x.1 h
  rack-result (Err e) h = tt

there-is : (plan : Option Planned) (P : Planned → Type 0) → IsSomeAnd plan P → HasPlan plan
there-is None P h = h
there-is (Some plan) P h = tt

not-infeasible : (outcome : Answer) (plan : Option Planned) (lower : Option ℕ) (P : Planned → Type 0) → GoesWith outcome plan lower None → IsSomeAnd plan P → outcome ≡ answer.Infeasible → ⊥
not-infeasible outcome None lower P members h e = h
not-infeasible outcome (Some plan) lower P members h e = subst (λ (a : Answer). GoesWith a (Some plan) lower None) e members

pub has-plan : (case : Case) (setting : Setting) (how : Grouping) (allows : Assignment → Bool) (cost : Assignment → ℕ) (wanted budget : ℕ) (a : Assignment) (r : Result (Answer × Part) SizeFault)
    → IfOk r (λ x. IsSolved case setting how allows cost wanted budget (Some a) x.0 x.1) → IfOk r (λ x. HasPlan x.1.plan)
has-plan case setting how allows cost wanted budget a (Ok x) h = there-is x.1.plan (λ plan. plan.value ≤ cost a) h.no_worse
has-plan case setting how allows cost wanted budget a (Err e) h = tt

pub not-closed : (case : Case) (setting : Setting) (how : Grouping) (allows : Assignment → Bool) (cost : Assignment → ℕ) (wanted budget : ℕ) (a : Assignment) (r : Result (Answer × Part) SizeFault)
    → IfOk r (λ x. IsSolved case setting how allows cost wanted budget (Some a) x.0 x.1) → IfOk r (λ x. x.0 ≡ answer.Infeasible → ⊥)
not-closed case setting how allows cost wanted budget a (Ok x) h = not-infeasible x.0 x.1.plan x.1.lower (λ plan. plan.value ≤ cost a) h.members h.no_worse
not-closed case setting how allows cost wanted budget a (Err e) h = tt
