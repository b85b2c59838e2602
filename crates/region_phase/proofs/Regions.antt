-- The phase of the region in its own words.
use Rattle.std.proofs.Common.{◌≡◌, ℕ, ◌+◌, Bor, List, sym, subst, ◌∙◌, arith, Some, None}
use Rattle.std.specs.Prelude.{Option, Result, Ok, Err, IfOk, IfSome, IsTrue, option_map}
use Rattle.std.specs.Option.{option_copied}
use Rattle.first_plans.specs.FirstPlan.{first_plan_of}
use Rattle.plan_model.specs.declared.cases.Case.{Case}
use Rattle.plan_model.specs.declared.cases.Assignment.{Assignment}
use Rattle.plan_model.specs.declared.cases.Grouping.{Grouping}
use Rattle.plan_model.specs.Allowed.{region_allowed}
use Rattle.plan_model.specs.Costs.{region_cost}
use Rattle.plan_model.proofs.CaseFacts.{and-left}
use Rattle.symmetry_classes.specs.declared.groups.Class.{Class}
use Rattle.program_rows.specs.Settings.{phase_classes, region_setting}
use Rattle.program_rows.specs.declared.fault.SizeFault.{SizeFault}
use Rattle.program_rows.specs.Phases.{phase_allowed, phase_cost}
use Rattle.plan_document.specs.declared.document.Answer.{Answer}
use Rattle.plan_document.specs.declared.part.Part.{Part}
use Rattle.class_expand.proofs.Phases.{region-phase_allowed}
use Rattle.plan_checker.specs.Solved.{IsSolved}
use Rattle.phase_search.proofs.Converted.{solved-other}

no-racks : (n : ℕ) → n + 0 ≡ n
no-racks n = omega arith

pub region-solved : (case : Case) (how : Grouping) (wanted budget : ℕ) (first : Option Assignment) (outcome : Answer) (part : Part)
    → IsSolved case (region_setting case) how (phase_allowed case (region_setting case)) (phase_cost case (region_setting case)) wanted budget first outcome part
    → IsSolved case (region_setting case) how (region_allowed case) (region_cost case) wanted budget first outcome part
region-solved case how wanted budget first outcome part h =
    solved-other (phase_allowed case (region_setting case)) (region_allowed case) (phase_cost case (region_setting case)) (region_cost case)
    (λ a allowed. and-left (region_allowed case a) _ allowed) (λ a. no-racks (region_cost case a)) case (region_setting case) how wanted budget first outcome part h

pub region-first : (case : Case) (first : Option Assignment) → IfSome first (λ a. IsTrue (region_allowed case a)) → IfSome first (λ a. IsTrue (phase_allowed case (region_setting case) a))
region-first case None h = tt
region-first case (Some a) h = region-phase_allowed case a h

lent : (case : Case) (o : Option (Bor Assignment)) → IfSome (option_copied o) (λ a. IsTrue (phase_allowed case (region_setting case) a))
    → IfSome o (λ a. IsTrue (phase_allowed case (region_setting case) a.now))
lent case None h = tt
lent case (Some a) h = h

pub first-allowed : (case : Case) (first : Option Assignment) (o : Option (Bor Assignment)) → option_copied o ≡ first → IfSome first (λ a. IsTrue (region_allowed case a))
    → IfSome o (λ a. IsTrue (phase_allowed case (region_setting case) a.now))
first-allowed case first o same h =
    lent case o (subst (λ (f : Option Assignment). IfSome f (λ a. IsTrue (phase_allowed case (region_setting case) a))) (sym same) (region-first case first h))

-- the first plan, lent to the search
pub first-is : (case : Case) (first : Option Assignment) (o : Option (Bor Assignment)) → option_copied o ≡ first → first ≡ first_plan_of case → option_map (λ a. a.now) o ≡ first_plan_of case
first-is case first o same is = same ∙ is

-- what the search answers, in the words of the region
pub region-result : (case : Case) (classes : List Class) (wanted budget : ℕ) (first second : Option Assignment) (r : Result (Answer × Part) SizeFault) → first ≡ second
    → IfOk r (λ x. (how : Grouping) → classes ≡ phase_classes case (region_setting case) how
    → IsSolved case (region_setting case) how (phase_allowed case (region_setting case)) (phase_cost case (region_setting case)) wanted budget first x.0 x.1)
    → IfOk r (λ x. (how : Grouping) → classes ≡ phase_classes case (region_setting case) how
    → IsSolved case (region_setting case) how (region_allowed case) (region_cost case) wanted budget second x.0 x.1)
region-result case classes wanted budget first second (Ok x) same h =
    λ how grouped.
    subst (λ (o : Option Assignment). IsSolved case (region_setting case) how (region_allowed case) (region_cost case) wanted budget o x.0 x.1) same
    (region-solved case how wanted budget first x.0 x.1 (h how grouped))
region-result case classes wanted budget first second (Err e) same h = tt
