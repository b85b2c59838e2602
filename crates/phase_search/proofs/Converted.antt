-- What is solved over one wording of allowed and cost is solved over another.
use Rattle.std.proofs.Common.{◌≡◌, ℕ, ◌≤◌, Bool, true, sym, subst, ◌∙◌, Some, None}
use Rattle.std.specs.Prelude.{Option, IfSome, Result, Ok, Err, IfOk, IfErr, List}
use Rattle.std.specs.Option.{IsSomeAnd}
use Rattle.plan_model.specs.declared.cases.Case.{Case}
use Rattle.plan_model.specs.declared.cases.Assignment.{Assignment}
use Rattle.plan_model.specs.declared.cases.Grouping.{Grouping}
use Rattle.symmetry_classes.specs.declared.groups.Class.{Class}
use Rattle.program_rows.specs.declared.fault.SizeFault.{SizeFault}
use Rattle.program_rows.specs.Settings.{Setting, phase_classes}
use Rattle.program_rows.specs.Sizes.{IsFault, size_fault_of}
use Rattle.plan_document.specs.declared.document.Answer.{Answer}
use Rattle.plan_document.specs.declared.part.Planned.{Planned}
use Rattle.plan_document.specs.declared.part.Part.{Part}
use Rattle.plan_checker.specs.Accepted.{IsRightPlan}
use Rattle.plan_checker.specs.Solved.{IsSolved}

module _ (allows other : Assignment → Bool) (cost another : Assignment → ℕ) (weaker : (a : Assignment) → allows a ≡ true → other a ≡ true) (same : (a : Assignment) → cost a ≡ another a) where
  plan-other : (lower : Option ℕ) (plan : Option Planned) → IfSome plan (IsRightPlan allows cost lower) → IfSome plan (IsRightPlan other another lower)
  plan-other lower None h = tt
  plan-other lower (Some plan) h = record { allowed = weaker plan.of h.allowed; value = h.value ∙ same plan.of; gap = h.gap }

  at_most-other : (a : Assignment) (plan : Option Planned) → IsSomeAnd plan (λ p. p.value ≤ cost a) → IsSomeAnd plan (λ p. p.value ≤ another a)
  at_most-other a plan h = subst (λ n. IsSomeAnd plan (λ p. p.value ≤ n)) (same a) h

  no_worse-other : (first : Option Assignment) (plan : Option Planned) → IfSome first (λ a. IsSomeAnd plan (λ p. p.value ≤ cost a)) → IfSome first (λ a. IsSomeAnd plan (λ p. p.value ≤ another a))
  no_worse-other None plan h = tt
  no_worse-other (Some a) plan h = at_most-other a plan h

  pub solved-other : (case : Case) (setting : Setting) (how : Grouping) (wanted budget : ℕ) (first : Option Assignment) (outcome : Answer) (part : Part)
      → IsSolved case setting how allows cost wanted budget first outcome part → IsSolved case setting how other another wanted budget first outcome part
  solved-other case setting how wanted budget first outcome part h = record {
    right = record { plan = plan-other part.lower part.plan h.right.plan; tree = h.right.tree };
    range = h.range;
    members = h.members;
    within = h.within;
    close = h.close;
    refuted = h.refuted;
    spent = h.spent;
    too_few = h.too_few;
    causes = h.causes;
    points = h.points;
    no_worse = no_worse-other first part.plan h.no_worse;
  }

-- what is solved by a part is solved by an equal one
pub solved-part : (case : Case) (setting : Setting) (how : Grouping) (allows : Assignment → Bool) (cost : Assignment → ℕ) (wanted budget : ℕ) (first : Option Assignment) (outcome : Answer)
    (part whole : Part) → part ≡ whole → IsSolved case setting how allows cost wanted budget first outcome whole → IsSolved case setting how allows cost wanted budget first outcome part
solved-part case setting how allows cost wanted budget first outcome part whole same h =
    subst (λ (p : Part). IsSolved case setting how allows cost wanted budget first outcome p) (sym same) h

-- what is solved over the classes of any grouping is solved over those of this one
pub solved-by : (case : Case) (setting : Setting) (how : Grouping) (allows : Assignment → Bool) (cost : Assignment → ℕ) (wanted budget : ℕ) (first : Option Assignment) (classes : List Class)
    (r : Result (Answer × Part) SizeFault) → classes ≡ phase_classes case setting how
    → IfOk r (λ x. (h : Grouping) → classes ≡ phase_classes case setting h → IsSolved case setting h allows cost wanted budget first x.0 x.1)
    → IfOk r (λ x. IsSolved case setting how allows cost wanted budget first x.0 x.1)
solved-by case setting how allows cost wanted budget first classes (Ok x) grouped h = h how grouped
solved-by case setting how allows cost wanted budget first classes (Err e) grouped h = tt

pub faults-by : (case : Case) (setting : Setting) (how : Grouping) (classes : List Class) (r : Result (Answer × Part) SizeFault) → classes ≡ phase_classes case setting how
    → IfErr r (IsFault (size_fault_of case setting classes)) → IfErr r (IsFault (size_fault_of case setting (phase_classes case setting how)))
faults-by case setting how classes r grouped h = subst (λ (cs : List Class). IfErr r (IsFault (size_fault_of case setting cs))) grouped h
