-- What the search found, and the part that is made of it.
use Rattle.std.proofs.Common.{◌≡◌, refl, ℕ, ◌<◌, ◌≤◌, true, List, map, subst, arith, Some, None}
use Rattle.std.specs.Prelude.{Option, IfSome}
use Rattle.plan_model.specs.declared.cases.Case.{Case}
use Rattle.plan_model.specs.declared.cases.Assignment.{Assignment}
use Rattle.plan_model.specs.declared.cases.Grouping.{Grouping}
use Rattle.ip_model.specs.declared.program.Program.{Program}
use Rattle.ip_model.specs.Points.{IsWholePoint, value_of}
use Rattle.symmetry_classes.specs.declared.groups.Class.{Class}
use Rattle.bound_certificate.specs.declared.tree.Tree.{Tree}
use Rattle.program_rows.specs.declared.phases.Phase.{Phase}
use Rattle.program_rows.specs.Settings.{Setting, setting_of, phase_classes}
use Rattle.program_rows.specs.Phases.{phase_allowed, phase_cost}
use Rattle.program_rows.specs.Programs.{program_fits}
use Rattle.plan_document.specs.declared.document.Answer.{Answer}
use Rattle.plan_document.specs.declared.document.Answer.TheVariants as answer
use Rattle.plan_document.specs.declared.part.Planned.{Planned}
use Rattle.plan_document.specs.declared.part.Part.{Part}
use Rattle.steady_plans.specs.Steady.{IsSteady}
use Rattle.branch_bound.specs.declared.found.Best.{Best}
use Rattle.branch_bound.specs.declared.found.Found.{Found}
use Rattle.branch_bound.specs.declared.found.Found.TheVariants.{Plan, Empty, Limit}
use Rattle.branch_bound.specs.Finding.{IsFound, IsNoWorse}
use Rattle.branch_bound.specs.Openings.{HasWithin, IsBestSince}
use Rattle.phase_search.specs.Phases.{IsPrepared, IsPlanOf, IsFirstPoint}
use Rattle.plan_checker.specs.Points.{without_point}
use Rattle.plan_checker.specs.Solved.{IsSolved}
use Rattle.phase_search.proofs.Known.{known-plan, known-none}
use Rattle.phase_search.proofs.Prepared.{bound-under, none-first, first-at_most, first-none}
use Rattle.phase_search.proofs.Answered.{plan-solved, none-solved, wide-solved, bare-solved}

-- what costs at most a value that is no worse than the first point's
at_most-of : (program : Program) (point : Option (List ℕ)) (v w : ℕ) → w ≤ v → IsNoWorse program point v → IfSome point (λ p. w ≤ value_of program p)
at_most-of program None v w less h = tt
at_most-of program (Some p) v w less h = omega (arith, less, h)

-- where nothing is known there was no first point
seen-none : (program : Program) (best : Option Best) (seen : Option (List ℕ)) → IsBestSince program seen best → best ≡ None → IfSome seen (λ p. ⊥)
seen-none program best None since none = tt
seen-none program best (Some p) since none = subst (λ (b : Option Best). HasWithin b (value_of program p)) none (since.no_worse p refl)

-- what is known is no worse than the first point
known-no_worse : (program : Program) (best : Option Best) (b : Best) (seen : Option (List ℕ)) → IsBestSince program seen best → best ≡ Some b → IsNoWorse program seen b.value
known-no_worse program best b None since some = tt
known-no_worse program best b (Some p) since some = subst (λ (o : Option Best). HasWithin o (value_of program p)) some (since.no_worse p refl)

module _ (case : Case) (phase : Phase) (how : Grouping) (classes : List Class) (program : Program) (prepared : IsPrepared case phase how classes program)
    (small : program_fits case (setting_of case phase) (phase_classes case (setting_of case phase) how) ≡ true) (wanted budget : ℕ) (first : Option Assignment)
    (point seen : Option (List ℕ)) (is_first : IsFirstPoint program (phase_cost case (setting_of case phase)) first point) (same : seen ≡ point)
    (found : Found) (is : IsFound program seen wanted budget found) where
  abbrev setting : Setting
  setting = setting_of case phase

  abbrev Solved : Answer → Part → Type 0
  Solved outcome part = IsSolved case setting how (phase_allowed case setting) (phase_cost case setting) wanted budget first outcome part

  no_worse : (v w : ℕ) → w ≤ v → IsNoWorse program seen v → IfSome first (λ a. w ≤ phase_cost case setting a)
  no_worse v w less h =
      first-at_most program (phase_cost case setting) first point (λ n. w ≤ n) is_first (at_most-of program point v w less (subst (λ (o : Option (List ℕ)). IsNoWorse program o v) same h))

  -- ---- a plan

  module _ (p : List ℕ) (value lower : ℕ) (tree : Tree) (e : found ≡ Plan p value lower tree) where
    plan-found : IsFound program seen wanted budget (Plan p value lower tree)
    plan-found = subst (λ (f : Found). IsFound program seen wanted budget f) e is

    pub plan-whole : IsWholePoint program p
    plan-whole = plan-found.1.whole

    pub plan-under : (a : Assignment) → phase_allowed case setting a ≡ true → lower ≤ phase_cost case setting a
    plan-under = bound-under case phase how classes program prepared tree.nodes lower tree.has_root plan-found.0.right plan-found.1.bound

    pub plan-ends : (plan : Planned) (after : Tree) → IsPlanOf case setting (value_of program p) lower plan → after.nodes ≡ map without_point tree.nodes
        → Solved answer.Plan (record { plan = Some plan; lower = Some lower; tree = after })
    plan-ends plan after planned hidden =
        plan-solved case phase how classes program prepared small wanted budget first tree.nodes plan lower (value_of program p) after plan-found.0 plan-found.1.bound planned
        (omega (arith, planned.gap, planned.no_more, plan-found.1.value_is, plan-found.1.near)) hidden
        (no_worse value plan.value (omega (arith, planned.no_more, plan-found.1.value_is)) plan-found.1.no_worse)

  -- ---- no whole point

  module _ (tree : Tree) (e : found ≡ Empty tree) where
    empty-found : IsFound program seen wanted budget (Empty tree)
    empty-found = subst (λ (f : Found). IsFound program seen wanted budget f) e is

    pub empty-ends : (after : Tree) → after.nodes ≡ map without_point tree.nodes → Solved answer.Infeasible (record { plan = None; lower = None; tree = after })
    empty-ends after hidden =
        none-solved case phase how classes program prepared small wanted budget first tree.nodes after empty-found.0 empty-found.1 hidden
        (none-first case phase how classes program prepared tree.nodes tree.has_root empty-found.0.right empty-found.1 (phase_cost case setting) first point is_first)

  -- ---- a spent budget

  module _ (best : Option Best) (lower : ℕ) (tree : Tree) (e : found ≡ Limit best lower tree) where
    limit-found : IsFound program seen wanted budget (Limit best lower tree)
    limit-found = subst (λ (f : Found). IsFound program seen wanted budget f) e is

    pub limit-under : (a : Assignment) → phase_allowed case setting a ≡ true → lower ≤ phase_cost case setting a
    limit-under = bound-under case phase how classes program prepared tree.nodes lower tree.has_root limit-found.0.right limit-found.1.bound

    pub bare-ends : best ≡ None → Solved answer.Limit (record { plan = None; lower = Some lower; tree = tree })
    bare-ends none =
        bare-solved case phase how classes program prepared small wanted budget first tree lower limit-found.0 limit-found.1.bound limit-found.1.no_room limit-found.1.shown limit-found.1.short
        (known-none program best tree.nodes none limit-found.1.decided)
        (first-none program (phase_cost case setting) first point is_first
        (subst (λ (o : Option (List ℕ)). IfSome o (λ p. ⊥)) same (seen-none program best seen limit-found.1.known none)))

    module _ (b : Best) (some : best ≡ Some b) where
      pub limit-whole : IsWholePoint program b.point
      limit-whole = (limit-found.1.known.right b some).whole

      within-best : (plan : Planned) → IsPlanOf case setting (value_of program b.point) lower plan → plan.value ≤ b.value
      within-best plan planned = omega (arith, planned.no_more, (limit-found.1.known.right b some).value_is)

      not-dearer : (plan : Planned) → IsPlanOf case setting (value_of program b.point) lower plan → IfSome first (λ a. plan.value ≤ phase_cost case setting a)
      not-dearer plan planned = no_worse b.value plan.value (within-best plan planned) (known-no_worse program best b seen limit-found.1.known some)

      -- the expansion closed the gap
      pub closed-ends : (plan : Planned) (after : Tree) → IsPlanOf case setting (value_of program b.point) lower plan → plan.gap ≤ wanted → after.nodes ≡ map without_point tree.nodes
          → Solved answer.Plan (record { plan = Some plan; lower = Some lower; tree = after })
      closed-ends plan after planned close hidden =
          plan-solved case phase how classes program prepared small wanted budget first tree.nodes plan lower (value_of program b.point) after limit-found.0 limit-found.1.bound planned
          close hidden (not-dearer plan planned)

      -- the gap is still wide
      pub wide-ends : (plan : Planned) → IsPlanOf case setting (value_of program b.point) lower plan → IsSteady case setting plan.of → wanted < plan.gap
          → Solved answer.Limit (record { plan = Some plan; lower = Some lower; tree = tree })
      wide-ends plan planned steady wide =
          wide-solved case phase how classes program prepared small wanted budget first tree plan lower (value_of program b.point) limit-found.0 limit-found.1.bound limit-found.1.no_room
          limit-found.1.shown limit-found.1.short (known-plan program best b plan tree.nodes some (within-best plan planned) limit-found.1.decided) planned steady wide (not-dearer plan planned)
