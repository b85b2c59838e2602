-- Each answer of a phase keeps what is asked of it.
use Rattle.std.proofs.Common.{◌≡◌, ℕ, ◌+◌, ◌*◌, ◌<◌, ◌≤◌, ◌^◌, true, List, [], length, map, ap, sym, subst, ◌∙◌, refl, arith, lit≤, Some, None}
use Rattle.std.specs.Prelude.{Option, IfSome}
use Rattle.std.specs.List.{list_all}
use Rattle.plan_model.specs.declared.cases.Case.{Case}
use Rattle.plan_model.specs.declared.cases.Assignment.{Assignment}
use Rattle.plan_model.specs.declared.cases.Grouping.{Grouping}
use Rattle.ip_model.specs.declared.program.Program.{Program}
use Rattle.ip_model.specs.Choices.{choices_of}
use Rattle.symmetry_classes.specs.declared.groups.Class.{Class}
use Rattle.bound_certificate.specs.declared.tree.Node.{Node}
use Rattle.bound_certificate.specs.declared.tree.Tree.{Tree}
use Rattle.bound_certificate.specs.declared.tree.Least.TheVariants.{At, AllRefuted}
use Rattle.bound_certificate.specs.Trees.{fault_of_tree, bound_of_tree}
use Rattle.bound_certificate.specs.Shown.{AreShown}
use Rattle.program_rows.specs.declared.phases.Phase.{Phase}
use Rattle.program_rows.specs.Settings.{Setting, setting_of, phase_classes}
use Rattle.program_rows.specs.Phases.{phase_allowed, phase_cost}
use Rattle.program_rows.specs.Programs.{program_columns, program_fits}
use Rattle.program_rows.specs.Accepted.{IsRightTree, IsSpent}
use Rattle.exact_simplex.specs.Reasons.{AreReasoned, AreKnown}
use Rattle.steady_plans.specs.Steady.{IsSteady}
use Rattle.plan_document.specs.declared.document.Answer.{Answer}
use Rattle.plan_document.specs.declared.document.Answer.TheVariants as answer
use Rattle.plan_document.specs.declared.part.Planned.{Planned}
use Rattle.plan_document.specs.declared.part.Part.{Part}
use Rattle.plan_checker.specs.Accepted.{IsRightPlan}
use Rattle.plan_checker.specs.Reasons.{is_closed}
use Rattle.plan_checker.specs.Shape.{PlanInRange}
use Rattle.branch_bound.specs.Finding.{IsTreeWithin}
use Rattle.plan_checker.specs.Causes.{HasCauses, HasPlanWithin}
use Rattle.phase_search.specs.Phases.{IsPrepared, IsPlanOf}
use Rattle.plan_checker.specs.Points.{without_point, shows_points}
use Rattle.plan_checker.specs.Solved.{IsSolved}
use Rattle.phase_search.proofs.PointsHidden.{hidden-length, hidden-fault_of_tree, hidden-bound_of_tree, hidden-closed, hidden-shows}
use Rattle.phase_search.proofs.Prepared.{program-is, columns-are, allowed-fits}
use Rattle.phase_search.proofs.Trees.{bound-small, all-closed}

in_range : (case : Case) (setting : Setting) (most lower : ℕ) (plan : Planned) → IsPlanOf case setting most lower plan → PlanInRange case plan
in_range case setting most lower plan is = record {
  fitting = allowed-fits case setting plan.of is.allowed;
  value = (let small : 141000000000000 ≤ 2 ^ 62 = lit≤ tt in omega (arith, is.small, small));
  gap = (let small : 141000000000000 ≤ 2 ^ 62 = lit≤ tt in omega (arith, is.small, is.gap, small));
}

module _ (case : Case) (phase : Phase) (how : Grouping) (classes : List Class) (program : Program) (prepared : IsPrepared case phase how classes program)
    (small : program_fits case (setting_of case phase) (phase_classes case (setting_of case phase) how) ≡ true) (wanted budget : ℕ) (first : Option Assignment) where
  abbrev setting : Setting
  setting = setting_of case phase

  abbrev Solved : Answer → Part → Type 0
  Solved outcome part = IsSolved case setting how (phase_allowed case setting) (phase_cost case setting) wanted budget first outcome part

  right-tree : (lower : Option ℕ) (nodes : List Node) → fault_of_tree program nodes ≡ None → IfSome lower (λ n. bound_of_tree program nodes ≡ At n) → IsRightTree case setting how lower nodes
  right-tree lower nodes sound bound = record {
    fits = small;
    program = program;
    is_program = program-is case phase how classes program prepared;
    is_tree = sound;
    is_bound = bound;
  }

  right-plan : (most lower : ℕ) (plan : Planned) → IsPlanOf case setting most lower plan → IsRightPlan (phase_allowed case setting) (phase_cost case setting) (Some lower) plan
  right-plan most lower plan is = record { allowed = is.allowed; value = is.value; gap = is.gap }

  -- a plan within the wanted gap
  pub plan-solved : (tree : List Node) (plan : Planned) (lower most : ℕ) (after : Tree) → IsTreeWithin program tree budget → bound_of_tree program tree ≡ At lower
      → IsPlanOf case setting most lower plan → plan.gap ≤ wanted → after.nodes ≡ map without_point tree → IfSome first (λ a. plan.value ≤ phase_cost case setting a)
      → Solved answer.Plan (record { plan = Some plan; lower = Some lower; tree = after })
  plan-solved tree plan lower most after tree-is bound is close hidden no_worse =
      let sound : fault_of_tree program after.nodes ≡ None = ap (fault_of_tree program) hidden ∙ hidden-fault_of_tree program tree ∙ tree-is.right in
      let same : bound_of_tree program after.nodes ≡ At lower = ap (bound_of_tree program) hidden ∙ hidden-bound_of_tree program tree ∙ bound in
      record {
        right = record { plan = right-plan most lower plan is; tree = right-tree (Some lower) after.nodes sound same };
        range = record { plan = in_range case setting most lower plan is; bound = tt; lower = bound-small program tree lower bound };
        members = tt;
        within = omega (arith, tree-is.few, ap length hidden, hidden-length tree);
        close = λ _. close;
        refuted = λ e. cc;
        spent = λ e. cc;
        too_few = λ e. cc;
        causes = λ e. cc;
        points = λ _. ap shows_points hidden ∙ hidden-shows tree;
        no_worse = no_worse;
      }

  -- no whole point
  pub none-solved : (tree : List Node) (after : Tree) → IsTreeWithin program tree budget → bound_of_tree program tree ≡ AllRefuted → after.nodes ≡ map without_point tree → first ≡ None
      → Solved answer.Infeasible (record { plan = None; lower = None; tree = after })
  none-solved tree after tree-is bound hidden no_first =
      let sound : fault_of_tree program after.nodes ≡ None = ap (fault_of_tree program) hidden ∙ hidden-fault_of_tree program tree ∙ tree-is.right in
      record {
        right = record { plan = tt; tree = right-tree None after.nodes sound tt };
        range = record { plan = tt; bound = tt; lower = tt };
        members = tt;
        within = omega (arith, tree-is.few, ap length hidden, hidden-length tree);
        close = λ e. cc;
        refuted = λ _. ap (list_all is_closed) hidden ∙ hidden-closed tree ∙ all-closed program tree bound;
        spent = λ e. cc;
        too_few = λ e. cc;
        causes = λ e. cc;
        points = λ _. ap shows_points hidden ∙ hidden-shows tree;
        no_worse = subst (λ (o : Option Assignment). IfSome o (λ a. ⊥)) (sym no_first) tt;
      }

  columns-choices : budget + 1 < 2 * choices_of program.columns → budget + 1 < 2 * choices_of (program_columns case setting (phase_classes case setting how))
  columns-choices h = omega (arith, h, ap choices_of (columns-are case phase how classes program prepared))

  spent-budget : (tree : List Node) (gap : Option ℕ) (lower : ℕ) → IsTreeWithin program tree budget → budget < length tree + 2 → AreShown program lower [] tree → IfSome gap (λ g. wanted < g)
      → IsSpent case setting how budget wanted gap lower tree
  spent-budget tree gap lower tree-is used shown wide = record {
    within = tree-is.few;
    used = used;
    wide = wide;
    program = program;
    is_program = program-is case phase how classes program prepared;
    shown = shown;
  }

  its-causes : (part : Part) → AreReasoned program [] part.tree.nodes → AreKnown program (HasPlanWithin part.plan) [] part.tree.nodes → IfSome part.plan (λ p. IsSteady case setting p.of)
      → HasCauses case setting how part
  its-causes part reasoned known steady = record {
    program = program;
    is_program = program-is case phase how classes program prepared;
    reasoned = reasoned;
    decided = known;
    steady = steady;
  }

  -- the budget is spent, and the gap is wide
  pub wide-solved : (after : Tree) (plan : Planned) (lower most : ℕ) → IsTreeWithin program after.nodes budget → bound_of_tree program after.nodes ≡ At lower
      → budget < length after.nodes + 2 → AreShown program lower [] after.nodes → budget + 1 < 2 * choices_of program.columns
      → AreKnown program (HasPlanWithin (Some plan)) [] after.nodes → IsPlanOf case setting most lower plan → IsSteady case setting plan.of → wanted < plan.gap
      → IfSome first (λ a. plan.value ≤ phase_cost case setting a) → Solved answer.Limit (record { plan = Some plan; lower = Some lower; tree = after })
  wide-solved after plan lower most tree-is bound used shown few known is steady wide no_worse = record {
    right = record { plan = right-plan most lower plan is; tree = right-tree (Some lower) after.nodes tree-is.right bound };
    range = record { plan = in_range case setting most lower plan is; bound = tt; lower = bound-small program after.nodes lower bound };
    members = tt;
    within = tree-is.few;
    close = λ e. cc;
    refuted = λ e. cc;
    spent = λ _. spent-budget after.nodes (Some plan.gap) lower tree-is used shown wide;
    too_few = λ _. columns-choices few;
    causes = λ _. its-causes (record { plan = Some plan; lower = Some lower; tree = after }) tree-is.reasoned known steady;
    points = λ other. absurd (other refl);
    no_worse = no_worse;
  }

  -- the budget is spent, and there is no plan
  pub bare-solved : (after : Tree) (lower : ℕ) → IsTreeWithin program after.nodes budget → bound_of_tree program after.nodes ≡ At lower
      → budget < length after.nodes + 2 → AreShown program lower [] after.nodes → budget + 1 < 2 * choices_of program.columns
      → AreKnown program (HasPlanWithin None) [] after.nodes → first ≡ None → Solved answer.Limit (record { plan = None; lower = Some lower; tree = after })
  bare-solved after lower tree-is bound used shown few known no_first = record {
    right = record { plan = tt; tree = right-tree (Some lower) after.nodes tree-is.right bound };
    range = record { plan = tt; bound = tt; lower = bound-small program after.nodes lower bound };
    members = tt;
    within = tree-is.few;
    close = λ e. cc;
    refuted = λ e. cc;
    spent = λ _. spent-budget after.nodes None lower tree-is used shown tt;
    too_few = λ _. columns-choices few;
    causes = λ _. its-causes (record { plan = None; lower = Some lower; tree = after }) tree-is.reasoned known tt;
    points = λ other. absurd (other refl);
    no_worse = subst (λ (o : Option Assignment). IfSome o (λ a. ⊥)) (sym no_first) tt;
  }
