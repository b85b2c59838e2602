-- The reasons of a part, as its program is built and its tree walked.
use Rattle.std.proofs.Common.{◌≡◌, ℕ, ◌≤◌, ◌^◌, sym, ap, ◌∙◌, subst, Bool, true, false, not, Option, Some, None, is_some, Result, Ok, Err}
use Rattle.std.specs.Prelude.{IfSome, option_map}
use Rattle.std.specs.Option.{option_or}
use Rattle.plan_model.specs.declared.cases.Case.{Case}
use Rattle.plan_model.specs.Allowed.{region_allowed, fits}
use Rattle.plan_model.specs.Costs.{region_cost}
use Rattle.ip_model.specs.declared.program.Program.{Program}
use Rattle.bound_certificate.specs.declared.tree.Least.{Least}
use Rattle.bound_certificate.specs.declared.tree.LowerFault.{LowerFault}
use Rattle.bound_certificate.specs.declared.tree.LowerFault.TheVariants as fault
use Rattle.bound_certificate.specs.declared.tree.TreeWhy.{TreeWhy}
use Rattle.bound_certificate.specs.Trees.{IsLower, fault_of_tree, bound_of_tree}
use Rattle.program_rows.specs.Settings.{Setting, phase_classes}
use Rattle.program_rows.specs.Programs.{program_fits}
use Rattle.program_rows.specs.Accepted.{phase_program}
use Rattle.plan_document.specs.declared.part.Planned.{Planned}
use Rattle.plan_document.specs.declared.part.Part.{Part}
use Rattle.plan_document.specs.declared.document.Document.{Document}
use Rattle.plan_checker.specs.declared.verdict.PhaseName.{PhaseName}
use Rattle.plan_checker.specs.declared.verdict.PhaseName.TheVariants as phase
use Rattle.plan_checker.specs.declared.verdict.Reason.TheVariants as reason
use Rattle.plan_checker.specs.Reasons.{reason_if, size_reason, tree_reason, bound_reason, program_reason, certificate_reason, region_plan_reason, region_reason, HasSoundTree}
use Rattle.plan_checker.specs.Shape.{PlanInRange, PartInRange}
use Rattle.plan_checker.proofs.Steps.{or_none, map_none}
use Rattle.plan_checker.proofs.Promise.{plan_holds}

module _ (part : PhaseName) (case : Case) (setting : Setting) (document : Document) (last : Bool) (stated : Part) where
  pub too_large : (o : Option Program) → is_some o ≡ program_fits case setting (phase_classes case setting document.grouping) → o ≡ None
      → Some (reason.Size part) ≡ certificate_reason part case setting document last stated
  too_large o fits none =
      let small : program_fits case setting (phase_classes case setting document.grouping) ≡ false = sym fits ∙ ap is_some none in
      sym (ap (λ b. option_or (reason_if (not b) (reason.Size part)) (program_reason part document last stated (phase_program case setting document.grouping))) small)

  pub of_program : (o : Option Program) (program : Program) → is_some o ≡ program_fits case setting (phase_classes case setting document.grouping) → o ≡ phase_program case setting document.grouping
      → o ≡ Some program → certificate_reason part case setting document last stated ≡ program_reason part document last stated (Some program)
  of_program o program fits is some =
      let small : program_fits case setting (phase_classes case setting document.grouping) ≡ true = sym fits ∙ ap is_some some in
      ap (λ b. option_or (reason_if (not b) (reason.Size part)) (program_reason part document last stated (phase_program case setting document.grouping))) small
      ∙ ap (λ p. program_reason part document last stated p) (sym is ∙ some)

  pub of_fault : (program : Program) (r : Result Least LowerFault) (node : ℕ) (why : TreeWhy) → IsLower program stated.tree.nodes r → r ≡ Err (fault.Tree node why)
      → program_reason part document last stated (Some program) ≡ Some (reason.Tree part node why)
  of_fault program r node why is e =
      let found : fault_of_tree program stated.tree.nodes ≡ Some (node, why) = subst (IsLower program stated.tree.nodes) e is in
      ap (λ f. option_or (option_map (λ f. reason.Tree part f.0 f.1) f) (bound_reason part document last stated (bound_of_tree program stated.tree.nodes))) found

  pub of_bound : (program : Program) (r : Result Least LowerFault) (found : Least) → IsLower program stated.tree.nodes r → r ≡ Ok found
      → program_reason part document last stated (Some program) ≡ bound_reason part document last stated found
  of_bound program r found is e =
      let both : (fault_of_tree program stated.tree.nodes ≡ None) × (found ≡ bound_of_tree program stated.tree.nodes) = subst (IsLower program stated.tree.nodes) e is in
      ap (λ f. option_or (option_map (λ f. reason.Tree part f.0 f.1) f) (bound_reason part document last stated (bound_of_tree program stated.tree.nodes))) both.0
      ∙ ap (bound_reason part document last stated) (sym both.1)

  by_program : (o : Option Program) → program_reason part document last stated o ≡ None → HasSoundTree o stated.tree.nodes
  by_program None h = tt
  by_program (Some program) h = map_none _ (fault_of_tree program stated.tree.nodes) (or_none (tree_reason part program stated.tree.nodes) _ h).0

  -- a certificate with nothing wrong has a tree that breaks no rule
  pub sound_tree : certificate_reason part case setting document last stated ≡ None → HasSoundTree (phase_program case setting document.grouping) stated.tree.nodes
  sound_tree h = by_program (phase_program case setting document.grouping) (or_none (size_reason part case setting document.grouping) _ h).1

pub gap_range : (case : Case) (o : Option Planned) → IfSome o (PlanInRange case) → IfSome o (λ p. p.gap ≤ 2 ^ 62)
gap_range case None h = tt
gap_range case (Some plan) h = h.gap

allowed_by : (case : Case) (o : Option Planned) → IfSome o (PlanInRange case) → region_plan_reason case o ≡ None → IfSome o (λ plan. region_allowed case plan.of ≡ true)
allowed_by case None ranged h = tt
allowed_by case (Some plan) ranged h = (plan_holds phase.Region case (region_cost case) plan ranged.fitting h).allowed

-- the plan of a region part with nothing wrong is allowed
pub allowed_plan : (case : Case) (document : Document) → PartInRange case document.region → region_reason case document ≡ None → IfSome document.region.plan (λ plan. region_allowed case plan.of ≡ true)
allowed_plan case document ranged h = allowed_by case document.region.plan ranged.plan (or_none (region_plan_reason case document.region.plan) _ h).0
