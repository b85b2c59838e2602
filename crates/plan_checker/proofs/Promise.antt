-- Where no reason holds, the document keeps its promises.
use Rattle.std.proofs.Common.{◌≡◌, ℕ, ◌+◌, ◌-◌, ◌<◌, ◌≤◌, refl, sym, ap, subst, arith, Bool, true, false, not, ◌&&◌, ◌==◌, List, [], ◌∷◌, length, nat_le, Option, Some, None}
use Rattle.std.specs.Prelude.{IfSome, position}
use Rattle.std.specs.List.{list_all}
use Rattle.std.specs.Option.{option_map_or, is_none}
use Rattle.std.proofs.lemmas.Slice.Zip.{get_or-zip, length-zip}
use Rattle.plan_model.proofs.SumLemmas.{length-fits}
use Rattle.plan_model.proofs.CaseFacts.{list_all-at}
use Rattle.plan_model.proofs.AllowedLaws.{list_all-range_at}
use Rattle.std.proofs.lemmas.Bool.{and_parts, and_from, eqb-true}
use Rattle.std.proofs.lemmas.List.Sums.{AllPass-from_list_all}
use Rattle.plan_model.specs.declared.cases.Case.{Case}
use Rattle.plan_model.specs.declared.cases.Assignment.{Assignment}
use Rattle.plan_model.specs.declared.cases.Grouping.{Grouping}
use Rattle.plan_model.specs.Units.{servers_with_places, no_place}
use Rattle.plan_model.specs.Allowed.{serves, survives, keeps_need, fits, region_allowed}
use Rattle.plan_model.specs.Losses.{losses}
use Rattle.plan_model.specs.Costs.{region_cost, rack_cost}
use Rattle.plan_model.specs.Rack.{rack_allowed}
use Rattle.plan_model.specs.Chosen.{AreChosen}
use Rattle.ip_model.specs.declared.program.Program.{Program}
use Rattle.ip_model.specs.Points.{IsWholePoint, value_of}
use Rattle.ip_model.proofs.RuleFacts.{rule_of, program_from-is}
use Rattle.bound_certificate.specs.declared.tree.Node.{Node}
use Rattle.bound_certificate.specs.declared.tree.Node.TheVariants.{Split, Bound, Refute}
use Rattle.bound_certificate.specs.declared.tree.Least.{Least}
use Rattle.bound_certificate.specs.declared.tree.Least.TheVariants.{At, AllRefuted}
use Rattle.bound_certificate.specs.Trees.{LiesUnder, fault_of_tree, bound_of_tree, least_bound}
use Rattle.bound_certificate.proofs.TreeBound.{bound_of_tree_under}
use Rattle.program_rows.specs.Settings.{Setting, region_setting, rack_setting, phase_classes}
use Rattle.program_rows.specs.Programs.{program_base, program_columns, program_lines, program_fits}
use Rattle.program_rows.specs.Phases.{IsPhase}
use Rattle.program_rows.specs.Accepted.{phase_program}
use Rattle.program_rows.proofs.BaseLimit.{program-kept}
use Rattle.program_rows.proofs.PhaseSums.{start-of}
use Rattle.class_expand.specs.Lifting.{IsProgramOf, counts_of}
use Rattle.class_expand.proofs.Phases.{region-is_phase, region-up, rack-is_phase, rack-up}
use Rattle.class_expand.proofs.Chosen.{chosen-there}
use Rattle.plan_document.specs.declared.part.Planned.{Planned}
use Rattle.plan_document.specs.declared.part.Part.{Part}
use Rattle.plan_document.specs.declared.part.RackPart.{RackPart}
use Rattle.plan_document.specs.declared.document.Answer.{Answer}
use Rattle.plan_document.specs.declared.document.Answer.TheVariants as answer
use Rattle.plan_document.specs.declared.document.Document.{Document}
use Rattle.plan_checker.specs.declared.verdict.PhaseName.{PhaseName}
use Rattle.plan_checker.specs.declared.verdict.PhaseName.TheVariants as phase
use Rattle.plan_checker.specs.declared.verdict.Reason.TheVariants as reason
use Rattle.plan_checker.specs.Reasons.{protection_reason, serves_reason, allowed_reason, plan_reason, size_reason, tree_reason, is_closed, open_reason, other_bound, lower_reason, gap_goes, gap_reason, program_reason, certificate_reason, region_plan_reason, region_reason, chosen_after, right_chosen, stated_chosen, chosen_first, fixed_reason, rack_plan_reason, rack_part_reason, later_reason, first_reason}
use Rattle.plan_checker.specs.Shape.{PlanInRange, HasBound, GoesWith, RackInRange, HasShape}
use Rattle.plan_checker.specs.Headline.{KeepsPromise, RackPromise, KeepsPromises}
use Rattle.plan_checker.proofs.Steps.{or_none, if_not_none, map_none, all_pass, all_serve, all_keep, no_difference}

-- ---- the plan of a part

pub record PlanHolds (case : Case) (cost : Assignment → ℕ) (plan : Planned) : Type 0 where
  pub allowed : region_allowed case plan.of ≡ true
  pub value : plan.value ≡ cost plan.of

pub plan_holds : (part : PhaseName) (case : Case) (cost : Assignment → ℕ) (plan : Planned) → fits case plan.of ≡ true → plan_reason part case cost plan ≡ None → PlanHolds case cost plan
plan_holds part case cost plan fitting h =
    let first = or_none (allowed_reason part case plan.of) _ h in
    let second = or_none (serves_reason part case plan.of) _ first.0 in
    record {
      allowed = and_from _ _ (and_from _ _ fitting (all_serve part case plan.of second.0)) (all_keep part case plan.of second.1);
      value = eqb-true plan.value (cost plan.of) (if_not_none (plan.value == cost plan.of) (reason.Value part plan.value (cost plan.of)) first.1);
    }

-- ---- the program of a part

pub record HasProgram (case : Case) (setting : Setting) (how : Grouping) : Type 0 where
  pub program : Program
  pub is : phase_program case setting how ≡ Some program
  pub of : IsProgramOf case setting how program

pub has_program : (case : Case) (setting : Setting) (how : Grouping) → IsPhase case setting → program_fits case setting (phase_classes case setting how) ≡ true → HasProgram case setting how
has_program case setting how phase small =
    let classes = phase_classes case setting how in
    let base = program_base case setting in
    let columns = program_columns case setting classes in
    let rows = program_lines case setting classes in
    let kept = rule_of base columns rows (program-kept case setting how (start-of case setting phase) small) in
    record {
      program = record { base = base; columns = columns; rows = rows; kept = kept };
      is = program_from-is base columns rows kept;
      of = record { base = refl; columns = refl; rows = refl };
    }

-- ---- the tree of a part

pub bound_is : (part : PhaseName) (stated : ℕ) (found : Least) → other_bound part stated found ≡ None → found ≡ At stated
bound_is part stated (At n) h = ap At (sym (eqb-true stated n (if_not_none (stated == n) (reason.Lower part stated (Some n)) h)))
bound_is part stated AllRefuted h = cc

-- ---- least within the gap

under_all : (program : Program) (nodes : List Node) (stated : ℕ) (point : List ℕ) → 0 < length nodes → fault_of_tree program nodes ≡ None → bound_of_tree program nodes ≡ At stated
    → IsWholePoint program point → stated ≤ value_of program point
under_all program nodes stated point some none bound whole =
    subst (λ l. LiesUnder l (value_of program point)) bound (bound_of_tree_under program nodes point some none whole)

pub gap_is : (part : PhaseName) (answer : Answer) (last : Bool) (wanted lower : ℕ) (plan : Planned) → gap_reason part answer last wanted (Some lower) (Some plan) ≡ None → plan.gap + lower ≡ plan.value
gap_is part answer last wanted lower plan h =
    let both = if_not_none (plan.gap + lower == plan.value && gap_goes answer last wanted plan.gap) (reason.Gap part plan.gap) h in
    eqb-true (plan.gap + lower) plan.value (and_parts _ _ both).0

by_allowed : (case : Case) (plan : Planned) (cost : Assignment → ℕ) (allowed : Assignment → Type 0) → region_allowed case plan.of ≡ true → plan.value ≡ cost plan.of
    → ((b : Assignment) → allowed b → plan.value - cost b ≤ plan.gap) → KeepsPromise case allowed cost plan
by_allowed case plan cost allowed is value least =
    let a = plan.of in
    let first = (and_parts _ _ is).0 in
    let fitting = (and_parts _ _ first).0 in
    let same = length-fits case a fitting in
    record {
      places = fitting;
      serves = λ s within.
          let second : s < length a.of = omega (arith, same, within) in
          let beside : s < length (servers_with_places case a) = omega (arith, length-zip case.places a.of, same, within) in
          subst (λ t. serves case t ≡ true) (get_or-zip case.places a.of s (no_place, None) within second) (list_all-at (serves case) (servers_with_places case a) s (no_place, None) beside (and_parts _ _ first).1);
      needs = λ r within. AllPass-from_list_all (survives case a r) (losses case r) (list_all-range_at (keeps_need case a) (length case.wants) r (and_parts _ _ is).1 within);
      value = value;
      least = least;
    }

difference : (value lower gap cost : ℕ) → gap + lower ≡ value → lower ≤ cost → value - cost ≤ gap
difference value lower gap cost h p = omega (arith, h, p)

-- no leaf bounds, so all are refuted
all_refuted : (program : Program) (earlier nodes : List Node) → list_all is_closed nodes ≡ true → least_bound program earlier nodes ≡ AllRefuted
all_refuted program earlier [] h = refl
all_refuted program earlier (Split column at low high shown ∷ nodes) h = all_refuted program (Split column at low high shown ∷ earlier) nodes h
all_refuted program earlier (Bound y ∷ nodes) h = cc
all_refuted program earlier (Refute y ∷ nodes) h = all_refuted program (Refute y ∷ earlier) nodes h

-- ---- the certificate of a part

-- what it says that none of its reasons holds
pub record SoundCertificate (part : PhaseName) (case : Case) (setting : Setting) (document : Document) (last : Bool) (stated : Part) : Type 0 where
  pub small : program_fits case setting (phase_classes case setting document.grouping) ≡ true
  pub its : HasProgram case setting document.grouping
  pub tree : fault_of_tree its.program stated.tree.nodes ≡ None
  pub closed : open_reason part document.answer stated.tree.nodes ≡ None
  pub low : lower_reason part stated.lower (bound_of_tree its.program stated.tree.nodes) ≡ None
  pub gap : gap_reason part document.answer last document.gap stated.lower stated.plan ≡ None

pub sound_certificate : (part : PhaseName) (case : Case) (setting : Setting) (document : Document) (last : Bool) (stated : Part) → IsPhase case setting
    → certificate_reason part case setting document last stated ≡ None → SoundCertificate part case setting document last stated
sound_certificate part case setting document last stated phase h =
    let one = or_none (size_reason part case setting document.grouping) _ h in
    let small = if_not_none (program_fits case setting (phase_classes case setting document.grouping)) (reason.Size part) one.0 in
    let its = has_program case setting document.grouping phase small in
    let none : program_reason part document last stated (Some its.program) ≡ None = subst (λ o. program_reason part document last stated o ≡ None) its.is one.1 in
    let two = or_none (tree_reason part its.program stated.tree.nodes) _ none in
    let three = or_none (open_reason part document.answer stated.tree.nodes) _ two.1 in
    let four = or_none (lower_reason part stated.lower (bound_of_tree its.program stated.tree.nodes)) _ three.1 in
    record { small = small; its = its; tree = map_none _ (fault_of_tree its.program stated.tree.nodes) two.0; closed = three.0; low = four.0; gap = four.1 }

-- what it shows of each assignment that the phase allows
module _ (part : PhaseName) (case : Case) (setting : Setting) (document : Document) (last : Bool) (stated : Part) (allowed : Assignment → Type 0) (cost : Assignment → ℕ)
    (up : (program : Program) (b : Assignment) → IsProgramOf case setting document.grouping program → allowed b
    → IsWholePoint program (counts_of case setting document.grouping b) × (value_of program (counts_of case setting document.grouping b) ≡ cost b))
    (sound : SoundCertificate part case setting document last stated) where
  under : (lower : ℕ) → lower_reason part (Some lower) (bound_of_tree sound.its.program stated.tree.nodes) ≡ None → (b : Assignment) → allowed b → lower ≤ cost b
  under lower low b is =
      let program = sound.its.program in
      let point = up program b sound.its.of is in
      let below = under_all program stated.tree.nodes lower (counts_of case setting document.grouping b) stated.tree.has_root sound.tree (bound_is part lower (bound_of_tree program stated.tree.nodes) low) point.0 in
      omega (arith, below, point.1)

  kept : (plan : Option Planned) (lower : Option ℕ) → HasBound plan lower → lower_reason part lower (bound_of_tree sound.its.program stated.tree.nodes) ≡ None
      → gap_reason part document.answer last document.gap lower plan ≡ None → IfSome plan (PlanHolds case cost) → IfSome plan (KeepsPromise case allowed cost)
  kept None lower bound low gap holds = tt
  kept (Some plan) None bound low gap holds = absurd bound
  kept (Some plan) (Some lower) bound low gap holds =
      by_allowed case plan cost allowed holds.allowed holds.value
      (λ b is. difference plan.value lower plan.gap (cost b) (gap_is part document.answer last document.gap lower plan gap) (under lower low b is))

  pub plan_kept : HasBound stated.plan stated.lower → IfSome stated.plan (PlanHolds case cost) → IfSome stated.plan (KeepsPromise case allowed cost)
  plan_kept bound holds = kept stated.plan stated.lower bound sound.low sound.gap holds

  -- a refuted tree leaves none
  pub none_allowed : position (λ node. not (is_closed node)) stated.tree.nodes ≡ None → (b : Assignment) → allowed b → ⊥
  none_allowed closed b is =
      let program = sound.its.program in
      let point = up program b sound.its.of is in
      let value = value_of program (counts_of case setting document.grouping b) in
      subst (λ l. LiesUnder l value) (all_refuted program [] stated.tree.nodes (all_pass is_closed stated.tree.nodes closed))
      (bound_of_tree_under program stated.tree.nodes (counts_of case setting document.grouping b) stated.tree.has_root sound.tree point.0)

-- ---- the plans

pub region_holds : (case : Case) (plan : Option Planned) → IfSome plan (PlanInRange case) → region_plan_reason case plan ≡ None → IfSome plan (PlanHolds case (region_cost case))
region_holds case None ranged h = tt
region_holds case (Some plan) ranged h = plan_holds phase.Region case (region_cost case) plan ranged.fitting h

pub rack_holds : (case : Case) (region : Assignment) (chosen : List ℕ) (plan : Option Planned) → IfSome plan (PlanInRange case) → rack_plan_reason case region chosen plan ≡ None
    → IfSome plan (PlanHolds case (λ b. rack_cost case b chosen))
rack_holds case region chosen None ranged h = tt
rack_holds case region chosen (Some plan) ranged h =
    plan_holds phase.Rack case (λ b. rack_cost case b chosen) plan ranged.fitting (or_none (fixed_reason case region chosen plan.of) _ h).1

-- ---- the document

pub chosen_right : (case : Case) (document : Document) (a : Answer) → chosen_first case document a ≡ None → (a ≡ answer.Infeasible → ⊥) → stated_chosen document ≡ right_chosen case document
chosen_right case document answer.Plan h other = no_difference (stated_chosen document) (right_chosen case document) (map_none _ _ h)
chosen_right case document answer.Infeasible h other = absurd (other refl)
chosen_right case document answer.Limit h other = no_difference (stated_chosen document) (right_chosen case document) (map_none _ _ h)

pub are_chosen : (case : Case) (racks wanted : ℕ) (first : Planned) → AreChosen case (chosen_after case racks wanted (Some first))
are_chosen case racks wanted first = by (nat_le first.gap wanted) refl
  where
    by : (b : Bool) → nat_le first.gap wanted ≡ b → AreChosen case (chosen_after case racks wanted (Some first))
    by true e = rw e (chosen-there case first.of racks)
    by false e = rw e (record { there = λ k d within. absurd (omega arith); once = λ r. omega arith })

rack_promise : (case : Case) (document : Document) (rack : RackPart) (first : Planned) → PlanInRange case first → region_plan_reason case (Some first) ≡ None
    → rack.chosen ≡ chosen_after case document.racks document.gap (Some first) → RackInRange case rack → rack_part_reason case document first.of rack ≡ None
    → IfSome rack.part.plan (RackPromise case first.of rack.chosen)
rack_promise case document rack first start region chosen ranged h =
    let holds = plan_holds phase.Region case (region_cost case) first start.fitting region in
    let are = subst (λ rs. AreChosen case rs) (sym chosen) (are_chosen case document.racks document.gap first) in
    let one = or_none (rack_plan_reason case first.of rack.chosen rack.part.plan) _ h in
    let setting = rack_setting case first.of rack.chosen in
    let sound = sound_certificate phase.Rack case setting document true rack.part (rack-is_phase case first.of rack.chosen holds.allowed) one.1 in
    plan_kept phase.Rack case setting document true rack.part (λ b. rack_allowed case first.of rack.chosen b ≡ true) (λ b. rack_cost case b rack.chosen)
    (λ program b of is. rack-up case first.of rack.chosen document.grouping program b holds.allowed are of is) sound ranged.part.bound (rack_holds case first.of rack.chosen rack.part.plan ranged.part.plan one.0)

-- the stated list of a document with a rack part names reservations of the case, each once
pub stated_right : (case : Case) (document : Document) → HasShape case document → chosen_first case document document.answer ≡ None → (rack : RackPart) (plan : Planned)
    → document.rack ≡ Some rack → document.region.plan ≡ Some plan → rack.chosen ≡ chosen_after case document.racks document.gap (Some plan)
stated_right case document shape chosen rack plan e f =
    let members : GoesWith document.answer (Some plan) document.region.lower (Some rack) =
    subst (λ o. GoesWith document.answer (Some plan) document.region.lower o) e (subst (λ o. GoesWith document.answer o document.region.lower document.rack) f shape.members) in
    let right = chosen_right case document document.answer chosen (λ i. subst (λ a. GoesWith a (Some plan) document.region.lower (Some rack)) i members) in
    subst (λ o. option_map_or (λ r. r.chosen) o [] ≡ chosen_after case document.racks document.gap (Some plan)) e
    (subst (λ o. stated_chosen document ≡ chosen_after case document.racks document.gap o) f right)

pub chosen_are : (case : Case) (document : Document) → HasShape case document → chosen_first case document document.answer ≡ None → (rack : RackPart) (plan : Planned)
    → document.rack ≡ Some rack → document.region.plan ≡ Some plan → AreChosen case rack.chosen
chosen_are case document shape chosen rack plan e f =
    subst (λ rs. AreChosen case rs) (sym (stated_right case document shape chosen rack plan e f)) (are_chosen case document.racks document.gap plan)

rack_part_kept : (case : Case) (document : Document) → HasShape case document → region_plan_reason case document.region.plan ≡ None → chosen_first case document document.answer ≡ None
    → (rack : Option RackPart) (first : Option Planned) → document.rack ≡ rack → document.region.plan ≡ first → later_reason case document rack first ≡ None
    → IfSome first (λ plan. IfSome rack (λ r. IfSome r.part.plan (RackPromise case plan.of r.chosen)))
rack_part_kept case document shape region chosen None None e f h = tt
rack_part_kept case document shape region chosen None (Some plan) e f h = tt
rack_part_kept case document shape region chosen (Some rack) None e f h = tt
rack_part_kept case document shape region chosen (Some rack) (Some plan) e f h =
    let start : PlanInRange case plan = subst (λ o. IfSome o (PlanInRange case)) f shape.region.plan in
    let first : region_plan_reason case (Some plan) ≡ None = subst (λ o. region_plan_reason case o ≡ None) f region in
    let ranged : RackInRange case rack = subst (λ o. IfSome o (RackInRange case)) e shape.rack in
    let stated = stated_right case document shape chosen rack plan e f in
    rack_promise case document rack plan start first stated ranged (or_none (rack_part_reason case document plan.of rack) _ h).0

pub promises : (case : Case) (document : Document) → HasShape case document → first_reason case document ≡ None → KeepsPromises case document
promises case document shape h =
    let parts = or_none (protection_reason case document) _ h in
    let one = or_none (region_reason case document) _ parts.1 in
    let two = or_none (chosen_first case document document.answer) _ one.1 in
    let region = or_none (region_plan_reason case document.region.plan) _ one.0 in
    let last = is_none document.rack in
    let sound = sound_certificate phase.Region case (region_setting case) document last document.region (region-is_phase case) region.1 in
    let up : (program : Program) (b : Assignment) → IsProgramOf case (region_setting case) document.grouping program → region_allowed case b ≡ true
    → IsWholePoint program (counts_of case (region_setting case) document.grouping b) × (value_of program (counts_of case (region_setting case) document.grouping b) ≡ region_cost case b) =
    λ program b of is. region-up case document.grouping program b of is in
    record {
      region = plan_kept phase.Region case (region_setting case) document last document.region (λ b. region_allowed case b ≡ true) (region_cost case) up sound
          shape.region.bound (region_holds case document.region.plan shape.region.plan region.0);
      rack = rack_part_kept case document shape region.0 two.0 document.rack document.region.plan refl refl two.1;
      infeasible = λ is b allowed.
          let closed : position (λ node. not (is_closed node)) document.region.tree.nodes ≡ None = map_none _ _ (subst (λ a. open_reason phase.Region a document.region.tree.nodes ≡ None) is sound.closed) in
          none_allowed phase.Region case (region_setting case) document last document.region (λ b. region_allowed case b ≡ true) (region_cost case) up sound closed b allowed;
    }
