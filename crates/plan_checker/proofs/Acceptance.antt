-- No reason holds exactly where the document is accepted.
use Rattle.std.proofs.Common.{◌≡◌, ℕ, ◌+◌, ◌*◌, ◌<◌, ◌≤◌, refl, sym, subst, arith, Bool, true, false, ◌&&◌, ◌==◌, List, [], ◌∷◌, length, cond, nat_le, nat_lt, Option, Some, None, zip}
use Rattle.std.specs.Prelude.{IfSome}
use Rattle.std.specs.Option.{option_map_or, option_or, is_none}
use Rattle.std.proofs.lemmas.Bool.{and_parts, and_from}
use Rattle.plan_model.specs.declared.cases.Case.{Case}
use Rattle.plan_model.specs.declared.cases.Assignment.{Assignment}
use Rattle.plan_model.specs.Units.{servers_with_places}
use Rattle.plan_model.specs.Allowed.{region_allowed}
use Rattle.plan_model.specs.Costs.{region_cost, rack_cost}
use Rattle.plan_model.specs.Rack.{rack_allowed, keeps_to_chosen}
use Rattle.ip_model.specs.declared.program.Program.{Program}
use Rattle.bound_certificate.specs.declared.tree.Node.{Node}
use Rattle.bound_certificate.specs.declared.tree.Node.TheVariants.{Split, Bound, Refute}
use Rattle.ip_model.specs.declared.point.Point.{Point}
use Rattle.ip_model.specs.declared.parts.Bounds.{Bounds}
use Rattle.bound_certificate.specs.declared.tree.Least.TheVariants.{At}
use Rattle.bound_certificate.specs.Trees.{bound_of_tree}
use Rattle.program_rows.specs.Settings.{Setting, region_setting, rack_setting}
use Rattle.program_rows.specs.Accepted.{phase_program}
use Rattle.class_expand.proofs.Phases.{region-is_phase, rack-is_phase}
use Rattle.plan_document.specs.declared.part.Planned.{Planned}
use Rattle.plan_document.specs.declared.part.Part.{Part}
use Rattle.plan_document.specs.declared.part.RackPart.{RackPart}
use Rattle.plan_document.specs.declared.document.Answer.{Answer}
use Rattle.plan_document.specs.declared.document.Answer.TheVariants as answer
use Rattle.plan_document.specs.declared.document.Document.{Document}
use Rattle.plan_checker.specs.declared.verdict.PhaseName.{PhaseName}
use Rattle.plan_checker.specs.declared.verdict.PhaseName.TheVariants as phase
use Rattle.plan_checker.specs.declared.verdict.Reason.TheVariants as reason
use Rattle.plan_checker.specs.Reasons.{protection_reason, is_closed, open_reason, lower_reason, gap_goes, gap_reason, region_plan_reason, region_reason, right_chosen, chosen_first, fixed_reason, rack_plan_reason, rack_part_reason, later_reason}
use Rattle.plan_checker.specs.Shape.{HasBound, PartInRange, GoesWith, RackInRange, HasShape}
use Rattle.plan_checker.specs.Reasons.{budget_reason, point_reason, spent_reason, limit_reason, rack_last_reason}
use Rattle.plan_checker.specs.Laws.{NoReasonIsAccepted}
use Rattle.plan_checker.specs.Accepted.{IsRightPlan, IsRightPart, IsRightRack, gap_of, GoesWithChosen, SpentBudget}
use Rattle.program_rows.specs.Accepted.{IsRightTree, IsSpent}
use Rattle.bound_certificate.specs.Shown.{Shows, IsShown, AreShown, node_shows, point_shows, first_unshown}
use Rattle.bound_certificate.proofs.ShownPoints.{lies_in-says}
use Rattle.ip_model.specs.Points.{numerator, value_up_of}
use Rattle.plan_checker.proofs.Steps.{or_none, if_not_none, map_none, all_pass, same_protections}
use Rattle.plan_checker.proofs.Promise.{PlanHolds, SoundCertificate, sound_certificate, bound_is, gap_is, region_holds, rack_holds, chosen_right}

-- ---- a part with nothing wrong is right

right_tree : (part : PhaseName) (case : Case) (setting : Setting) (document : Document) (last : Bool) (stated : Part) → SoundCertificate part case setting document last stated
    → IsRightTree case setting document.grouping stated.lower stated.tree.nodes
right_tree part case setting document last stated sound = record {
  fits = sound.small;
  program = sound.its.program;
  is_program = sound.its.is;
  is_tree = sound.tree;
  is_bound = bounded stated.lower sound.low;
}
  where
    bounded : (lower : Option ℕ) → lower_reason part lower (bound_of_tree sound.its.program stated.tree.nodes) ≡ None → IfSome lower (λ n. bound_of_tree sound.its.program stated.tree.nodes ≡ At n)
    bounded None h = tt
    bounded (Some n) h = bound_is part n (bound_of_tree sound.its.program stated.tree.nodes) h

right_plan : (part : PhaseName) (case : Case) (answer : Answer) (last : Bool) (wanted : ℕ) (allowed : Assignment → Bool) (cost : Assignment → ℕ) (lower : Option ℕ) (plan : Option Planned)
    → IfSome plan (PlanHolds case cost) → IfSome plan (λ p. allowed p.of ≡ true) → gap_reason part answer last wanted lower plan ≡ None → IfSome plan (IsRightPlan allowed cost lower)
right_plan part case answer last wanted allowed cost lower None holds good gap = tt
right_plan part case answer last wanted allowed cost None (Some plan) holds good gap = record { allowed = good; value = holds.value; gap = tt }
right_plan part case answer last wanted allowed cost (Some lower) (Some plan) holds good gap = record { allowed = good; value = holds.value; gap = gap_is part answer last wanted lower plan gap }

allowed_of : (case : Case) (plan : Option Planned) → IfSome plan (PlanHolds case (region_cost case)) → IfSome plan (λ p. region_allowed case p.of ≡ true)
allowed_of case None h = tt
allowed_of case (Some plan) h = h.allowed

rack_allowed_of : (case : Case) (region : Assignment) (chosen : List ℕ) (plan : Option Planned) → IfSome plan (PlanHolds case (λ b. rack_cost case b chosen)) → rack_plan_reason case region chosen plan ≡ None
    → IfSome plan (λ p. rack_allowed case region chosen p.of ≡ true)
rack_allowed_of case region chosen None holds h = tt
rack_allowed_of case region chosen (Some plan) holds h =
    and_from _ _ holds.allowed (all_pass (keeps_to_chosen case chosen) (zip (servers_with_places case region) plan.of.of) (map_none _ _ (or_none (fixed_reason case region chosen plan.of) _ h).0))

region_right : (case : Case) (document : Document) → PartInRange case document.region → region_reason case document ≡ None
    → IsRightPart case (region_setting case) document.grouping (region_allowed case) (region_cost case) document.region
region_right case document ranged h =
    let one = or_none (region_plan_reason case document.region.plan) _ h in
    let last = is_none document.rack in
    let sound = sound_certificate phase.Region case (region_setting case) document last document.region (region-is_phase case) one.1 in
    let holds = region_holds case document.region.plan ranged.plan one.0 in
    record {
      plan = right_plan phase.Region case document.answer last document.gap (region_allowed case) (region_cost case) document.region.lower document.region.plan holds (allowed_of case document.region.plan holds) sound.gap;
      tree = right_tree phase.Region case (region_setting case) document last document.region sound;
    }

rack_right : (case : Case) (document : Document) (rack : RackPart) (first : Planned) → region_allowed case first.of ≡ true → PartInRange case rack.part → rack_part_reason case document first.of rack ≡ None
    → IsRightRack case document.grouping first.of rack
rack_right case document rack first start ranged h =
    let one = or_none (rack_plan_reason case first.of rack.chosen rack.part.plan) _ h in
    let setting = rack_setting case first.of rack.chosen in
    let sound = sound_certificate phase.Rack case setting document true rack.part (rack-is_phase case first.of rack.chosen start) one.1 in
    let holds = rack_holds case first.of rack.chosen rack.part.plan ranged.plan one.0 in
    record {
      plan = right_plan phase.Rack case document.answer true document.gap (rack_allowed case first.of rack.chosen) (λ b. rack_cost case b rack.chosen) rack.part.lower rack.part.plan holds
          (rack_allowed_of case first.of rack.chosen rack.part.plan holds one.0) sound.gap;
      tree = right_tree phase.Rack case setting document true rack.part sound;
    }

-- ---- gaps

nat_le-true : (m n : ℕ) → nat_le m n ≡ true → m ≤ n
nat_le-true m n h = grind arith

nat_lt-true : (m n : ℕ) → nat_lt m n ≡ true → m < n
nat_lt-true m n h = grind arith

gap_within : (part : PhaseName) (last : Bool) (wanted : ℕ) (lower : Option ℕ) (plan : Option Planned) → HasBound plan lower → gap_reason part answer.Plan last wanted lower plan ≡ None → IfSome plan (λ p. p.gap ≤ wanted)
gap_within part last wanted lower None bound h = tt
gap_within part last wanted None (Some plan) bound h = absurd bound
gap_within part last wanted (Some lower) (Some plan) bound h =
    nat_le-true plan.gap wanted (and_parts _ _ (if_not_none (plan.gap + lower == plan.value && gap_goes answer.Plan last wanted plan.gap) (reason.Gap part plan.gap) h)).1

gap_wide : (part : PhaseName) (wanted : ℕ) (lower : Option ℕ) (plan : Option Planned) → HasBound plan lower → gap_reason part answer.Limit true wanted lower plan ≡ None → IfSome (gap_of plan) (λ g. wanted < g)
gap_wide part wanted lower None bound h = tt
gap_wide part wanted None (Some plan) bound h = absurd bound
gap_wide part wanted (Some lower) (Some plan) bound h =
    nat_lt-true wanted plan.gap (and_parts _ _ (if_not_none (plan.gap + lower == plan.value && gap_goes answer.Limit true wanted plan.gap) (reason.Gap part plan.gap) h)).1

-- ---- shown points

shows_of : (program : Program) (box : Bounds) (column at lower : ℕ) (point : Point) → point_shows program box column at lower point ≡ true → Shows program box column at lower point
shows_of program box column at lower point h =
    let one = and_parts _ _ h in
    let two = and_parts _ _ one.1 in
    let three = and_parts _ _ two.0 in
    record {
      lies = lies_in-says program box point one.0;
      above = nat_lt-true (point.den * at) (numerator point column) three.0;
      below = nat_lt-true (numerator point column) (point.den * (at + 1)) three.1;
      value = nat_le-true (value_up_of program point) lower two.1;
    }

shown_of : (program : Program) (lower : ℕ) (box : Bounds) (node : Node) → node_shows program lower box node ≡ true → IsShown program lower box node
shown_of program lower box (Split column at low high (Some point)) h = shows_of program box column at lower point h
shown_of program lower box (Split column at low high None) h = tt
shown_of program lower box (Bound y) h = tt
shown_of program lower box (Refute y) h = tt

by_node : (b : Bool) (later : Option ℕ) (i : ℕ) → cond b later (Some i) ≡ None → (b ≡ true) × (later ≡ None)
by_node true later i h = (refl, h)
by_node false later i h = cc

are_shown : (program : Program) (lower : ℕ) (earlier nodes : List Node) → first_unshown program lower earlier nodes ≡ None → AreShown program lower earlier nodes
are_shown program lower earlier [] h = tt
are_shown program lower earlier (node ∷ nodes) h =
    let parts = by_node _ _ _ h in
    (shown_of program lower _ node parts.0, are_shown program lower (node ∷ earlier) nodes parts.1)

points_shown : (part : PhaseName) (o : Option Program) (program : Program) (lower : ℕ) (nodes : List Node) → o ≡ Some program → point_reason part o (Some lower) nodes ≡ None → AreShown program lower [] nodes
points_shown part None program lower nodes e h = cc
points_shown part (Some found) program lower nodes e h =
    let same : found ≡ program = cc in
    subst (λ p. AreShown p lower [] nodes) same (are_shown found lower [] nodes (map_none _ (first_unshown found lower [] nodes) h))

spent_of : (part : PhaseName) (case : Case) (setting : Setting) (document : Document) (last : Part) → IsRightTree case setting document.grouping last.lower last.tree.nodes
    → IfSome (gap_of last.plan) (λ g. document.gap < g) → (lower : Option ℕ) → last.lower ≡ lower → spent_reason part case setting document last ≡ None
    → IfSome lower (λ lower. IsSpent case setting document.grouping document.nodes document.gap (gap_of last.plan) lower last.tree.nodes)
spent_of part case setting document last right wide None e h = tt
spent_of part case setting document last right wide (Some lower) e h =
    let one = or_none (budget_reason part document.nodes last.tree.nodes) _ h in
    let count = and_parts _ _ (if_not_none (nat_le (length last.tree.nodes) document.nodes && nat_lt document.nodes (length last.tree.nodes + 2)) (reason.Budget part (length last.tree.nodes)) one.0) in
    let points : point_reason part (phase_program case setting document.grouping) (Some lower) last.tree.nodes ≡ None = subst (λ o. point_reason part (phase_program case setting document.grouping) o last.tree.nodes ≡ None) e one.1 in
    record {
      within = nat_le-true (length last.tree.nodes) document.nodes count.0;
      used = nat_lt-true document.nodes (length last.tree.nodes + 2) count.1;
      wide = wide;
      program = right.program;
      is_program = right.is_program;
      shown = points_shown part (phase_program case setting document.grouping) right.program lower last.tree.nodes right.is_program points;
    }

-- ---- no reason: accepted

rack_sound : (case : Case) (document : Document) (rack : RackPart) (first : Planned) → region_allowed case first.of ≡ true → rack_part_reason case document first.of rack ≡ None
    → SoundCertificate phase.Rack case (rack_setting case first.of rack.chosen) document true rack.part
rack_sound case document rack first start h =
    sound_certificate phase.Rack case (rack_setting case first.of rack.chosen) document true rack.part (rack-is_phase case first.of rack.chosen start) (or_none (rack_plan_reason case first.of rack.chosen rack.part.plan) _ h).1

-- a document with a rack part, for which no reason holds
record WithRack (case : Case) (document : Document) (rack : RackPart) (first : Planned) : Type 0 where
  start : region_allowed case first.of ≡ true
  ranged : RackInRange case rack
  part : rack_part_reason case document first.of rack ≡ None
  last : rack_last_reason case document first.of rack ≡ None

with_rack : (case : Case) (document : Document) → HasShape case document → region_reason case document ≡ None → later_reason case document document.rack document.region.plan ≡ None
    → (rack : RackPart) (first : Planned) → document.rack ≡ Some rack → document.region.plan ≡ Some first → WithRack case document rack first
with_rack case document shape region later rack first e f =
    let plan = (or_none (region_plan_reason case document.region.plan) _ region).0 in
    let holds : PlanHolds case (region_cost case) first = subst (λ o. IfSome o (PlanHolds case (region_cost case))) f (region_holds case document.region.plan shape.region.plan plan) in
    let parts : option_or (rack_part_reason case document first.of rack) (rack_last_reason case document first.of rack) ≡ None =
    subst (λ o. later_reason case document o (Some first) ≡ None) e (subst (λ o. later_reason case document document.rack o ≡ None) f later) in
    let both = or_none (rack_part_reason case document first.of rack) _ parts in
    record { start = holds.allowed; ranged = subst (λ o. IfSome o (RackInRange case)) e shape.rack; part = both.0; last = both.1 }

-- a part that cannot be there is not
no_rack_alone : (a : Answer) (lower : Option ℕ) (rack : RackPart) → GoesWith a None lower (Some rack) → ⊥
no_rack_alone answer.Plan lower rack h = h
no_rack_alone answer.Infeasible None rack h = h
no_rack_alone answer.Infeasible (Some n) rack h = h
no_rack_alone answer.Limit None rack h = h
no_rack_alone answer.Limit (Some n) rack h = h

module _ (case : Case) (document : Document) (shape : HasShape case document) (region : region_reason case document ≡ None) (later : later_reason case document document.rack document.region.plan ≡ None) where
  racks_right : (rack : Option RackPart) (first : Option Planned) → document.rack ≡ rack → document.region.plan ≡ first → IfSome first (λ f. IfSome rack (IsRightRack case document.grouping f.of))
  racks_right rack None e f = tt
  racks_right None (Some first) e f = tt
  racks_right (Some rack) (Some first) e f =
      let its = with_rack case document shape region later rack first e f in
      rack_right case document rack first its.start its.ranged.part its.part

  rack_within : document.answer ≡ answer.Plan → (rack : Option RackPart) (first : Option Planned) → document.rack ≡ rack → document.region.plan ≡ first → IfSome rack (λ r. IfSome r.part.plan (λ p. p.gap ≤ document.gap))
  rack_within is None first e f = tt
  rack_within is (Some rack) None e f =
      absurd (no_rack_alone document.answer document.region.lower rack (subst (λ o. GoesWith document.answer None document.region.lower o) e (subst (λ o. GoesWith document.answer o document.region.lower document.rack) f shape.members)))
  rack_within is (Some rack) (Some first) e f =
      let its = with_rack case document shape region later rack first e f in
      let sound = rack_sound case document rack first its.start its.part in
      gap_within phase.Rack true document.gap rack.part.lower rack.part.plan its.ranged.part.bound (subst (λ a. gap_reason phase.Rack a true document.gap rack.part.lower rack.part.plan ≡ None) is sound.gap)

  region_sound : SoundCertificate phase.Region case (region_setting case) document (is_none document.rack) document.region
  region_sound = sound_certificate phase.Region case (region_setting case) document (is_none document.rack) document.region (region-is_phase case) (or_none (region_plan_reason case document.region.plan) _ region).1

  spent_right : document.answer ≡ answer.Limit → (rack : Option RackPart) (first : Option Planned) → document.rack ≡ rack → document.region.plan ≡ first → SpentBudget case document rack first
  spent_right is None first e f =
      let gap : gap_reason phase.Region answer.Limit true document.gap document.region.lower document.region.plan ≡ None =
      subst (λ a. gap_reason phase.Region a true document.gap document.region.lower document.region.plan ≡ None) is
      (subst (λ o. gap_reason phase.Region document.answer (is_none o) document.gap document.region.lower document.region.plan ≡ None) e region_sound.gap) in
      let last : spent_reason phase.Region case (region_setting case) document document.region ≡ None =
      subst (λ a. limit_reason a (spent_reason phase.Region case (region_setting case) document document.region) ≡ None) is
      (subst (λ o. later_reason case document o document.region.plan ≡ None) e later) in
      spent_of phase.Region case (region_setting case) document document.region (right_tree phase.Region case (region_setting case) document (is_none document.rack) document.region region_sound)
      (gap_wide phase.Region document.gap document.region.lower document.region.plan shape.region.bound gap) document.region.lower refl last
  spent_right is (Some rack) None e f = tt
  spent_right is (Some rack) (Some first) e f =
      let its = with_rack case document shape region later rack first e f in
      let sound = rack_sound case document rack first its.start its.part in
      let setting = rack_setting case first.of rack.chosen in
      let last : spent_reason phase.Rack case setting document rack.part ≡ None = subst (λ a. limit_reason a (spent_reason phase.Rack case setting document rack.part) ≡ None) is its.last in
      spent_of phase.Rack case setting document rack.part (right_tree phase.Rack case setting document true rack.part sound)
      (gap_wide phase.Rack document.gap rack.part.lower rack.part.plan its.ranged.part.bound (subst (λ a. gap_reason phase.Rack a true document.gap rack.part.lower rack.part.plan ≡ None) is sound.gap))
      rack.part.lower refl last

rack_with_chosen : (case : Case) (rack : Option RackPart) (right : List ℕ) → IfSome rack (RackInRange case) → option_map_or (λ r. r.chosen) rack [] ≡ right → GoesWithChosen rack right
rack_with_chosen case None right shape same = sym same
rack_with_chosen case (Some rack) right shape same = subst (λ (chosen : List ℕ). 0 < length chosen) same shape.some

pub no_reason-accepted : NoReasonIsAccepted
no_reason-accepted case document shape h =
    let parts = or_none (protection_reason case document) _ h in
    let one = or_none (region_reason case document) _ parts.1 in
    let two = or_none (chosen_first case document document.answer) _ one.1 in
    let sound = region_sound case document shape one.0 two.1 in
    record {
      protections = same_protections 0 document.protection case.wants shape.protections parts.0;
      region = region_right case document shape.region one.0;
      rack = racks_right case document shape one.0 two.1 document.rack document.region.plan refl refl;
      chosen = chosen_right case document document.answer two.0;
      rack_there = λ some. rack_with_chosen case document.rack (right_chosen case document) shape.rack (chosen_right case document document.answer two.0 some);
      gaps = λ is. (
        gap_within phase.Region (is_none document.rack) document.gap document.region.lower document.region.plan shape.region.bound
            (subst (λ a. gap_reason phase.Region a (is_none document.rack) document.gap document.region.lower document.region.plan ≡ None) is sound.gap),
        rack_within case document shape one.0 two.1 is document.rack document.region.plan refl refl,
      );
      refuted = λ is. all_pass is_closed document.region.tree.nodes (map_none _ _ (subst (λ a. open_reason phase.Region a document.region.tree.nodes ≡ None) is sound.closed));
      spent = λ is. spent_right case document shape one.0 two.1 is document.rack document.region.plan refl refl;
    }
