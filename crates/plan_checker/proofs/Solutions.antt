-- The document of the two phases is a solution.
use Rattle.std.proofs.Common.{◌≡◌, ℕ, zero, suc, ◌<◌, ◌≤◌, refl, sym, ap, ◌∙◌, subst, arith, Bool, true, false, cond, List, [], length, take, nat_le, Option, Some, None, is_some}
use Rattle.std.specs.Prelude.{IfSome}
use Rattle.std.specs.Option.{IsSomeAnd}
use Rattle.std.proofs.lemmas.List.{length-take, length-map}
use Rattle.plan_model.specs.declared.cases.Want.{Want}
use Rattle.plan_model.specs.declared.cases.Case.{Case}
use Rattle.plan_model.specs.declared.cases.Assignment.{Assignment}
use Rattle.plan_model.specs.declared.cases.Grouping.TheVariants.{Class}
use Rattle.plan_model.specs.Allowed.{region_allowed}
use Rattle.plan_model.specs.Chosen.{AreChosen}
use Rattle.plan_model.specs.Costs.{region_cost, rack_cost}
use Rattle.plan_model.specs.Rack.{rack_allowed}
use Rattle.bound_certificate.specs.declared.tree.Node.{Node}
use Rattle.bound_certificate.specs.declared.tree.Tree.{Tree}
use Rattle.program_rows.specs.Accepted.{IsSpent}
use Rattle.program_rows.specs.Choice.{chosen_of, longest_prefix, rack_program_fits, ranking}
use Rattle.program_rows.specs.Settings.{Setting, region_setting, rack_setting}
use Rattle.class_expand.proofs.Chosen.{chosen-there}
use Rattle.plan_document.specs.declared.document.Answer.{Answer}
use Rattle.plan_document.specs.declared.document.Answer.TheVariants as answers
use Rattle.plan_document.specs.declared.document.Document.{Document}
use Rattle.plan_document.specs.declared.part.Form.{Form}
use Rattle.plan_document.specs.declared.part.Form.TheVariants as form
use Rattle.plan_document.specs.declared.part.Part.{Part}
use Rattle.plan_document.specs.declared.part.Planned.{Planned}
use Rattle.plan_document.specs.declared.part.RackPart.{RackPart}
use Rattle.plan_document.specs.Documents.{form_of, may_have_rack}
use Rattle.plan_document.specs.Writable.{CanBeWritten, HasForm}
use Rattle.plan_checker.specs.Accepted.{IsAccepted, IsRightRack, case_protections, gap_of}
use Rattle.plan_checker.specs.Reasons.{chosen_after}
use Rattle.plan_checker.specs.Shape.{GoesWith, HasPlan, HasShape}
use Rattle.plan_checker.proofs.Accepting.{accepted-no_reason}
use Rattle.plan_checker.proofs.Promise.{promises}
use Rattle.plan_checker.specs.Solved.{IsSolved}
use Rattle.first_plans.specs.FirstPlan.{first_plan_of}
use Rattle.plan_checker.specs.Racks.{IsRackOf, Follows}
use Rattle.plan_checker.specs.Solution.{HasFewNodes, HasLastCauses, IsNoWorse, IsSolution, IsTooFew, ShowsPointsLast, States}
use Rattle.plan_checker.proofs.SolvedParts.{limit_bound, solved_nodes, solved_points, part_writable, members_form, bound_with_plan, plan_after, none_before}

-- ---- the chosen reservations

prefix_few : (test : List ℕ → Bool) (rs : List ℕ) (n most : ℕ) → length rs ≤ most → length (longest_prefix test rs n) ≤ most
prefix_few test rs zero most h = omega arith
prefix_few test rs (suc n) most h =
    let whole = length-take (suc n) rs in
    let step : (b : Bool) → length (cond b (take (suc n) rs) (longest_prefix test rs n)) ≤ most =
    λ b. elim b as (λ v. length (cond v (take (suc n) rs) (longest_prefix test rs n)) ≤ most) [ true ↦ omega (arith, whole, h) | false ↦ prefix_few test rs n most h ] in
    step (test (take (suc n) rs))

chosen_few : (case : Case) (region : Assignment) (most : ℕ) → length (chosen_of case region most) ≤ most
chosen_few case region most =
    let few = length-take most (ranking case region) in
    let rs = take most (ranking case region) in
    prefix_few (rack_program_fits case region) rs (length rs) most (omega (arith, few))

-- ---- the protections

same_count : (case : Case) → length (case_protections case) ≡ length case.wants
same_count case = length-map case.wants (λ (w : Want). w.protection)

-- ---- the region part alone

nat_le-from : (m n : ℕ) → m ≤ n → nat_le m n ≡ true
nat_le-from m n h = grind arith

nat_le-not : (m n : ℕ) → n < m → nat_le m n ≡ false
nat_le-not m n h = grind arith

none_either : (b : Bool) (rs : List ℕ) → rs ≡ [] → [] ≡ cond b rs []
none_either true rs h = sym h
none_either false rs h = refl

-- the region part, which is solved
abbrev RegionSolved : Case → ℕ → ℕ → Answer → Part → Type 0
RegionSolved case gap nodes answer part =
    IsSolved case (region_setting case) Class (region_allowed case) (region_cost case) gap nodes (first_plan_of case) answer part

none_chosen : (case : Case) (gap racks : ℕ) (plan : Option Planned) → IfSome (gap_of plan) (λ g. gap < g) → [] ≡ chosen_after case racks gap plan
none_chosen case gap racks None wide = refl
none_chosen case gap racks (Some plan) wide = sym (ap (λ b. cond b (chosen_of case plan.of racks) []) (nat_le-not plan.gap gap wide))

wide_of : (case : Case) (setting : Setting) (budget wanted : ℕ) (gap lower : Option ℕ) (nodes : List Node) → IfSome lower (λ n. IsSpent case setting Class budget wanted gap n nodes) → (lower ≡ None → ⊥) → IfSome gap (λ g. wanted < g)
wide_of case setting budget wanted gap None nodes spent some = absurd (some refl)
wide_of case setting budget wanted gap (Some n) nodes spent some = spent.wide

-- none is chosen where the budget was spent
limit_chosen : (case : Case) (gap nodes racks : ℕ) (part : Part) → RegionSolved case gap nodes answers.Limit part → [] ≡ chosen_after case racks gap part.plan
limit_chosen case gap nodes racks part solved =
    none_chosen case gap racks part.plan
    (wide_of case (region_setting case) nodes gap (gap_of part.plan) part.lower part.tree.nodes (solved.spent refl) (limit_bound part.plan part.lower solved.members solved.range.bound))

no_rack_after : (case : Case) (plan : Option Planned) → IfSome plan (λ first. IfSome None (IsRightRack case Class first.of))
no_rack_after case None = tt
no_rack_after case (Some first) = tt

no_rack_worse : (case : Case) (plan : Option Planned) → IfSome plan (λ first. IfSome None (λ (rack : RackPart). IsSomeAnd rack.part.plan (λ plan. plan.value ≤ rack_cost case first.of rack.chosen)))
no_rack_worse case None = tt
no_rack_worse case (Some first) = tt

-- a document, where it has its shape and is accepted
assembled : (case : Case) (gap nodes racks : ℕ) (document : Document) → States gap nodes racks document → HasShape case document → IsAccepted case document → HasFewNodes nodes document → ShowsPointsLast document → IsNoWorse case document
    → (document.answer ≡ answers.Limit → document.region.plan ≡ None → first_plan_of case ≡ None) → (document.answer ≡ answers.Limit → IsTooFew case nodes document.region.plan document.rack)
    → (document.answer ≡ answers.Limit → HasLastCauses case document.region document.region.plan document.rack)
    → ((servers reservations : List (List ℕ)) → length servers ≡ length case.places → length reservations ≡ length case.wants → CanBeWritten servers reservations document) → IsSolution case gap nodes racks document
assembled case gap nodes racks document stated shape accepted few points no_worse no_first too_few causes writable =
    let no_reason = accepted-no_reason case document shape accepted in
    let kept = promises case document shape no_reason in
    record {
      stated = stated;
      shape = shape;
      accepted = accepted;
      no_reason = no_reason;
      promises = kept;
      few = few;
      points = points;
      no_worse = no_worse;
      none = kept.infeasible;
      no_first = no_first;
      too_few = too_few;
      causes = causes;
      writable = writable;
    }

module _ (case : Case) (gap nodes racks : ℕ) (small : gap ≤ 1000000000000) (some : 1 ≤ nodes) (few : nodes ≤ 20000) (most : racks ≤ 64) where
  alone : (answer : Answer) (part : Part) → RegionSolved case gap nodes answer part → ((answer ≡ answers.Infeasible → ⊥) → [] ≡ chosen_after case racks gap part.plan)
      → IsSolution case gap nodes racks (record { answer = answer; grouping = Class; gap = gap; nodes = nodes; racks = racks; region = part; rack = None; protection = case_protections case })
  alone answer part solved chosen =
      assembled case gap nodes racks _
      (record { gap = refl; nodes = refl; racks = refl; grouping = refl })
      (record { protections = same_count case; region = solved.range; rack = tt; members = solved.members })
      (record {
        protections = refl;
        region = solved.right;
        rack = no_rack_after case part.plan;
        chosen = chosen;
        rack_there = λ other. sym (chosen other);
        gaps = λ is. (solved.close is, tt);
        refuted = solved.refuted;
        spent = solved.spent;
      })
      (record { region = solved.within; rack = tt })
      (record {
        region = λ shows. (solved_points case (region_setting case) Class (region_allowed case) (region_cost case) gap nodes (first_plan_of case) part answer solved shows, refl);
        rack = tt;
      })
      (record { region = solved.no_worse; rack = no_rack_worse case part.plan })
      (λ is. none_before (λ a plan. plan.value ≤ region_cost case a) (first_plan_of case) part.plan solved.no_worse)
      solved.too_few
      solved.causes
      (λ servers reservations all each. record {
        gap_most = small;
        nodes_least = some;
        nodes_most = few;
        racks_most = most;
        protections = same_count case ∙ sym each;
        region = part_writable case servers reservations all each (form_of answer (is_some part.plan)) part (members_form answer part.plan part.lower solved.members solved.range.bound) solved.range
            (solved_nodes case (region_setting case) Class (region_allowed case) (region_cost case) gap nodes (first_plan_of case) part answer solved few);
        rack = tt;
        beside = λ is. absurd (cc);
      })

  -- ---- with a rack part

  module _ (first : Planned) (lower : Option ℕ) (tree : Tree) (solved : RegionSolved case gap nodes answers.Plan (record { plan = Some first; lower = lower; tree = tree })) (last : Answer) (rack : RackPart)
      (follows : IsRackOf case first.of gap nodes racks last rack) where
    has_plan : HasPlan rack.part.plan
    has_plan = plan_after (λ plan. plan.value ≤ rack_cost case first.of rack.chosen) rack.part.plan follows.solved.no_worse

    not_infeasible : (a : Answer) (plan : Option Planned) (lower : Option ℕ) → GoesWith a plan lower None → HasPlan plan → a ≡ answers.Infeasible → ⊥
    not_infeasible answers.Plan plan lower goes has is = cc
    not_infeasible answers.Infeasible None lower goes has is = has
    not_infeasible answers.Infeasible (Some plan) lower goes has is = goes
    not_infeasible answers.Limit plan lower goes has is = cc

    some_plan : last ≡ answers.Infeasible → ⊥
    some_plan = not_infeasible last rack.part.plan rack.part.lower follows.solved.members has_plan

    members : (a : Answer) → (a ≡ answers.Infeasible → ⊥) → GoesWith a (Some first) lower (Some rack)
    members answers.Plan other = tt
    members answers.Infeasible other = absurd (other refl)
    members answers.Limit other = tt

    form_is : (a : Answer) → (a ≡ answers.Infeasible → ⊥) → form_of a true ≡ form.Planned
    form_is answers.Plan other = refl
    form_is answers.Infeasible other = absurd (other refl)
    form_is answers.Limit other = refl

    are : AreChosen case rack.chosen
    are = subst (λ (rs : List ℕ). AreChosen case rs) (sym follows.chosen) (chosen-there case first.of racks)

    with_rack : IsSolution case gap nodes racks
        (record { answer = last; grouping = Class; gap = gap; nodes = nodes; racks = racks; region = record { plan = Some first; lower = lower; tree = tree }; rack = Some rack; protection = case_protections case })
    with_rack =
        let part : Part = record { plan = Some first; lower = lower; tree = tree } in
        let setting = rack_setting case first.of rack.chosen in
        let allowed = rack_allowed case first.of rack.chosen in
        let close : first.gap ≤ gap = solved.close refl in
        let right : rack.chosen ≡ chosen_after case racks gap (Some first) = follows.chosen ∙ sym (ap (λ b. cond b (chosen_of case first.of racks) []) (nat_le-from first.gap gap close)) in
        assembled case gap nodes racks _
        (record { gap = refl; nodes = refl; racks = refl; grouping = refl })
        (record { protections = same_count case; region = solved.range; rack = record { part = follows.solved.range; has_plan = has_plan; some = follows.some; chosen = are.there }; members = members last some_plan })
        (record {
          protections = refl;
          region = solved.right;
          rack = follows.solved.right;
          chosen = λ other. right;
          rack_there = λ other. omega (arith, follows.some, ap length right);
          gaps = λ is. (close, follows.solved.close is);
          refuted = λ is. absurd (some_plan is);
          spent = follows.solved.spent;
        })
        (record { region = solved.within; rack = follows.solved.within })
        (record {
          region = λ shows. let none = solved.points (λ is. cc) in absurd (cc);
          rack = solved_points case setting Class allowed (λ a. rack_cost case a rack.chosen) gap nodes (Some first.of) rack.part last follows.solved;
        })
        (record { region = solved.no_worse; rack = follows.solved.no_worse })
        (λ is none. absurd (cc))
        follows.solved.too_few
        follows.solved.causes
        (λ servers reservations all each. record {
          gap_most = small;
          nodes_least = some;
          nodes_most = few;
          racks_most = most;
          protections = same_count case ∙ sym each;
          region = part_writable case servers reservations all each (form_of last true) part
              (subst (λ (f : Form). HasForm f part.plan part.lower) (sym (form_is last some_plan)) (bound_with_plan part.plan part.lower tt solved.range.bound)) solved.range
              (solved_nodes case (region_setting case) Class (region_allowed case) (region_cost case) gap nodes (first_plan_of case) part answers.Plan solved few);
          rack = record {
            part = part_writable case servers reservations all each form.Planned rack.part (bound_with_plan rack.part.plan rack.part.lower has_plan follows.solved.range.bound) follows.solved.range
                (solved_nodes case setting Class allowed (λ a. rack_cost case a rack.chosen) gap nodes (Some first.of) rack.part last follows.solved few);
            chosen_least = follows.some;
            chosen_most = let same = ap length follows.chosen in let fewer = chosen_few case first.of racks in omega (arith, same, fewer, most);
            chosen_there = λ k d p. let inside = are.there k d p in omega (arith, inside, each);
          };
          beside = λ is. ap may_have_rack (form_is last some_plan);
        })

  -- a document without a rack part has the region's answer
  back : (answer last : Answer) (part : Part) (rack : Option RackPart) → rack ≡ None → last ≡ answer
      → IsSolution case gap nodes racks (record { answer = answer; grouping = Class; gap = gap; nodes = nodes; racks = racks; region = part; rack = None; protection = case_protections case })
      → IsSolution case gap nodes racks (record { answer = last; grouping = Class; gap = gap; nodes = nodes; racks = racks; region = part; rack = rack; protection = case_protections case })
  back answer last part rack none same is =
      subst (λ (o : Option RackPart). IsSolution case gap nodes racks (record { answer = last; grouping = Class; gap = gap; nodes = nodes; racks = racks; region = part; rack = o; protection = case_protections case })) (sym none)
      (subst (λ (a : Answer). IsSolution case gap nodes racks (record { answer = a; grouping = Class; gap = gap; nodes = nodes; racks = racks; region = part; rack = None; protection = case_protections case })) (sym same) is)

  pub solution : (answer : Answer) (plan : Option Planned) (lower : Option ℕ) (tree : Tree) (last : Answer) (rack : Option RackPart) → RegionSolved case gap nodes answer (record { plan = plan; lower = lower; tree = tree })
      → Follows case gap nodes racks answer plan last rack
      → IsSolution case gap nodes racks (record { answer = last; grouping = Class; gap = gap; nodes = nodes; racks = racks; region = record { plan = plan; lower = lower; tree = tree }; rack = rack; protection = case_protections case })
  solution answers.Plan (Some first) lower tree last (Some rack) solved follows = with_rack first lower tree solved last rack follows
  solution answers.Plan (Some first) lower tree last None solved follows =
      let part : Part = record { plan = Some first; lower = lower; tree = tree } in
      back answers.Plan last part None refl follows.1 (alone answers.Plan part solved (λ other. none_either (nat_le first.gap gap) (chosen_of case first.of racks) follows.0))
  solution answers.Plan None lower tree last rack solved follows = absurd (solved.members)
  solution answers.Infeasible plan lower tree last rack solved follows =
      let part : Part = record { plan = plan; lower = lower; tree = tree } in
      back answers.Infeasible last part rack follows.0 follows.1 (alone answers.Infeasible part solved (λ other. absurd (other refl)))
  solution answers.Limit plan lower tree last rack solved follows =
      let part : Part = record { plan = plan; lower = lower; tree = tree } in
      back answers.Limit last part rack follows.0 follows.1 (alone answers.Limit part solved (λ other. limit_chosen case gap nodes racks part solved))
