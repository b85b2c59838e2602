-- No reason holds for an accepted document.
use Rattle.std.proofs.Common.{◌≡◌, ℕ, ◌+◌, ◌*◌, ◌<◌, ◌≤◌, refl, sym, ap, ◌∙◌, subst, arith, Bool, true, false, not, ◌&&◌, ◌==◌, List, [], ◌∷◌, length, map, cond, nat_le, nat_lt, Option, Some, None, zip, is_some}
use Rattle.std.specs.Prelude.{IfSome, position, option_map}
use Rattle.std.specs.List.{list_all}
use Rattle.std.specs.Option.{option_or, is_none}
use Rattle.std.proofs.lemmas.Bool.{and_parts, and_from, eq-eqb}
use Rattle.ras_requests.specs.declared.requests.Protection.{Protection}
use Rattle.ras_requests.specs.declared.requests.Protection.TheVariants as protection
use Rattle.plan_model.specs.declared.cases.Want.{Want}
use Rattle.plan_model.specs.declared.cases.Case.{Case}
use Rattle.plan_model.specs.declared.cases.Assignment.{Assignment}
use Rattle.plan_model.specs.declared.cases.Grouping.{Grouping}
use Rattle.plan_model.specs.Units.{servers_with_places, all_reservations}
use Rattle.plan_model.specs.Allowed.{serves, keeps_need, region_allowed}
use Rattle.plan_model.specs.Costs.{region_cost, rack_cost}
use Rattle.plan_model.specs.Rack.{rack_allowed, keeps_to_chosen}
use Rattle.ip_model.specs.declared.program.Program.{Program}
use Rattle.bound_certificate.specs.declared.tree.Node.{Node}
use Rattle.bound_certificate.specs.declared.tree.Node.TheVariants.{Split, Bound, Refute}
use Rattle.ip_model.specs.declared.point.Point.{Point}
use Rattle.ip_model.specs.declared.parts.Bounds.{Bounds}
use Rattle.bound_certificate.specs.declared.tree.Least.{Least}
use Rattle.bound_certificate.specs.declared.tree.Least.TheVariants.{At}
use Rattle.bound_certificate.specs.Trees.{fault_of_tree, bound_of_tree}
use Rattle.program_rows.specs.Settings.{Setting, region_setting, rack_setting, phase_classes}
use Rattle.program_rows.specs.Programs.{program_fits}
use Rattle.program_rows.specs.Accepted.{phase_program}
use Rattle.plan_document.specs.declared.part.Planned.{Planned}
use Rattle.plan_document.specs.declared.part.Part.{Part}
use Rattle.plan_document.specs.declared.part.RackPart.{RackPart}
use Rattle.plan_document.specs.declared.document.Answer.{Answer}
use Rattle.plan_document.specs.declared.document.Answer.TheVariants as answer
use Rattle.plan_document.specs.declared.document.Document.{Document}
use Rattle.plan_checker.specs.declared.verdict.PhaseName.{PhaseName}
use Rattle.plan_checker.specs.declared.verdict.PhaseName.TheVariants as phase
use Rattle.plan_checker.specs.declared.verdict.Reason.{Reason}
use Rattle.plan_checker.specs.declared.verdict.Reason.TheVariants as reason
use Rattle.plan_checker.specs.Reasons.{reason_if, same_protection, first_other, plan_reason, is_closed, open_reason, other_bound, lower_reason, gap_goes, gap_reason, program_reason, certificate_reason, region_plan_reason, region_reason, right_chosen, stated_chosen, chosen_reason, chosen_first, rack_plan_reason, later_reason}
use Rattle.plan_checker.specs.Shape.{HasBound, GoesWith, RackInRange, HasShape, HasPlan}
use Rattle.plan_checker.specs.Reasons.{point_reason, spent_reason, limit_reason, first_difference, first_open, first_need}
use Rattle.plan_checker.specs.Laws.{AcceptedHasNoReason}
use Rattle.plan_checker.specs.Accepted.{IsRightPlan, IsRightRack, gap_of, SpentBudget, IsAccepted}
use Rattle.program_rows.specs.Accepted.{IsRightTree, IsSpent}
use Rattle.bound_certificate.specs.Shown.{Shows, IsShown, AreShown, node_shows, point_shows, first_unshown}
use Rattle.bound_certificate.proofs.ShownPoints.{lies_in-from}
use Rattle.plan_model.specs.Allowed.{first_not_served, first_loss}
use Rattle.plan_model.proofs.AllowedLaws.{list_all-position, keeps-no_loss}
use Rattle.ip_model.specs.Points.{numerator, value_up_of}

-- ---- what makes a reason not hold

no_reason : (a b : Option Reason) → a ≡ None → b ≡ None → option_or a b ≡ None
no_reason a b p q = ap (λ o. option_or o b) p ∙ q

not_if : (b : Bool) (why : Reason) → b ≡ true → reason_if (not b) why ≡ None
not_if b why h = ap (λ t. reason_if (not t) why) h

mapped : {X : Type 0} (f : X → Reason) (o : Option X) → o ≡ None → option_map f o ≡ None
mapped f o h = ap (option_map f) h

is_nothing : {X : Type 0} (o : Option X) → true ≡ not (is_some o) → o ≡ None
is_nothing None h = refl
is_nothing (Some x) h = cc

none_fails : {X : Type 0} (test : X → Bool) (xs : List X) → list_all test xs ≡ true → position (λ x. not (test x)) xs ≡ None
none_fails test xs h = is_nothing (position (λ x. not (test x)) xs) (sym h ∙ list_all-position test xs)

needs_kept : (part : PhaseName) (case : Case) (a : Assignment) (rs : List ℕ) → list_all (keeps_need case a) rs ≡ true → first_need part case a rs ≡ None
needs_kept part case a [] h = refl
needs_kept part case a (r ∷ rs) h =
    let both = and_parts _ _ h in
    no_reason _ _ (mapped _ (first_loss case a r) (is_nothing (first_loss case a r) (sym both.0 ∙ keeps-no_loss case a r))) (needs_kept part case a rs both.1)

no_difference-same : (xs : List ℕ) → first_difference xs xs ≡ None
no_difference-same [] = refl
no_difference-same (x ∷ xs) = rw (eq-eqb x x refl, no_difference-same xs) refl

-- ---- protections

same-self : (p : Protection) → same_protection p p ≡ true
same-self protection.Total = refl
same-self protection.Board = refl
same-self protection.Center = refl

no_other-of : (r : ℕ) (wants : List Want) → first_other r (map (λ (w : Want). w.protection) wants) wants ≡ None
no_other-of r [] = refl
no_other-of r (w ∷ ws) = no_reason _ _ (not_if (same_protection w.protection w.protection) (reason.Protection r) (same-self w.protection)) (no_other-of (r + 1) ws)

no_other : (r : ℕ) (ps : List Protection) (wants : List Want) → ps ≡ map (λ (w : Want). w.protection) wants → first_other r ps wants ≡ None
no_other r ps wants same = ap (λ (qs : List Protection). first_other r qs wants) same ∙ no_other-of r wants

-- ---- plans

plan_right : (part : PhaseName) (case : Case) (cost : Assignment → ℕ) (plan : Planned) → region_allowed case plan.of ≡ true → plan.value ≡ cost plan.of → plan_reason part case cost plan ≡ None
plan_right part case cost plan allowed value =
    let both = and_parts _ _ allowed in
    let first = and_parts _ _ both.0 in
    no_reason _ _
    (no_reason _ _ (mapped _ (first_not_served case plan.of) (none_fails (serves case) (servers_with_places case plan.of) first.1)) (needs_kept part case plan.of (all_reservations case) both.1))
    (not_if (plan.value == cost plan.of) (reason.Value part plan.value (cost plan.of)) (eq-eqb plan.value (cost plan.of) value))

region_plans : (case : Case) (lower : Option ℕ) (plan : Option Planned) → IfSome plan (IsRightPlan (region_allowed case) (region_cost case) lower) → region_plan_reason case plan ≡ None
region_plans case lower None right = refl
region_plans case lower (Some plan) right = plan_right phase.Region case (region_cost case) plan right.allowed right.value

rack_plans : (case : Case) (region : Assignment) (chosen : List ℕ) (lower : Option ℕ) (plan : Option Planned)
    → IfSome plan (IsRightPlan (rack_allowed case region chosen) (λ a. rack_cost case a chosen) lower) → rack_plan_reason case region chosen plan ≡ None
rack_plans case region chosen lower None right = refl
rack_plans case region chosen lower (Some plan) right =
    let both = and_parts _ _ right.allowed in
    no_reason _ _
    (mapped _ _ (none_fails (keeps_to_chosen case chosen) (zip (servers_with_places case region) plan.of.of) both.1))
    (plan_right phase.Rack case (λ a. rack_cost case a chosen) plan both.0 right.value)

-- ---- certificates

bound_stated : (part : PhaseName) (found : Least) (lower : Option ℕ) → IfSome lower (λ n. found ≡ At n) → lower_reason part lower found ≡ None
bound_stated part found None h = refl
bound_stated part found (Some n) h = ap (λ l. other_bound part n l) h ∙ not_if (n == n) (reason.Lower part n (Some n)) (eq-eqb n n refl)

certificate_right : (part : PhaseName) (case : Case) (setting : Setting) (document : Document) (last : Bool) (stated : Part) → IsRightTree case setting document.grouping stated.lower stated.tree.nodes
    → open_reason part document.answer stated.tree.nodes ≡ None → gap_reason part document.answer last document.gap stated.lower stated.plan ≡ None
    → certificate_reason part case setting document last stated ≡ None
certificate_right part case setting document last stated right closed gap =
    no_reason _ _ (not_if (program_fits case setting (phase_classes case setting document.grouping)) (reason.Size part) right.fits)
    (ap (λ o. program_reason part document last stated o) right.is_program
    ∙ no_reason _ _ (mapped _ (fault_of_tree right.program stated.tree.nodes) right.is_tree)
    (no_reason _ _ closed (no_reason _ _ (bound_stated part (bound_of_tree right.program stated.tree.nodes) stated.lower right.is_bound) gap)))

nat_le-from : (m n : ℕ) → m ≤ n → nat_le m n ≡ true
nat_le-from m n h = grind arith

nat_lt-from : (m n : ℕ) → m < n → nat_lt m n ≡ true
nat_lt-from m n h = grind arith

gap_right : (part : PhaseName) (a : Answer) (last : Bool) (wanted : ℕ) (allowed : Assignment → Bool) (cost : Assignment → ℕ) (lower : Option ℕ) (plan : Option Planned)
    → IfSome plan (IsRightPlan allowed cost lower) → IfSome plan (λ p. gap_goes a last wanted p.gap ≡ true) → gap_reason part a last wanted lower plan ≡ None
gap_right part a last wanted allowed cost lower None right goes = refl
gap_right part a last wanted allowed cost None (Some plan) right goes = refl
gap_right part a last wanted allowed cost (Some lower) (Some plan) right goes =
    not_if (plan.gap + lower == plan.value && gap_goes a last wanted plan.gap) (reason.Gap part plan.gap) (and_from _ _ (eq-eqb (plan.gap + lower) plan.value right.gap) goes)

-- ---- gaps

goes_plan : (last : Bool) (wanted : ℕ) (plan : Option Planned) → IfSome plan (λ p. p.gap ≤ wanted) → IfSome plan (λ p. gap_goes answer.Plan last wanted p.gap ≡ true)
goes_plan last wanted None h = tt
goes_plan last wanted (Some plan) h = nat_le-from plan.gap wanted h

goes_none : (last : Bool) (wanted : ℕ) (plan : Option Planned) → IfSome plan (λ p. gap_goes answer.Infeasible last wanted p.gap ≡ true)
goes_none last wanted None = tt
goes_none last wanted (Some plan) = refl

goes_early : (wanted : ℕ) (plan : Option Planned) → IfSome plan (λ p. gap_goes answer.Limit false wanted p.gap ≡ true)
goes_early wanted None = tt
goes_early wanted (Some plan) = refl

goes_last : (case : Case) (setting : Setting) (how : Grouping) (budget wanted : ℕ) (nodes : List Node) (lower : Option ℕ) (plan : Option Planned) → HasBound plan lower
    → IfSome lower (λ n. IsSpent case setting how budget wanted (gap_of plan) n nodes) → IfSome plan (λ p. gap_goes answer.Limit true wanted p.gap ≡ true)
goes_last case setting how budget wanted nodes lower None bound spent = tt
goes_last case setting how budget wanted nodes None (Some plan) bound spent = absurd bound
goes_last case setting how budget wanted nodes (Some lower) (Some plan) bound spent = nat_lt-from wanted plan.gap spent.wide

-- ---- shown points

shows_from : (program : Program) (box : Bounds) (column at lower : ℕ) (point : Point) → Shows program box column at lower point → point_shows program box column at lower point ≡ true
shows_from program box column at lower point is =
    and_from _ _ (lies_in-from program box point is.lies)
    (and_from _ _ (and_from _ _ (nat_lt-from (point.den * at) (numerator point column) is.above) (nat_lt-from (numerator point column) (point.den * (at + 1)) is.below))
    (nat_le-from (value_up_of program point) lower is.value))

shown_from : (program : Program) (lower : ℕ) (box : Bounds) (node : Node) → IsShown program lower box node → node_shows program lower box node ≡ true
shown_from program lower box (Split column at low high (Some point)) h = shows_from program box column at lower point h
shown_from program lower box (Split column at low high None) h = refl
shown_from program lower box (Bound y) h = refl
shown_from program lower box (Refute y) h = refl

all_shown : (program : Program) (lower : ℕ) (earlier nodes : List Node) → AreShown program lower earlier nodes → first_unshown program lower earlier nodes ≡ None
all_shown program lower earlier [] h = refl
all_shown program lower earlier (node ∷ nodes) h =
    ap (λ b. cond b (first_unshown program lower (node ∷ earlier) nodes) (Some (length earlier))) (shown_from program lower _ node h.0) ∙ all_shown program lower (node ∷ earlier) nodes h.1

spent_none : (part : PhaseName) (case : Case) (setting : Setting) (document : Document) (stated : Part) (lower : Option ℕ) → stated.lower ≡ lower
    → IfSome lower (λ n. IsSpent case setting document.grouping document.nodes document.gap (gap_of stated.plan) n stated.tree.nodes)
    → (lower ≡ None → ⊥) → spent_reason part case setting document stated ≡ None
spent_none part case setting document stated None e spent some = absurd (some refl)
spent_none part case setting document stated (Some lower) e spent some =
    let nodes = stated.tree.nodes in
    no_reason _ _
    (not_if (nat_le (length nodes) document.nodes && nat_lt document.nodes (length nodes + 2)) (reason.Budget part (length nodes))
    (and_from _ _ (nat_le-from (length nodes) document.nodes spent.within) (nat_lt-from document.nodes (length nodes + 2) spent.used)))
    (ap (λ o. point_reason part (phase_program case setting document.grouping) o nodes) e
    ∙ ap (λ o. point_reason part o (Some lower) nodes) spent.is_program
    ∙ mapped _ (first_unshown spent.program lower [] nodes) (all_shown spent.program lower [] nodes spent.shown))

-- ---- the document

some_bound : (a : Answer) (plan : Option Planned) (lower : Option ℕ) (rack : Option RackPart) → a ≡ answer.Limit → GoesWith a plan lower rack → HasBound plan lower → lower ≡ None → ⊥
some_bound answer.Plan plan lower rack is goes bound none = cc
some_bound answer.Infeasible plan lower rack is goes bound none = cc
some_bound answer.Limit (Some plan) None rack is goes bound none = bound
some_bound answer.Limit (Some plan) (Some n) rack is goes bound none = cc
some_bound answer.Limit None None rack is goes bound none = goes
some_bound answer.Limit None (Some n) rack is goes bound none = cc

has_bound : (plan : Option Planned) (lower : Option ℕ) → HasPlan plan → HasBound plan lower → lower ≡ None → ⊥
has_bound None lower has bound none = has
has_bound (Some plan) None has bound none = bound
has_bound (Some plan) (Some n) has bound none = cc

module _ (case : Case) (document : Document) (shape : HasShape case document) (is : IsAccepted case document) where
  region_goes : (a : Answer) → document.answer ≡ a → (rack : Option RackPart) → document.rack ≡ rack → IfSome document.region.plan (λ p. gap_goes a (is_none rack) document.gap p.gap ≡ true)
  region_goes answer.Plan e rack f = goes_plan (is_none rack) document.gap document.region.plan (is.gaps e).0
  region_goes answer.Infeasible e rack f = goes_none (is_none rack) document.gap document.region.plan
  region_goes answer.Limit e (Some rack) f = goes_early document.gap document.region.plan
  region_goes answer.Limit e None f =
      goes_last case (region_setting case) document.grouping document.nodes document.gap document.region.tree.nodes document.region.lower document.region.plan shape.region.bound
      (subst (λ o. SpentBudget case document o document.region.plan) f (is.spent e))

  region_closed : (a : Answer) → document.answer ≡ a → open_reason phase.Region a document.region.tree.nodes ≡ None
  region_closed answer.Plan e = refl
  region_closed answer.Infeasible e = mapped _ (first_open document.region.tree.nodes) (none_fails is_closed document.region.tree.nodes (is.refuted e))
  region_closed answer.Limit e = refl

  region_none : region_reason case document ≡ None
  region_none =
      no_reason _ _ (region_plans case document.region.lower document.region.plan is.region.plan)
      (certificate_right phase.Region case (region_setting case) document (is_none document.rack) document.region is.region.tree (region_closed document.answer refl)
      (gap_right phase.Region document.answer (is_none document.rack) document.gap (region_allowed case) (region_cost case) document.region.lower document.region.plan is.region.plan (region_goes document.answer refl document.rack refl)))

  chosen_same : (document.answer ≡ answer.Infeasible → ⊥) → chosen_reason case document ≡ None
  chosen_same other =
      mapped _ (first_difference (stated_chosen document) (right_chosen case document)) (ap (λ rs. first_difference rs (right_chosen case document)) (is.chosen other) ∙ no_difference-same (right_chosen case document))

  chosen_none : (a : Answer) → document.answer ≡ a → chosen_first case document a ≡ None
  chosen_none answer.Plan e = chosen_same (λ f. cc)
  chosen_none answer.Infeasible e = refl
  chosen_none answer.Limit e = chosen_same (λ f. cc)

  rack_goes : (rack : RackPart) (first : Planned) → document.rack ≡ Some rack → document.region.plan ≡ Some first → RackInRange case rack → (a : Answer) → document.answer ≡ a
      → IfSome rack.part.plan (λ p. gap_goes a true document.gap p.gap ≡ true)
  rack_goes rack first e f ranged answer.Plan is_plan =
      goes_plan true document.gap rack.part.plan (subst (λ o. IfSome o (λ r. IfSome r.part.plan (λ p. p.gap ≤ document.gap))) e (is.gaps is_plan).1)
  rack_goes rack first e f ranged answer.Infeasible is_none = goes_none true document.gap rack.part.plan
  rack_goes rack first e f ranged answer.Limit is_limit =
      goes_last case (rack_setting case first.of rack.chosen) document.grouping document.nodes document.gap rack.part.tree.nodes rack.part.lower rack.part.plan ranged.part.bound
      (subst (λ o. SpentBudget case document (Some rack) o) f (subst (λ o. SpentBudget case document o document.region.plan) e (is.spent is_limit)))

  rack_closed : (a : Answer) (nodes : List Node) → open_reason phase.Rack a nodes ≡ None
  rack_closed answer.Plan nodes = refl
  rack_closed answer.Infeasible nodes = refl
  rack_closed answer.Limit nodes = refl

  region_last_none : (a : Answer) → document.answer ≡ a → document.rack ≡ None → limit_reason a (spent_reason phase.Region case (region_setting case) document document.region) ≡ None
  region_last_none answer.Plan e f = refl
  region_last_none answer.Infeasible e f = refl
  region_last_none answer.Limit e f =
      spent_none phase.Region case (region_setting case) document document.region document.region.lower refl
      (subst (λ o. SpentBudget case document o document.region.plan) f (is.spent e))
      (λ none. some_bound document.answer document.region.plan document.region.lower document.rack e shape.members shape.region.bound none)

  rack_last_none : (rack : RackPart) (first : Planned) → document.rack ≡ Some rack → document.region.plan ≡ Some first → RackInRange case rack → (a : Answer) → document.answer ≡ a
      → limit_reason a (spent_reason phase.Rack case (rack_setting case first.of rack.chosen) document rack.part) ≡ None
  rack_last_none rack first e f ranged answer.Plan is_plan = refl
  rack_last_none rack first e f ranged answer.Infeasible is_none = refl
  rack_last_none rack first e f ranged answer.Limit is_limit =
      spent_none phase.Rack case (rack_setting case first.of rack.chosen) document rack.part rack.part.lower refl
      (subst (λ o. SpentBudget case document (Some rack) o) f (subst (λ o. SpentBudget case document o document.region.plan) e (is.spent is_limit)))
      (has_bound rack.part.plan rack.part.lower ranged.has_plan ranged.part.bound)

  later_none : (rack : Option RackPart) (first : Option Planned) → document.rack ≡ rack → document.region.plan ≡ first → later_reason case document rack first ≡ None
  later_none None first e f = region_last_none document.answer refl e
  later_none (Some rack) None e f = refl
  later_none (Some rack) (Some first) e f =
      let ranged : RackInRange case rack = subst (λ o. IfSome o (RackInRange case)) e shape.rack in
      let right : IsRightRack case document.grouping first.of rack =
      subst (λ o. IfSome o (IsRightRack case document.grouping first.of)) e (subst (λ o. IfSome o (λ g. IfSome document.rack (IsRightRack case document.grouping g.of))) f is.rack) in
      no_reason _ _
      (no_reason _ _ (rack_plans case first.of rack.chosen rack.part.lower rack.part.plan right.plan)
      (certificate_right phase.Rack case (rack_setting case first.of rack.chosen) document true rack.part right.tree (rack_closed document.answer rack.part.tree.nodes)
      (gap_right phase.Rack document.answer true document.gap (rack_allowed case first.of rack.chosen) (λ a. rack_cost case a rack.chosen) rack.part.lower rack.part.plan right.plan
      (rack_goes rack first e f ranged document.answer refl))))
      (rack_last_none rack first e f ranged document.answer refl)

pub accepted-no_reason : AcceptedHasNoReason
accepted-no_reason case document shape is =
    no_reason _ _ (no_other 0 document.protection case.wants is.protections)
    (no_reason _ _ (region_none case document shape is) (no_reason _ _ (chosen_none case document shape is document.answer refl) (later_none case document shape is document.rack document.region.plan refl refl)))
