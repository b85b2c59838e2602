-- The reasons why a document is not accepted, in their order, each with its first place.
use Rattle.std.specs.Prelude.{ℕ, ◌≡◌, ⊤, ◌+◌, ◌==◌, ◌&&◌, ◌||◌, not, nat_le, nat_lt, Bool, true, false, if◌then◌else◌, List, [], ◌∷◌, length, zip, position, Option, Some, None, option_map}
use Rattle.std.specs.Option.{option_map_or, option_or, is_none}
use Rattle.ras_requests.specs.declared.requests.Protection.{Protection}
use Rattle.ras_requests.specs.declared.requests.Protection.TheVariants as protection
use Rattle.plan_model.specs.declared.cases.Want.{Want}
use Rattle.plan_model.specs.declared.cases.Case.{Case}
use Rattle.plan_model.specs.declared.cases.Assignment.{Assignment}
use Rattle.plan_model.specs.declared.cases.Grouping.{Grouping}
use Rattle.plan_model.specs.Units.{all_reservations, servers_with_places}
use Rattle.plan_model.specs.Allowed.{first_not_served, first_loss}
use Rattle.plan_model.specs.Costs.{region_cost, rack_cost}
use Rattle.plan_model.specs.Rack.{keeps_to_chosen}
use Rattle.ip_model.specs.declared.program.Program.{Program}
use Rattle.bound_certificate.specs.declared.tree.Node.{Node}
use Rattle.bound_certificate.specs.declared.tree.Node.TheVariants.{Split, Bound, Refute}
use Rattle.bound_certificate.specs.declared.tree.Least.{Least}
use Rattle.bound_certificate.specs.declared.tree.Least.TheVariants.{At, AllRefuted}
use Rattle.bound_certificate.specs.Trees.{fault_of_tree, bound_of_tree}
use Rattle.bound_certificate.specs.Shown.{first_unshown}
use Rattle.program_rows.specs.Settings.{Setting, region_setting, rack_setting, phase_classes}
use Rattle.program_rows.specs.Programs.{program_fits}
use Rattle.program_rows.specs.Choice.{chosen_of}
use Rattle.program_rows.specs.Accepted.{phase_program}
use Rattle.plan_document.specs.declared.part.Planned.{Planned}
use Rattle.plan_document.specs.declared.part.Part.{Part}
use Rattle.plan_document.specs.declared.part.RackPart.{RackPart}
use Rattle.plan_document.specs.declared.document.Answer.{Answer}
use Rattle.plan_document.specs.declared.document.Answer.TheVariants as answer
use Rattle.plan_document.specs.declared.document.Document.{Document}
use Rattle.plan_checker.specs.declared.verdict.PhaseName.{PhaseName}
use Rattle.plan_checker.specs.declared.verdict.PhaseName.TheVariants as phase
use Rattle.plan_checker.specs.declared.verdict.Reason.{Reason}
use Rattle.plan_checker.specs.declared.verdict.Reason.TheVariants as reason
use Rattle.plan_checker.specs.declared.verdict.Verdict.{Verdict}
use Rattle.plan_checker.specs.declared.verdict.Verdict.TheVariants.{Yes, No}

abbrev pub reason_if : Bool → Reason → Option Reason
reason_if holds why = if holds then Some why else None

-- ---- the protections

abbrev pub same_protection : Protection → Protection → Bool
same_protection protection.Total protection.Total = true
same_protection protection.Total protection.Board = false
same_protection protection.Total protection.Center = false
same_protection protection.Board protection.Total = false
same_protection protection.Board protection.Board = true
same_protection protection.Board protection.Center = false
same_protection protection.Center protection.Total = false
same_protection protection.Center protection.Board = false
same_protection protection.Center protection.Center = true

-- the first of these reservations, from number r on, whose stated protection is not that of the case
abbrev pub first_other : ℕ → List Protection → List Want → Option Reason
first_other r [] wants = None
first_other r (p ∷ ps) [] = None
first_other r (p ∷ ps) (want ∷ wants) = option_or (reason_if (not (same_protection p want.protection)) (reason.Protection r)) (first_other (r + 1) ps wants)

abbrev pub protection_reason : Case → Document → Option Reason
protection_reason case document = first_other 0 document.protection case.wants

-- ---- the plan of a part

-- the first server that does not serve
abbrev pub serves_reason : PhaseName → Case → Assignment → Option Reason
serves_reason part case a = option_map (λ s. reason.Serves part s) (first_not_served case a)

-- the first of these reservations that does not keep its need
abbrev pub first_need : PhaseName → Case → Assignment → List ℕ → Option Reason
first_need part case a [] = None
first_need part case a (r ∷ rs) = option_or (option_map (λ lost. reason.Need part r lost) (first_loss case a r)) (first_need part case a rs)

abbrev pub need_reason : PhaseName → Case → Assignment → Option Reason
need_reason part case a = first_need part case a (all_reservations case)

-- the stated value is not the cost
abbrev pub value_reason : PhaseName → ℕ → ℕ → Option Reason
value_reason part stated found = reason_if (not (stated == found)) (reason.Value part stated found)

-- why an assignment that fits is not allowed
abbrev pub allowed_reason : PhaseName → Case → Assignment → Option Reason
allowed_reason part case a = option_or (serves_reason part case a) (need_reason part case a)

abbrev pub plan_reason : PhaseName → Case → (Assignment → ℕ) → Planned → Option Reason
plan_reason part case cost plan = option_or (allowed_reason part case plan.of) (value_reason part plan.value (cost plan.of))

-- ---- the tree of a part

abbrev pub size_reason : PhaseName → Case → Setting → Grouping → Option Reason
size_reason part case setting how = reason_if (not (program_fits case setting (phase_classes case setting how))) (reason.Size part)

-- the first node that breaks a rule, with the first rule that it breaks
abbrev pub tree_reason : PhaseName → Program → List Node → Option Reason
tree_reason part program nodes = option_map (λ f. reason.Tree part f.0 f.1) (fault_of_tree program nodes)

-- a node that is no leaf, or is refuted
abbrev pub is_closed : Node → Bool
is_closed (Split column at low high shown) = true
is_closed (Bound y) = false
is_closed (Refute y) = true

-- the first leaf that is not refuted
abbrev pub first_open : List Node → Option ℕ
first_open nodes = position (λ node. not (is_closed node)) nodes

-- the same where the answer is that there is no plan
abbrev pub open_reason : PhaseName → Answer → List Node → Option Reason
open_reason phase.Region answer.Infeasible nodes = option_map (λ i. reason.Open i) (first_open nodes)
open_reason phase.Region answer.Plan nodes = None
open_reason phase.Region answer.Limit nodes = None
open_reason phase.Rack answer nodes = None

-- the stated bound is not the tree's
abbrev pub other_bound : PhaseName → ℕ → Least → Option Reason
other_bound part stated (At n) = reason_if (not (stated == n)) (reason.Lower part stated (Some n))
other_bound part stated AllRefuted = Some (reason.Lower part stated None)

abbrev pub lower_reason : PhaseName → Option ℕ → Least → Option Reason
lower_reason part None found = None
lower_reason part (Some stated) found = other_bound part stated found

-- whether a gap goes with the answer and the wanted gap; the last part of a limit document is the one whose budget was spent
abbrev pub gap_goes : Answer → Bool → ℕ → ℕ → Bool
gap_goes answer.Plan last wanted gap = nat_le gap wanted
gap_goes answer.Infeasible last wanted gap = true
gap_goes answer.Limit last wanted gap = not last || nat_lt wanted gap

-- the stated gap is not value minus bound, or it does not go with the answer
abbrev pub gap_reason : PhaseName → Answer → Bool → ℕ → Option ℕ → Option Planned → Option Reason
gap_reason part answer last wanted lower None = None
gap_reason part answer last wanted None (Some plan) = None
gap_reason part answer last wanted (Some lower) (Some plan) =
    reason_if (not (plan.gap + lower == plan.value && gap_goes answer last wanted plan.gap)) (reason.Gap part plan.gap)

-- what is wrong with what a part states, the last of the document or not, where its tree has this bound
abbrev pub bound_reason : PhaseName → Document → Bool → Part → Least → Option Reason
bound_reason part document last stated found =
    option_or (open_reason part document.answer stated.tree.nodes)
    (option_or (lower_reason part stated.lower found) (gap_reason part document.answer last document.gap stated.lower stated.plan))

-- the same where its tree is one of this program
abbrev pub program_reason : PhaseName → Document → Bool → Part → Option Program → Option Reason
program_reason part document last stated None = None
program_reason part document last stated (Some program) =
    option_or (tree_reason part program stated.tree.nodes) (bound_reason part document last stated (bound_of_tree program stated.tree.nodes))

-- what is wrong with the certificate of a part
abbrev pub certificate_reason : PhaseName → Case → Setting → Document → Bool → Part → Option Reason
certificate_reason part case setting document last stated =
    option_or (size_reason part case setting document.grouping) (program_reason part document last stated (phase_program case setting document.grouping))

-- ---- the region part

-- its plan's reasons, if it has one
abbrev pub region_plan_reason : Case → Option Planned → Option Reason
region_plan_reason case None = None
region_plan_reason case (Some plan) = plan_reason phase.Region case (region_cost case) plan

abbrev pub region_reason : Case → Document → Option Reason
region_reason case document =
    option_or (region_plan_reason case document.region.plan)
    (certificate_reason phase.Region case (region_setting case) document (is_none document.rack) document.region)

-- ---- the chosen reservations

abbrev pub chosen_after : Case → ℕ → ℕ → Option Planned → List ℕ
chosen_after case racks wanted None = []
chosen_after case racks wanted (Some plan) = if nat_le plan.gap wanted then chosen_of case plan.of racks else []

-- the chosen list: empty where the region part has no plan or its gap is above the wanted gap
abbrev pub right_chosen : Case → Document → List ℕ
right_chosen case document = chosen_after case document.racks document.gap document.region.plan

-- the stated list, empty where there is no rack part
abbrev pub stated_chosen : Document → List ℕ
stated_chosen document = option_map_or (λ rack. rack.chosen) document.rack []

-- the first place at which two lists differ
abbrev pub first_difference : List ℕ → List ℕ → Option ℕ
first_difference [] [] = None
first_difference [] (y ∷ ys) = Some 0
first_difference (x ∷ xs) [] = Some 0
first_difference (x ∷ xs) (y ∷ ys) = if x == y then option_map (λ i. i + 1) (first_difference xs ys) else Some 0

abbrev pub chosen_difference : Option RackPart → List ℕ → Option ℕ
chosen_difference rack right = first_difference (option_map_or (λ rack. rack.chosen) rack []) right

abbrev pub chosen_reason : Case → Document → Option Reason
chosen_reason case document = option_map (λ place. reason.Chosen place) (chosen_difference document.rack (right_chosen case document))

-- ---- the rack part

-- the first server that is not as the region part has it and may not be moved, or has a reservation that is not chosen
abbrev pub fixed_reason : Case → Assignment → List ℕ → Assignment → Option Reason
fixed_reason case region chosen a = option_map (λ s. reason.Fixed s) (position (λ s. not (keeps_to_chosen case chosen s)) (zip (servers_with_places case region) a.of))

abbrev pub rack_plan_reason : Case → Assignment → List ℕ → Option Planned → Option Reason
rack_plan_reason case region chosen None = None
rack_plan_reason case region chosen (Some plan) =
    option_or (fixed_reason case region chosen plan.of) (plan_reason phase.Rack case (λ a. rack_cost case a chosen) plan)

abbrev pub rack_part_reason : Case → Document → Assignment → RackPart → Option Reason
rack_part_reason case document region rack =
    option_or (rack_plan_reason case region rack.chosen rack.part.plan)
    (certificate_reason phase.Rack case (rack_setting case region rack.chosen) document true rack.part)

-- ---- a spent budget

-- the last part's tree does not have the number of nodes of a spent budget
abbrev pub budget_reason : PhaseName → ℕ → List Node → Option Reason
budget_reason part budget nodes = reason_if (not (nat_le (length nodes) budget && nat_lt budget (length nodes + 2))) (reason.Budget part (length nodes))

-- the first split whose shown point does not tell why it was made
abbrev pub point_reason : PhaseName → Option Program → Option ℕ → List Node → Option Reason
point_reason part program None nodes = None
point_reason part None (Some lower) nodes = None
point_reason part (Some program) (Some lower) nodes = option_map (λ i. reason.Point part i) (first_unshown program lower [] nodes)

-- a tree of the program, if there is one, breaks no rule
abbrev pub HasSoundTree : Option Program → List Node → Type 0
HasSoundTree None nodes = ⊤
HasSoundTree (Some program) nodes = fault_of_tree program nodes ≡ None

abbrev pub spent_reason : PhaseName → Case → Setting → Document → Part → Option Reason
spent_reason part case setting document last =
    option_or (budget_reason part document.nodes last.tree.nodes) (point_reason part (phase_program case setting document.grouping) last.lower last.tree.nodes)

-- ---- the document

-- a reason that counts with answer limit alone
abbrev pub limit_reason : Answer → Option Reason → Option Reason
limit_reason answer.Plan spent = None
limit_reason answer.Infeasible spent = None
limit_reason answer.Limit spent = spent

-- the budget of the last part, which is the region part or the rack part
abbrev pub region_last_reason : Case → Document → Option Reason
region_last_reason case document = limit_reason document.answer (spent_reason phase.Region case (region_setting case) document document.region)

abbrev pub rack_last_reason : Case → Document → Assignment → RackPart → Option Reason
rack_last_reason case document region rack = limit_reason document.answer (spent_reason phase.Rack case (rack_setting case region rack.chosen) document rack.part)

-- what follows the chosen reservations: the rack part, and with answer limit the budget of the last part
abbrev pub later_reason : Case → Document → Option RackPart → Option Planned → Option Reason
later_reason case document None plan = region_last_reason case document
later_reason case document (Some rack) None = None
later_reason case document (Some rack) (Some first) = option_or (rack_part_reason case document first.of rack) (rack_last_reason case document first.of rack)

-- the chosen reservations, unless the answer is that there is no plan
abbrev pub chosen_first : Case → Document → Answer → Option Reason
chosen_first case document answer.Plan = chosen_reason case document
chosen_first case document answer.Infeasible = None
chosen_first case document answer.Limit = chosen_reason case document

-- what is wrong with the parts, the first of it
abbrev pub parts_reason : Case → Document → Option Reason
parts_reason case document =
    option_or (region_reason case document) (option_or (chosen_first case document document.answer) (later_reason case document document.rack document.region.plan))

-- the first reason that holds
abbrev pub first_reason : Case → Document → Option Reason
first_reason case document = option_or (protection_reason case document) (parts_reason case document)

abbrev pub verdict_of : Option Reason → Verdict
verdict_of None = Yes
verdict_of (Some why) = No why
