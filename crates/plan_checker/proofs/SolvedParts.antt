-- What a solved part keeps, and that the format can state it.
use Rattle.std.proofs.Common.{◌≡◌, ℕ, ◌<◌, ◌≤◌, refl, sym, ◌∙◌, subst, arith, Bool, true, List, [], length, get_or, nat_lt, Option, Some, None, is_some, All}
use Rattle.std.specs.Prelude.{IfSome}
use Rattle.std.specs.Option.{IsSomeAnd, option_map_or}
use Rattle.std.proofs.lemmas.List.Sums.{AllPass-from_list_all}
use Rattle.std.proofs.lemmas.Bool.{and_parts}
use Rattle.plan_model.specs.declared.cases.Case.{Case}
use Rattle.plan_model.specs.declared.cases.Assignment.{Assignment}
use Rattle.plan_model.specs.declared.cases.Grouping.{Grouping}
use Rattle.plan_model.proofs.SumLemmas.{length-fits}
use Rattle.ip_model.specs.declared.program.Program.{Program}
use Rattle.bound_certificate.specs.declared.tree.Node.{Node}
use Rattle.bound_certificate.specs.Shown.{AreShown}
use Rattle.program_rows.specs.Accepted.{IsRightTree, IsSpent}
use Rattle.program_rows.specs.Settings.{Setting}
use Rattle.plan_document.specs.declared.document.Answer.{Answer}
use Rattle.plan_document.specs.declared.document.Answer.TheVariants as answers
use Rattle.plan_document.specs.declared.part.Form.{Form}
use Rattle.plan_document.specs.declared.part.Part.{Part}
use Rattle.plan_document.specs.declared.part.Planned.{Planned}
use Rattle.plan_document.specs.Documents.{form_of}
use Rattle.plan_document.specs.Writable.{HasForm, NodeIsInRange, PartCanBeWritten, PlanIsInRange}
use Rattle.plan_checker.specs.Shape.{GoesWith, HasBound, HasPlan, PartInRange, PlanInRange}
use Rattle.plan_checker.specs.Points.{shows_points}
use Rattle.plan_checker.specs.Solved.{IsSolved}
use Rattle.plan_checker.proofs.SolvedNodes.{tree_in_range, unshown}

-- ---- nodes

-- with answer limit there is a bound
pub limit_bound : (plan : Option Planned) (lower : Option ℕ) → GoesWith answers.Limit plan lower None → HasBound plan lower → lower ≡ None → ⊥
limit_bound (Some plan) None goes bound none = bound
limit_bound (Some plan) (Some n) goes bound none = cc
limit_bound None None goes bound none = goes
limit_bound None (Some n) goes bound none = cc

spent_nodes : (case : Case) (setting : Setting) (how : Grouping) (budget wanted : ℕ) (gap stated lower : Option ℕ) (nodes : List Node) → length nodes ≤ 20000 → IsRightTree case setting how stated nodes
    → IfSome lower (λ n. IsSpent case setting how budget wanted gap n nodes) → (lower ≡ None → ⊥) → All NodeIsInRange nodes
spent_nodes case setting how budget wanted gap stated None nodes few right spent some = absurd (some refl)
spent_nodes case setting how budget wanted gap stated (Some n) nodes few right spent some =
    let one = spent.is_program in
    let two = right.is_program in
    let same : spent.program ≡ right.program = cc in
    tree_in_range right.program n nodes few right.is_tree (subst (λ (p : Program). AreShown p n [] nodes) same spent.shown)

module _ (case : Case) (setting : Setting) (how : Grouping) (allows : Assignment → Bool) (cost : Assignment → ℕ) (wanted budget : ℕ) (first : Option Assignment) (part : Part) where
  -- a tree that shows no points
  closed_nodes : (found : Answer) → IsSolved case setting how allows cost wanted budget first found part → budget ≤ 20000 → (found ≡ answers.Limit → ⊥) → All NodeIsInRange part.tree.nodes
  closed_nodes found solved few other =
      let tree = solved.right.tree in
      tree_in_range tree.program 0 part.tree.nodes (omega (arith, solved.within, few)) tree.is_tree (unshown tree.program 0 [] part.tree.nodes (solved.points other))

  pub solved_nodes : (found : Answer) → IsSolved case setting how allows cost wanted budget first found part → budget ≤ 20000 → All NodeIsInRange part.tree.nodes
  solved_nodes answers.Plan solved few = closed_nodes answers.Plan solved few (λ e. cc)
  solved_nodes answers.Infeasible solved few = closed_nodes answers.Infeasible solved few (λ e. cc)
  solved_nodes answers.Limit solved few =
      spent_nodes case setting how budget wanted _ part.lower part.lower part.tree.nodes (omega (arith, solved.within, few)) solved.right.tree (solved.spent refl)
      (limit_bound part.plan part.lower solved.members solved.range.bound)

  -- points are shown with answer limit alone
  pub solved_points : (found : Answer) → IsSolved case setting how allows cost wanted budget first found part → shows_points part.tree.nodes ≡ true → found ≡ answers.Limit
  solved_points answers.Plan solved shows = let none = solved.points (λ e. cc) in absurd (cc)
  solved_points answers.Infeasible solved shows = let none = solved.points (λ e. cc) in absurd (cc)
  solved_points answers.Limit solved shows = refl

-- ---- plans

place_there : (n m : ℕ) (to : Option ℕ) → m ≡ n → option_map_or (λ r. nat_lt r n) to true ≡ true → IfSome to (λ r. r < m)
place_there n m None same h = tt
place_there n m (Some r) same h = let below : r < n = grind arith in omega (arith, same, below)

module _ (case : Case) (servers reservations : List (List ℕ)) (all : length servers ≡ length case.places) (each : length reservations ≡ length case.wants) where
  plan_in_range : (plan : Option Planned) → IfSome plan (PlanInRange case) → IfSome plan (PlanIsInRange servers reservations)
  plan_in_range None h = tt
  plan_in_range (Some plan) h = record {
    places = length-fits case plan.of h.fitting ∙ sym all;
    there = λ k d p.
        place_there (length case.wants) (length reservations) (get_or plan.of.of k d) each
        (AllPass-from_list_all (λ to. option_map_or (λ r. nat_lt r (length case.wants)) to true) plan.of.of (and_parts _ _ h.fitting).1 k d p);
    value_most = h.value;
    gap_most = h.gap;
  }

  pub part_writable : (f : Form) (part : Part) → HasForm f part.plan part.lower → PartInRange case part → All NodeIsInRange part.tree.nodes → PartCanBeWritten servers reservations f part
  part_writable f part form range nodes = record { form = form; plan = plan_in_range part.plan range.plan; lower_most = range.lower; nodes = nodes }

-- ---- members

-- the members that go with an answer are those of its form
pub members_form : (a : Answer) (plan : Option Planned) (lower : Option ℕ) → GoesWith a plan lower None → HasBound plan lower → HasForm (form_of a (is_some plan)) plan lower
members_form answers.Plan (Some plan) (Some n) goes bound = (refl, refl)
members_form answers.Plan (Some plan) None goes bound = absurd bound
members_form answers.Plan None lower goes bound = absurd goes
members_form answers.Infeasible None None goes bound = (refl, refl)
members_form answers.Infeasible None (Some n) goes bound = absurd goes
members_form answers.Infeasible (Some plan) lower goes bound = absurd goes
members_form answers.Limit (Some plan) (Some n) goes bound = (refl, refl)
members_form answers.Limit (Some plan) None goes bound = absurd bound
members_form answers.Limit None (Some n) goes bound = (refl, refl)
members_form answers.Limit None None goes bound = absurd goes

-- a part with a plan states its bound too
pub bound_with_plan : (plan : Option Planned) (lower : Option ℕ) → HasPlan plan → HasBound plan lower → (is_some plan ≡ true) × (is_some lower ≡ true)
bound_with_plan None lower has bound = absurd has
bound_with_plan (Some plan) None has bound = absurd bound
bound_with_plan (Some plan) (Some n) has bound = (refl, refl)

-- where there is a first assignment there is a plan
pub plan_after : (P : Planned → Type 0) (plan : Option Planned) → IsSomeAnd plan P → HasPlan plan
plan_after P None h = absurd h
plan_after P (Some plan) h = tt

pub none_before : (P : Assignment → Planned → Type 0) (first : Option Assignment) (plan : Option Planned) → IfSome first (λ a. IsSomeAnd plan (P a)) → plan ≡ None → first ≡ None
none_before P None plan h none = refl
none_before P (Some a) None h none = absurd h
none_before P (Some a) (Some plan) h none = cc
