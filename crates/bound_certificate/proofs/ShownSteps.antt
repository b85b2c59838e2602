-- A walk over the nodes of a tree without fault.
use Rattle.std.proofs.Common.{◌≡◌, ℕ, ◌+◌, ◌<◌, ◌≤◌, refl, sym, ap, ◌∙◌, subst, arith, Bool, true, false, cond, List, [], ◌∷◌, length, get_or, drop, Option, Some, None}
use Rattle.std.proofs.lemmas.List.{drop_all}
use Rattle.ip_model.specs.declared.parts.Bounds.{Bounds}
use Rattle.ip_model.specs.declared.program.Program.{Program}
use Rattle.bound_certificate.specs.declared.tree.Node.{Node}
use Rattle.bound_certificate.specs.declared.tree.TreeWhy.{TreeWhy}
use Rattle.bound_certificate.specs.declared.tree.TreeWhy.TheVariants as why
use Rattle.bound_certificate.specs.Pending.{nodes_before, IsHeldFor, HoldsFrom}
use Rattle.bound_certificate.specs.Trees.{box_of, broken_rule, fault_of, sooner_fault, first_fault}
use Rattle.bound_certificate.specs.Shown.{node_shows, first_unshown}
use Rattle.bound_certificate.proofs.Rules.{none_of_sooner}
use Rattle.bound_certificate.proofs.WalkSteps.{Visited, length-before, before_next, next_nodes, same_default, fault_step, rule_is_fault, orphan_fault}

unshown_step : (program : Program) (lower : ℕ) (nodes : List Node) (i : ℕ) (node : Node) → i < length nodes → node ≡ get_or nodes i node
    → first_unshown program lower (nodes_before nodes i) (drop i nodes)
    ≡ cond (node_shows program lower (box_of program (nodes_before nodes i) i) node) (first_unshown program lower (nodes_before nodes (i + 1)) (drop (i + 1) nodes)) (Some i)
unshown_step program lower nodes i node p is = rw (next_nodes nodes i node p is, before_next nodes i node p is, length-before nodes i (omega arith)) refl

none_taken : (o : Option Bounds) → ((b : Bounds) → o ≡ Some b → ⊥) → o ≡ None
none_taken None h = refl
none_taken (Some b) h = absurd (h b refl)

-- each node's box is held
pub no_orphan : (program : Program) (nodes read : List Node) (i : ℕ) (node : Node) (places : List (Option Bounds)) (place taken : Option Bounds)
    → read ≡ nodes → i < length read → node ≡ get_or read i node → length places ≡ length nodes → HoldsFrom program nodes i i places
    → first_fault program (length nodes) (nodes_before nodes i) (drop i nodes) ≡ None → place ≡ get_or places i place → taken ≡ place → ((b : Bounds) → taken ≡ Some b → ⊥) → ⊥
no_orphan program nodes read i node places place taken same p is size held sound at take not =
    let to : i < length nodes = omega (arith, ap length same) in
    let node_is : node ≡ get_or nodes i node = rw same at is in
    let here : get_or places i None ≡ None = same_default places i None place (omega arith) ∙ sym at ∙ sym take ∙ none_taken taken not in
    let mine : IsHeldFor program (nodes_before nodes i) i None = subst (IsHeldFor program (nodes_before nodes i) i) here (held i (omega arith) to) in
    let last : IsHeldFor program (nodes_before nodes i) (length (nodes_before nodes i)) None = rw (length-before nodes i (omega arith)) mine in
    let orphan = orphan_fault program (length nodes) (nodes_before nodes i) node last in
    let later = first_fault program (length nodes) (nodes_before nodes (i + 1)) (drop (i + 1) nodes) in
    let clash : None ≡ sooner_fault i (Some why.Orphan) later = sym sound ∙ fault_step program nodes i node to node_is ∙ ap (λ f. sooner_fault i f later) orphan in
    cc

-- a visited node breaks no rule, and no later one does
pub record Sound (program : Program) (nodes : List Node) (i : ℕ) (node : Node) (box : Bounds) : Type 0 where
  pub rule : broken_rule program (length nodes) (nodes_before nodes i) box node ≡ None
  pub later : first_fault program (length nodes) (nodes_before nodes (i + 1)) (drop (i + 1) nodes) ≡ None

pub sound_here : (program : Program) (nodes : List Node) (i : ℕ) (node : Node) (box : Bounds) → Visited program nodes i node box
    → first_fault program (length nodes) (nodes_before nodes i) (drop i nodes) ≡ None → Sound program nodes i node box
sound_here program nodes i node box v sound =
    let step = none_of_sooner i (fault_of program (length nodes) (nodes_before nodes i) node) _ (sym (fault_step program nodes i node v.there v.node_is) ∙ sound) in
    record {
      rule = sym (rule_is_fault program nodes nodes i node box (broken_rule program (length nodes) (nodes_before nodes i) box node) v refl refl) ∙ step.0;
      later = step.1;
    }

pub unshown_found : (program : Program) (lower : ℕ) (nodes : List Node) (i : ℕ) (node : Node) (box : Bounds) (shows : Bool) (whole : Option ℕ) → Visited program nodes i node box
    → shows ≡ node_shows program lower box node → shows ≡ false → first_unshown program lower (nodes_before nodes i) (drop i nodes) ≡ whole → Some i ≡ whole
unshown_found program lower nodes i node box shows whole v is not so_far =
    let later = first_unshown program lower (nodes_before nodes (i + 1)) (drop (i + 1) nodes) in
    let here : node_shows program lower (box_of program (nodes_before nodes i) i) node ≡ false = ap (λ b. node_shows program lower b node) (sym v.box_is) ∙ sym is ∙ not in
    ap (λ b. cond b later (Some i)) (sym here) ∙ sym (unshown_step program lower nodes i node v.there v.node_is) ∙ so_far

pub unshown_next : (program : Program) (lower : ℕ) (nodes : List Node) (i : ℕ) (node : Node) (box : Bounds) (shows : Bool) (whole : Option ℕ) → Visited program nodes i node box
    → shows ≡ node_shows program lower box node → shows ≡ true → first_unshown program lower (nodes_before nodes i) (drop i nodes) ≡ whole
    → first_unshown program lower (nodes_before nodes (i + 1)) (drop (i + 1) nodes) ≡ whole
unshown_next program lower nodes i node box shows whole v is shown so_far =
    let later = first_unshown program lower (nodes_before nodes (i + 1)) (drop (i + 1) nodes) in
    let here : node_shows program lower (box_of program (nodes_before nodes i) i) node ≡ true = ap (λ b. node_shows program lower b node) (sym v.box_is) ∙ sym is ∙ shown in
    ap (λ b. cond b later (Some i)) (sym here) ∙ sym (unshown_step program lower nodes i node v.there v.node_is) ∙ so_far

pub unshown_end : (program : Program) (lower : ℕ) (nodes : List Node) (i : ℕ) (whole : Option ℕ) → length nodes ≤ i → first_unshown program lower (nodes_before nodes i) (drop i nodes) ≡ whole → None ≡ whole
unshown_end program lower nodes i whole past so_far = ap (λ (ns : List Node). first_unshown program lower (nodes_before nodes i) ns) (sym (drop_all i nodes past)) ∙ so_far
