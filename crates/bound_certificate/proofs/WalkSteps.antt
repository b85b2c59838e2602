-- A walk over the nodes of a tree, node by node.
use Rattle.std.proofs.Common.{◌≡◌, ℕ, zero, suc, ◌+◌, ◌<◌, ◌≤◌, ◌≢◌, refl, sym, ap, ◌∙◌, subst, arith, List, [], ◌∷◌, length, get_or, set, take, drop, reverse, replicate, slice_index, slice_set, slice_index_or, get_or-set_other, Option, Some, None, Bool, true, false, not, ◌&&◌, ◌||◌, ◌==◌, ◌⊎◌, nat_lt, inl, inr, add-one}
use Rattle.std.proofs.Math.ListN.{length-set}
use Rattle.std.proofs.lemmas.Grind.{common_steps, get_or-set_at}
use Rattle.std.proofs.lemmas.Bool.Decides.{eqb_tells}
use Rattle.std.proofs.lemmas.List.{reverse-append, take_more, drop_all}
use Rattle.std.proofs.Math.Seq.{drop-cons}
use Rattle.ip_model.specs.declared.parts.Bounds.{Bounds}
use Rattle.ip_model.specs.declared.point.Point.{Point}
use Rattle.ip_model.specs.declared.program.Program.{Program}
use Rattle.ip_model.specs.Points.{full_box_of, IsBoxOf}
use Rattle.bound_certificate.specs.declared.tree.Node.{Node}
use Rattle.bound_certificate.specs.declared.tree.Node.TheVariants.{Split, Bound, Refute}
use Rattle.bound_certificate.specs.declared.tree.Least.{Least}
use Rattle.bound_certificate.specs.declared.tree.Least.TheVariants as least
use Rattle.bound_certificate.specs.declared.tree.TreeWhy.{TreeWhy}
use Rattle.bound_certificate.specs.declared.tree.TreeWhy.TheVariants as why
use Rattle.bound_certificate.specs.Trees.{low_side, high_side, box_of, is_named, broken_rule, fault_of, sooner_fault, first_fault, lesser_of, node_bound, least_bound, fault_of_tree, bound_of_tree}
use Rattle.bound_certificate.specs.declared.multipliers.Multipliers.{Multipliers}
use Rattle.bound_certificate.proofs.Rules.{Rightly, split_rules, choose, either_named}
use Rattle.bound_certificate.specs.Pending.{nodes_before, IsHeldFor, HoldsFrom, places_after}

pub length-before : (nodes : List Node) (i : ℕ) → i ≤ length nodes → length (nodes_before nodes i) ≡ i
length-before nodes i h = grind (arith, common_steps)

pub before_next : (nodes : List Node) (i : ℕ) (node : Node) → i < length nodes → node ≡ get_or nodes i node → nodes_before nodes (i + 1) ≡ node ∷ nodes_before nodes i
before_next nodes i node p is = ap reverse (take_more nodes i node p) ∙ reverse-append (take i nodes) (get_or nodes i node ∷ []) ∙ ap (λ (n : Node). n ∷ reverse (take i nodes)) (sym is)

pub next_nodes : (nodes : List Node) (i : ℕ) (node : Node) → i < length nodes → node ≡ get_or nodes i node → drop i nodes ≡ node ∷ drop (i + 1) nodes
next_nodes nodes i node p is = rw (add-one, drop-cons nodes i node p, ← is) refl

-- what is found from node i on, by node i and what is found after it
pub fault_step : (program : Program) (nodes : List Node) (i : ℕ) (node : Node) → i < length nodes → node ≡ get_or nodes i node
    → first_fault program (length nodes) (nodes_before nodes i) (drop i nodes) ≡ sooner_fault i (fault_of program (length nodes) (nodes_before nodes i) node) (first_fault program (length nodes) (nodes_before nodes (i + 1)) (drop (i + 1) nodes))
fault_step program nodes i node p is = rw (next_nodes nodes i node p is, before_next nodes i node p is, length-before nodes i (omega arith)) refl

pub bound_step : (program : Program) (nodes : List Node) (i : ℕ) (node : Node) → i < length nodes → node ≡ get_or nodes i node
    → least_bound program (nodes_before nodes i) (drop i nodes) ≡ lesser_of (node_bound program (box_of program (nodes_before nodes i) i) node) (least_bound program (nodes_before nodes (i + 1)) (drop (i + 1) nodes))
bound_step program nodes i node p is = rw (next_nodes nodes i node p is, before_next nodes i node p is, length-before nodes i (omega arith)) refl

pub low_of_full : (n j : ℕ) → slice_index (replicate n 0) j ≡ 0
low_of_full zero j = refl
low_of_full (suc n) zero = refl
low_of_full (suc n) (suc j) = low_of_full n j

pub full_box_is_box : (program : Program) → IsBoxOf program (full_box_of program)
full_box_is_box program = record { lows = grind (arith, common_steps); highs = grind (arith, common_steps); ordered = λ j. omega (arith, low_of_full (length program.columns) j); within = λ j. omega arith }

-- a number that is written at one column
written : (xs : List ℕ) (column j n : ℕ) → (slice_index (slice_set xs column n) j ≡ slice_index xs j) ⊎ ((column ≡ j) × (slice_index (slice_set xs column n) j ≡ n))
written [] column j n = inl refl
written (x ∷ xs) zero zero n = inr (refl, refl)
written (x ∷ xs) zero (suc j) n = inl refl
written (x ∷ xs) (suc column) zero n = inl refl
written (x ∷ xs) (suc column) (suc j) n = elim (written xs column j n) [ inl w ↦ inl w | inr w ↦ inr (ap (λ (k : ℕ). suc k) w.0, w.1) ]

pub low_side_is_box : (program : Program) (box : Bounds) (column at : ℕ) → IsBoxOf program box → slice_index box.low column ≤ at → at < slice_index box.high column → IsBoxOf program (low_side box column at)
low_side_is_box program box column at is low high = record {
  lows = is.lows;
  highs = omega (arith, is.highs, length-set box.high column at);
  ordered = λ j. elim (written box.high column j at) [ inl w ↦ omega (arith, w, is.ordered j) | inr w ↦ omega (arith, w, ap (slice_index box.low) w.0) ];
  within = λ j. elim (written box.high column j at) [ inl w ↦ omega (arith, w, is.within j) | inr w ↦ omega (arith, w, is.within j, ap (slice_index box.high) w.0) ];
}

pub high_side_is_box : (program : Program) (box : Bounds) (column at : ℕ) → IsBoxOf program box → slice_index box.low column ≤ at → at < slice_index box.high column → IsBoxOf program (high_side box column at)
high_side_is_box program box column at is low high = record {
  lows = omega (arith, is.lows, length-set box.low column (at + 1));
  highs = is.highs;
  ordered = λ j. elim (written box.low column j (at + 1)) [ inl w ↦ omega (arith, w, is.ordered j) | inr w ↦ omega (arith, w, ap (slice_index box.high) w.0) ];
  within = is.within;
}

-- what is held for the next node: the rules that it breaks beside the first are those of its box
pub orphan_fault : (program : Program) (count : ℕ) (earlier : List Node) (node : Node) → IsHeldFor program earlier (length earlier) None → fault_of program count earlier node ≡ Some why.Orphan
orphan_fault program count earlier node held = grind arith

not_orphan : (n : ℕ) (b : Bool) → (0 < n → b ≡ true) → (nat_lt 0 n && not b) ≡ false
not_orphan n b h = grind arith

pub held_fault : (program : Program) (count : ℕ) (earlier : List Node) (node : Node) (box : Bounds) → IsHeldFor program earlier (length earlier) (Some box) → fault_of program count earlier node ≡ broken_rule program count earlier box node
held_fault program count earlier node box held =
    rw (not_orphan (length earlier) (is_named earlier (length earlier)) held.0) (ap (λ (b : Bounds). broken_rule program count earlier b node) (sym held.1))

held_leaf : (program : Program) (earlier : List Node) (y : Multipliers) (k : ℕ) (place : Option Bounds) → IsHeldFor program earlier k place → IsHeldFor program (Bound y ∷ earlier) k place × IsHeldFor program (Refute y ∷ earlier) k place
held_leaf program earlier y k None h = (h, h)
held_leaf program earlier y k (Some box) h = (h, h)

held_same : (program : Program) (earlier : List Node) (node : Node) (k : ℕ) (place : Option Bounds) → is_named (node ∷ earlier) k ≡ is_named earlier k → box_of program (node ∷ earlier) k ≡ box_of program earlier k → IsHeldFor program earlier k place → IsHeldFor program (node ∷ earlier) k place
held_same program earlier node k None named box h = (named ∙ h.0, h.1)
held_same program earlier node k (Some b) named box h = (λ p. named ∙ h.0 p, h.1 ∙ sym box, h.2)

neither_named : (a b c : Bool) → a ≡ false → b ≡ false → (a || (b || c)) ≡ c
neither_named a b c p q = grind arith

held_split : (program : Program) (count : ℕ) (earlier : List Node) (box : Bounds) (column at low high : ℕ) (shown : Option Point) (places : List (Option Bounds)) (k : ℕ)
    → length places ≡ count → box ≡ box_of program earlier (length earlier) → IsBoxOf program box → Rightly program count earlier box column at low high
    → IsHeldFor program earlier k (slice_index_or places k None)
    → IsHeldFor program (Split column at low high shown ∷ earlier) k (slice_index_or (slice_set (slice_set places low (Some (low_side box column at))) high (Some (high_side box column at))) k None)
held_split program count earlier box column at low high shown places k size is is_box rules held =
    let node = Split column at low high shown in
    let below = low_side box column at in
    let above = high_side box column at in
    let old = box_of program earlier (length earlier) in
    let first = slice_set places low (Some below) in
    let both = slice_set first high (Some above) in
    let pick = choose (low == k) (high == k) (low_side old column at) (high_side old column at) (box_of program earlier k) in
    elim (eqb_tells low k) [
      | inl w ↦
          let other : high ≢ k = λ e. rules.apart (w.1 ∙ sym e) in
          let here : slice_index_or both k None ≡ Some below =
          get_or-set_other first high k (Some above) None (λ e. other (sym e)) ∙ get_or-set_at places low k (Some below) None (sym w.1) (let there = rules.low_child.there in omega arith) in
          let new : IsHeldFor program (node ∷ earlier) k (Some below) =
          (λ p. either_named (low == k) (high == k) (is_named earlier k) (inl w.0), ap (λ (b : Bounds). low_side b column at) is ∙ sym (pick.0 w.0), low_side_is_box program box column at is_box rules.above rules.below) in
          subst (IsHeldFor program (node ∷ earlier) k) (sym here) new
      | inr w ↦ elim (eqb_tells high k) [
        | inl v ↦
            let here : slice_index_or both k None ≡ Some above =
            get_or-set_at first high k (Some above) None (sym v.1) (let there = rules.high_child.there in omega (arith, length-set places low (Some below))) in
            let new : IsHeldFor program (node ∷ earlier) k (Some above) =
            (λ p. either_named (low == k) (high == k) (is_named earlier k) (inr (inl v.0)), ap (λ (b : Bounds). high_side b column at) is ∙ sym (pick.1 w.0 v.0), high_side_is_box program box column at is_box rules.above rules.below) in
            subst (IsHeldFor program (node ∷ earlier) k) (sym here) new
        | inr v ↦
            let here : slice_index_or both k None ≡ slice_index_or places k None =
            get_or-set_other first high k (Some above) None (λ e. v.1 (sym e)) ∙ get_or-set_other places low k (Some below) None (λ e. w.1 (sym e)) in
            subst (IsHeldFor program (node ∷ earlier) k) (sym here)
            (held_same program earlier node k (slice_index_or places k None) (neither_named (low == k) (high == k) (is_named earlier k) w.0 v.0) (pick.2 w.0 v.0) held)
      ]
    ]

held_after : (program : Program) (count : ℕ) (earlier : List Node) (node : Node) (box : Bounds) (places : List (Option Bounds)) (k : ℕ)
    → length places ≡ count → box ≡ box_of program earlier (length earlier) → IsBoxOf program box → broken_rule program count earlier box node ≡ None
    → IsHeldFor program earlier k (slice_index_or places k None) → IsHeldFor program (node ∷ earlier) k (slice_index_or (places_after node box places) k None)
held_after program count earlier (Split column at low high shown) box places k size is is_box none held =
    held_split program count earlier box column at low high shown places k size is is_box (split_rules program count earlier box column at low high none) held
held_after program count earlier (Bound y) box places k size is is_box none held = (held_leaf program earlier y k _ held).0
held_after program count earlier (Refute y) box places k size is is_box none held = (held_leaf program earlier y k _ held).1

-- what is held once node i was visited
pub held_next : (program : Program) (nodes : List Node) (i : ℕ) (node : Node) (box : Bounds) (places : List (Option Bounds)) → i < length nodes → node ≡ get_or nodes i node
    → length places ≡ length nodes → box ≡ box_of program (nodes_before nodes i) i → IsBoxOf program box → broken_rule program (length nodes) (nodes_before nodes i) box node ≡ None
    → HoldsFrom program nodes i (i + 1) places → HoldsFrom program nodes (i + 1) (i + 1) (places_after node box places)
held_next program nodes i node box places p here size is is_box none held = λ k from to.
    let place = length-before nodes i (omega arith) in
    let same : box ≡ box_of program (nodes_before nodes i) (length (nodes_before nodes i)) = rw place is in
    rw (before_next nodes i node p here) (held_after program (length nodes) (nodes_before nodes i) node box places k size same is_box none (held k from to))

pub same_default : {X : Type 0} (xs : List X) (i : ℕ) (d e : X) → i < length xs → get_or xs i d ≡ get_or xs i e
same_default [] i d e p = absurd (omega arith)
same_default (x ∷ xs) zero d e p = refl
same_default (x ∷ xs) (suc i) d e p = same_default xs i d e (omega arith)

-- node i, whose box was held
pub record Visited (program : Program) (nodes : List Node) (i : ℕ) (node : Node) (box : Bounds) : Type 0 where
  pub there : i < length nodes
  pub node_is : node ≡ get_or nodes i node
  pub named : 0 < i → is_named (nodes_before nodes i) i ≡ true
  pub box_is : box ≡ box_of program (nodes_before nodes i) i
  pub is_box : IsBoxOf program box

-- as the code reads the nodes as `read`, and takes what is held out of its place
pub visited : (program : Program) (nodes read : List Node) (i : ℕ) (node : Node) (box : Bounds) (places : List (Option Bounds)) (place taken : Option Bounds)
    → read ≡ nodes → i < length read → node ≡ get_or read i node → length places ≡ length nodes → HoldsFrom program nodes i i places
    → place ≡ get_or places i place → taken ≡ place → taken ≡ Some box → Visited program nodes i node box
visited program nodes read i node box places place taken same p is size held at take some =
    let to : i < length nodes = omega (arith, ap length same) in
    let here : get_or places i None ≡ Some box = same_default places i None place (omega arith) ∙ sym at ∙ sym take ∙ some in
    let mine : IsHeldFor program (nodes_before nodes i) i (Some box) = subst (IsHeldFor program (nodes_before nodes i) i) here (held i (omega arith) to) in
    record { there = to; node_is = rw same at is; named = mine.0; box_is = mine.1; is_box = mine.2 }

-- the rule that the code found is the node's fault
pub rule_is_fault : (program : Program) (nodes read : List Node) (i : ℕ) (node : Node) (box : Bounds) (rule : Option TreeWhy) → Visited program nodes i node box → read ≡ nodes
    → rule ≡ broken_rule program (length read) (nodes_before read i) box node → fault_of program (length nodes) (nodes_before nodes i) node ≡ rule
rule_is_fault program nodes read i node box rule v same is =
    let place = length-before nodes i (let p = v.there in omega arith) in
    let held : IsHeldFor program (nodes_before nodes i) (length (nodes_before nodes i)) (Some box) = rw place (v.named, v.box_is, v.is_box) in
    held_fault program (length nodes) (nodes_before nodes i) node box held ∙ sym (rw same at is)

pub fault_found : (program : Program) (nodes : List Node) (i : ℕ) (node : Node) (box : Bounds) (rule : TreeWhy) (whole : Option (ℕ × TreeWhy)) → Visited program nodes i node box
    → fault_of program (length nodes) (nodes_before nodes i) node ≡ Some rule → first_fault program (length nodes) (nodes_before nodes i) (drop i nodes) ≡ whole → whole ≡ Some (i, rule)
fault_found program nodes i node box rule whole v fault so_far =
    sym so_far ∙ fault_step program nodes i node v.there v.node_is ∙ ap (λ f. sooner_fault i f (first_fault program (length nodes) (nodes_before nodes (i + 1)) (drop (i + 1) nodes))) fault

pub no_fault_next : (program : Program) (nodes : List Node) (i : ℕ) (node : Node) (box : Bounds) (whole : Option (ℕ × TreeWhy)) → Visited program nodes i node box
    → fault_of program (length nodes) (nodes_before nodes i) node ≡ None → first_fault program (length nodes) (nodes_before nodes i) (drop i nodes) ≡ whole
    → first_fault program (length nodes) (nodes_before nodes (i + 1)) (drop (i + 1) nodes) ≡ whole
no_fault_next program nodes i node box whole v fault so_far =
    sym (ap (λ f. sooner_fault i f (first_fault program (length nodes) (nodes_before nodes (i + 1)) (drop (i + 1) nodes))) fault) ∙ sym (fault_step program nodes i node v.there v.node_is) ∙ so_far

lesser_assoc : (a b c : Least) → lesser_of (lesser_of a b) c ≡ lesser_of a (lesser_of b c)
lesser_assoc (least.At m) (least.At n) (least.At k) = ap least.At (omega arith)
lesser_assoc (least.At m) (least.At n) least.AllRefuted = refl
lesser_assoc (least.At m) least.AllRefuted (least.At k) = refl
lesser_assoc (least.At m) least.AllRefuted least.AllRefuted = refl
lesser_assoc least.AllRefuted b c = refl

pub found_next : (program : Program) (nodes : List Node) (i : ℕ) (node : Node) (box : Bounds) (found here new whole : Least) → Visited program nodes i node box
    → here ≡ node_bound program box node → new ≡ lesser_of found here → lesser_of found (least_bound program (nodes_before nodes i) (drop i nodes)) ≡ whole
    → lesser_of new (least_bound program (nodes_before nodes (i + 1)) (drop (i + 1) nodes)) ≡ whole
found_next program nodes i node box found here new whole v is sum so_far =
    let rest = least_bound program (nodes_before nodes (i + 1)) (drop (i + 1) nodes) in
    ap (λ l. lesser_of l rest) (sum ∙ ap (lesser_of found) (is ∙ ap (λ (b : Bounds). node_bound program b node) v.box_is))
    ∙ lesser_assoc found (node_bound program (box_of program (nodes_before nodes i) i) node) rest
    ∙ ap (lesser_of found) (sym (bound_step program nodes i node v.there v.node_is)) ∙ so_far

size_after : (node : Node) (box : Bounds) (places : List (Option Bounds)) → length (places_after node box places) ≡ length places
size_after (Split column at low high shown) box places = omega (arith, length-set (slice_set places low (Some (low_side box column at))) high (Some (high_side box column at)), length-set places low (Some (low_side box column at)))
size_after (Bound y) box places = refl
size_after (Refute y) box places = refl

-- what is held for the nodes after node i, once it was visited
pub held_after_visit : (program : Program) (nodes : List Node) (i : ℕ) (node : Node) (box : Bounds) (places new : List (Option Bounds)) → Visited program nodes i node box
    → length places ≡ length nodes → HoldsFrom program nodes i i places → broken_rule program (length nodes) (nodes_before nodes i) box node ≡ None
    → new ≡ places_after node box (set places i None) → (length new ≡ length nodes) × HoldsFrom program nodes (i + 1) (i + 1) new
held_after_visit program nodes i node box places new v size held none is =
    let taken = set places i None in
    let size' = length-set places i None in
    let held' : HoldsFrom program nodes i (i + 1) taken = λ k from to.
    let other = get_or-set_other places i k None None (λ e. omega arith) in
    subst (IsHeldFor program (nodes_before nodes i) k) (sym other) (held k (omega arith) to) in
    rw is (omega (arith, size_after node box taken, size', size), held_next program nodes i node box taken v.there v.node_is (omega (arith, size', size)) v.box_is v.is_box none held')

pub none_left : (o : Option TreeWhy) → ((rule : TreeWhy) → o ≡ Some rule → ⊥) → o ≡ None
none_left None h = refl
none_left (Some rule) h = absurd (h rule refl)

pub lesser_none : (l : Least) → lesser_of l least.AllRefuted ≡ l
lesser_none (least.At n) = refl
lesser_none least.AllRefuted = refl

-- all nodes were visited
pub walk_end : (program : Program) (nodes : List Node) (i : ℕ) (found : Least) → length nodes ≤ i → first_fault program (length nodes) (nodes_before nodes i) (drop i nodes) ≡ fault_of_tree program nodes
    → lesser_of found (least_bound program (nodes_before nodes i) (drop i nodes)) ≡ bound_of_tree program nodes → (fault_of_tree program nodes ≡ None) × (found ≡ bound_of_tree program nodes)
walk_end program nodes i found past so_far sum =
    let end : drop i nodes ≡ [] = drop_all i nodes past in (
      sym so_far ∙ ap (λ (ns : List Node). first_fault program (length nodes) (nodes_before nodes i) ns) end,
      sym (lesser_none found) ∙ sym (ap (λ (ns : List Node). lesser_of found (least_bound program (nodes_before nodes i) ns)) end) ∙ sum,
    )
