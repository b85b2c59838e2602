-- What a search keeps as leaves are taken out and split.
use Rattle.std.proofs.Common.{◌≡◌, ℕ, zero, suc, ◌+◌, ◌<◌, ◌≤◌, ◌≢◌, ◌++◌, ◌∙◌, ap, sym, refl, subst, arith, List, [], ◌∷◌, length, slice_get, slice_set, slice_index, Option, Some, None, IsTrue, false, IsSome, IfNone, inl, inr, Bor}
use Rattle.std.proofs.lemmas.Bool.{cases_eq, cases_lt}
use Rattle.std.proofs.lemmas.List.{append_assoc, length-append, length-set, get_or-set_other}
use Rattle.std.proofs.lemmas.Option.{slice_get_within, same_Some}
use Rattle.std.specs.Option.{option_copied}
use Rattle.ip_model.specs.declared.parts.Bounds.{Bounds}
use Rattle.ip_model.specs.declared.point.Point.{Point}
use Rattle.ip_model.specs.declared.program.Program.{Program}
use Rattle.ip_model.specs.Limits.{helper_at}
use Rattle.ip_model.specs.Points.{full_box_of}
use Rattle.bound_certificate.specs.declared.multipliers.Multipliers.{Multipliers}
use Rattle.bound_certificate.specs.declared.tree.Node.{Node}
use Rattle.bound_certificate.specs.declared.tree.Node.TheVariants.{Split, Bound, Refute}
use Rattle.bound_certificate.specs.declared.tree.Least.TheVariants as least
use Rattle.bound_certificate.specs.Bound.{leaf_bound}
use Rattle.bound_certificate.specs.Shown.{IsShown, AreShown}
use Rattle.bound_certificate.specs.Trees.{low_side, high_side, bound_of_tree}
use Rattle.bound_certificate.proofs.WalkSteps.{low_of_full}
use Rattle.exact_simplex.specs.Reasons.{AreKnown, IsReasoned}
use Rattle.search_tree.specs.Boxes.{box_at}
use Rattle.search_tree.specs.Growth.{split_nodes, IsLeafOf, CanSplit}
use Rattle.search_tree.specs.Leaves.{IsLeafAt}
use Rattle.search_tree.proofs.Grow.{get_written, get_other, get_added, some_there, one_leaf, grow, length-split, box_kept, low_child_box, high_child_box, leaves_few, two_ways}
use Rattle.search_tree.proofs.LeafFacts.{least_is_bound}
use Rattle.search_tree.proofs.Nested.{low_side_bound, high_side_bound}
use Rattle.branch_bound.specs.declared.found.Best.{Best}
use Rattle.branch_bound.specs.declared.leaf.Cut.{Cut}
use Rattle.branch_bound.specs.declared.leaf.OpenLeaf.{OpenLeaf}
use Rattle.branch_bound.specs.declared.make.Made.{Made}
use Rattle.branch_bound.specs.Keys.{IsLeastOpen}
use Rattle.branch_bound.specs.Making.{IsNoLess, IsMade}
use Rattle.branch_bound.specs.Openings.{HasWithin, Improves, HasFullHelpers, CanCut, ShowsWhy, IsCutOf, IsOpenAt, IsKept}
use Rattle.branch_bound.specs.Searching.{IsSearch, IsNear, IsFull}
use Rattle.branch_bound.proofs.ReasonFacts.{kept_known, kept_reasoned, known_walk, reasoned_split, shown_walk}

-- ---- boxes

pub full_helpers : (program : Program) → HasFullHelpers program (full_box_of program)
full_helpers program = record { low = λ j h. low_of_full (length program.columns) j; high = λ j h. refl }

other_column : (program : Program) (column j : ℕ) → helper_at program.columns column ≡ false → IsTrue (helper_at program.columns j) → j ≢ column
other_column program column j count helper e = let same = ap (helper_at program.columns) e in cc

pub low_helpers : (program : Program) (box : Bounds) (column at : ℕ) → helper_at program.columns column ≡ false → HasFullHelpers program box → HasFullHelpers program (low_side box column at)
low_helpers program box column at count full = record { low = full.low; high = λ j h. get_or-set_other box.high column j at 0 (other_column program column j count h) ∙ full.high j h }

pub high_helpers : (program : Program) (box : Bounds) (column at : ℕ) → helper_at program.columns column ≡ false → HasFullHelpers program box → HasFullHelpers program (high_side box column at)
high_helpers program box column at count full = record { low = λ j h. get_or-set_other box.low column j (at + 1) 0 (other_column program column j count h) ∙ full.low j h; high = full.high }

-- ---- what is known stays known

pub cut_improves : (program : Program) (old new : Option Best) (box : Bounds) (bound : ℕ) (cut : Option Cut) → Improves old new → IsCutOf program old box bound cut → IsCutOf program new box bound cut
cut_improves program old new box bound (Some cut) up h = h
cut_improves program old new box bound None up h = (h.0, up bound h.1)

pub kept_improves : (program : Program) (old new : Option Best) (box : Bounds) (node : Node) (leaf : Option OpenLeaf) → Improves old new → IsKept program old box node leaf → IsKept program new box node leaf
kept_improves program old new box (Bound y) (Some leaf) up h = record { rows = h.rows; bound_is = h.bound_is; helpers = h.helpers; cut = cut_improves program old new box leaf.bound leaf.cut up h.cut }
kept_improves program old new box (Bound y) None up h = h
kept_improves program old new box (Refute y) (Some leaf) up h = h
kept_improves program old new box (Refute y) None up h = h
kept_improves program old new box (Split column at low high shown) (Some leaf) up h = h
kept_improves program old new box (Split column at low high shown) None up h = h

pub made_improves : (program : Program) (old new : Option Best) (box : Bounds) (parent : Multipliers) (made : Made) → Improves old new → IsMade program old box parent made → IsMade program new box parent made
made_improves program old new box parent made up h = record { right = h.right; kept = kept_improves program old new box made.node made.leaf up h.kept; no_less = h.no_less }

shown_rises : (program : Program) (lower more : ℕ) (box : Bounds) (node : Node) → lower ≤ more → IsShown program lower box node → IsShown program more box node
shown_rises program lower more box (Split column at low high (Some point)) up h = record { lies = h.lies; above = h.above; below = h.below; value = let under = h.value in omega arith }
shown_rises program lower more box (Split column at low high None) up h = tt
shown_rises program lower more box (Bound y) up h = tt
shown_rises program lower more box (Refute y) up h = tt

shown_leaf : (program : Program) (lower : ℕ) (box : Bounds) (node : Node) → IsLeafOf program box node → IsShown program lower box node
shown_leaf program lower box (Split column at low high shown) h = absurd h
shown_leaf program lower box (Bound y) h = tt
shown_leaf program lower box (Refute y) h = tt

shown_split : (program : Program) (lower : ℕ) (box : Bounds) (column at low high : ℕ) (shown : Option Point) → ShowsWhy program box column at lower shown → IsShown program lower box (Split column at low high shown)
shown_split program lower box column at low high (Some point) h = h
shown_split program lower box column at low high None h = tt

-- ---- an open leaf of the tree

-- what is known of the node of an open leaf
pub record Opened (program : Program) (nodes : List Node) (best : Option Best) (i : ℕ) (leaf : OpenLeaf) : Type 0 where
  pub y : Multipliers
  pub node : slice_get nodes i ≡ Some (Bound y)
  pub known : IsOpenAt program best (box_at program nodes i) y leaf

opened_node : (program : Program) (nodes : List Node) (best : Option Best) (i : ℕ) (leaf : OpenLeaf) (node : Node) → slice_get nodes i ≡ Some node → IsKept program best (box_at program nodes i) node (Some leaf) → Opened program nodes best i leaf
opened_node program nodes best i leaf (Split column at low high shown) is h = absurd h
opened_node program nodes best i leaf (Bound y) is h = record { y = y; node = is; known = h }
opened_node program nodes best i leaf (Refute y) is h = absurd h

pub opened : (program : Program) (nodes : List Node) (leaves : List (Option OpenLeaf)) (best : Option Best) (i : ℕ) (leaf : OpenLeaf) → IsSearch program nodes leaves best → slice_get leaves i ≡ Some (Some leaf) → Opened program nodes best i leaf
opened program nodes leaves best i leaf right is =
    let within = slice_get_within leaves i (Some leaf) is in
    let size = right.size in
    let found = some_there nodes i (omega arith) in
    opened_node program nodes best i leaf found.0 found.1 (right.kept i found.0 (Some leaf) found.1 is)

-- a leaf that is not refuted is open with its bound
record OpenWith (program : Program) (nodes : List Node) (leaves : List (Option OpenLeaf)) (i bound : ℕ) : Type 0 where
  leaf : OpenLeaf
  is : slice_get leaves i ≡ Some (Some leaf)
  bound_is : leaf.bound ≡ bound

leaf_open : (program : Program) (nodes : List Node) (leaves : List (Option OpenLeaf)) (best : Option Best) (i bound : ℕ) (y : Multipliers) (o : Option OpenLeaf) → slice_get leaves i ≡ Some o
    → IsKept program best (box_at program nodes i) (Bound y) o → bound ≡ leaf_bound program (box_at program nodes i) y → OpenWith program nodes leaves i bound
leaf_open program nodes leaves best i bound y (Some leaf) is h value = record { leaf = leaf; is = is; bound_is = h.bound_is ∙ sym value }
leaf_open program nodes leaves best i bound y None is h value = absurd h

open_leaf : (program : Program) (nodes : List Node) (leaves : List (Option OpenLeaf)) (best : Option Best) (i bound : ℕ) → IsSearch program nodes leaves best → IsLeafAt program nodes i bound → OpenWith program nodes leaves i bound
open_leaf program nodes leaves best i bound right l =
    let within = slice_get_within nodes i (Bound l.y) l.leaf in
    let size = right.size in
    let found = some_there leaves i (omega arith) in
    leaf_open program nodes leaves best i bound l.y found.0 found.1 (right.kept i (Bound l.y) found.0 l.leaf found.1) l.is

-- where none is open, all leaves are refuted
pub none_left : (program : Program) (nodes : List Node) (leaves : List (Option OpenLeaf)) (best : Option Best) → IsSearch program nodes leaves best → ((k : ℕ) (leaf : OpenLeaf) → slice_get leaves k ≡ Some (Some leaf) → ⊥) → bound_of_tree program nodes ≡ least.AllRefuted
none_left program nodes leaves best right none =
    least_is_bound program nodes least.AllRefuted (λ k bound l. let o = open_leaf program nodes leaves best k bound right l in none k o.leaf o.is)

-- the least bound of the open leaves is the tree's
pub least_bound_is : (program : Program) (nodes : List Node) (leaves : List (Option OpenLeaf)) (best : Option Best) (i : ℕ) (leaf : OpenLeaf) → IsSearch program nodes leaves best → IsLeastOpen leaves i leaf → bound_of_tree program nodes ≡ least.At leaf.bound
least_bound_is program nodes leaves best i leaf right first =
    let here = opened program nodes leaves best i leaf right first.there in
    least_is_bound program nodes (least.At leaf.bound) (record {
      k = i;
      leaf = record { y = here.y; leaf = here.node; is = here.known.bound_is };
      least = λ j other l. let o = open_leaf program nodes leaves best j other right l in let under = first.least j o.leaf o.is in let same = o.bound_is in omega arith;
    })

pub all_shown : (program : Program) (nodes : List Node) (leaves : List (Option OpenLeaf)) (best : Option Best) (i : ℕ) (leaf : OpenLeaf) → IsSearch program nodes leaves best → slice_get leaves i ≡ Some (Some leaf) → AreShown program leaf.bound [] nodes
all_shown program nodes leaves best i leaf right is = shown_walk program leaf.bound nodes (λ k node there. right.shown k node i leaf there is)

pub all_known : (program : Program) (nodes : List Node) (leaves : List (Option OpenLeaf)) (best : Option Best) → IsSearch program nodes leaves best → AreKnown program (HasWithin best) [] nodes
all_known program nodes leaves best right = known_walk program (HasWithin best) nodes (λ k node there.
    let within = slice_get_within nodes k node there in
    let size = right.size in
    let found = some_there leaves k (omega arith) in
    kept_known program best (box_at program nodes k) node found.0 (right.kept k node found.0 there found.1))

-- ---- why a leaf is split, or cannot be

near_more : (best : Option Best) (bound gap : ℕ) → HasWithin best bound → IsNear best bound gap
near_more (Some best) bound gap h = omega arith
near_more None bound gap h = h

-- a leaf whose bound no known point is near is to be split
pub far_has_cut : (program : Program) (best : Option Best) (box : Bounds) (bound gap : ℕ) (cut : Option Cut) → IsCutOf program best box bound cut → (IsNear best bound gap → ⊥) → IsSome cut
far_has_cut program best box bound gap (Some cut) h far = refl
far_has_cut program best box bound gap None h far = absurd (far (near_more best bound gap h.1))

pub the_cut : (program : Program) (best : Option Best) (box : Bounds) (bound : ℕ) (o : Option Cut) (cut : Cut) → o ≡ Some cut → IsCutOf program best box bound o → CanCut program box cut × ShowsWhy program box cut.column cut.at bound cut.shown
the_cut program best box bound o cut is h = rw is at h

some_cut : (o : Option Cut) → IsSome o → (cut : Cut) × (o ≡ Some cut)
some_cut (Some cut) h = (cut, refl)
some_cut None h = absurd (cc)

-- where there is no room to split it, the budget is less than it takes to try all ways
pub full_short : (program : Program) (nodes : List Node) (leaves : List (Option OpenLeaf)) (best : Option Best) (i budget : ℕ) (leaf : OpenLeaf) → IsSearch program nodes leaves best → slice_get leaves i ≡ Some (Some leaf) → IsSome leaf.cut
    → budget < length nodes + 2 → IsFull program nodes budget
full_short program nodes leaves best i budget leaf right is has no_room =
    let here = opened program nodes leaves best i leaf right is in
    let within = slice_get_within nodes i (Bound here.y) here.node in
    let cut = some_cut leaf.cut has in
    let can = (the_cut program best (box_at program nodes i) leaf.bound leaf.cut cut.0 cut.1 here.known.cut).0 in
    let is_box = right.grown.boxes i within in
    let wide : slice_index (box_at program nodes i).low cut.0.column < slice_index (box_at program nodes i).high cut.0.column = let a = can.above in let b = can.below in omega arith in
    let two = two_ways program (box_at program nodes i) cut.0.column is_box can.there can.count wide in
    let few = leaves_few program nodes i (Bound here.y) right.grown here.node refl in
    let size = right.grown.size in
    record { no_room = no_room; short = omega arith }

-- ---- a split

-- what stands in a list of which one item was written and two were added
data Place {X : Type 0} (xs : List X) (i : ℕ) (x a b : X) (k : ℕ) (z : X) : Type 0 where
  written : k ≡ i → z ≡ x → Place xs i x a b k z
  kept : k ≢ i → k < length xs → slice_get xs k ≡ Some z → Place xs i x a b k z
  first : k ≡ length xs → z ≡ a → Place xs i x a b k z
  second : k ≡ length xs + 1 → z ≡ b → Place xs i x a b k z

place_of : {X : Type 0} (xs : List X) (i : ℕ) (x a b : X) (k : ℕ) (z : X) → i < length xs → slice_get (slice_set xs i x ++ a ∷ b ∷ []) k ≡ Some z → Place xs i x a b k z
place_of xs i x a b k z p is = elim (cases_lt k (length xs)) [
  | inl before ↦ elim (cases_eq k i) [
    | inl e ↦ written e (same_Some _ _ (sym is ∙ ap (slice_get (slice_set xs i x ++ a ∷ b ∷ [])) e ∙ get_written xs (a ∷ b ∷ []) i x p))
    | inr e ↦ kept e before (sym (get_other xs (a ∷ b ∷ []) i k x before e) ∙ is)
  ]
  | inr past ↦ elim (cases_eq k (length xs)) [
    | inl e ↦ first e (same_Some _ _ (sym is ∙ get_added xs (a ∷ b ∷ []) i k 0 x (omega arith)))
    | inr e ↦ elim (cases_eq k (length xs + 1)) [
      | inl f ↦ second f (same_Some _ _ (sym is ∙ get_added xs (a ∷ b ∷ []) i k 1 x (omega arith)))
      | inr f ↦ absurd (
          let within = slice_get_within (slice_set xs i x ++ a ∷ b ∷ []) k z is in
          omega (arith, length-append (slice_set xs i x) (a ∷ b ∷ []), length-set xs i x))
    ]
  ]
]

no_less_open : (program : Program) (box : Bounds) (y : Multipliers) (o : Option OpenLeaf) (leaf : OpenLeaf) → o ≡ Some leaf → IsNoLess program box y o → leaf_bound program box y ≤ leaf.bound
no_less_open program box y o leaf is h = rw is at h

-- all that a split of an open leaf of least bound needs
pub record IsSplitOf (program : Program) (nodes : List Node) (before : List (Option OpenLeaf)) (old new : Option Best) (i : ℕ) (leaf : OpenLeaf) (cut : Cut) (low high : Made) : Type 0 where
  pub right : IsSearch program nodes before old
  pub least : IsLeastOpen before i leaf
  pub here : Opened program nodes old i leaf
  pub cut_is : leaf.cut ≡ Some cut
  pub improves : Improves old new
  pub low_made : IsMade program new (low_side (box_at program nodes i) cut.column cut.at) here.y low
  pub high_made : IsMade program new (high_side (box_at program nodes i) cut.column cut.at) here.y high

can_split : (program : Program) (nodes : List Node) (before : List (Option OpenLeaf)) (old new : Option Best) (i : ℕ) (leaf : OpenLeaf) (cut : Cut) (low high : Made) → IsSplitOf program nodes before old new i leaf cut low high
    → CanSplit program nodes i cut.column cut.at low.node high.node
can_split program nodes before old new i leaf cut low high s =
    let can = (the_cut program old (box_at program nodes i) leaf.bound leaf.cut cut s.cut_is s.here.known.cut).0 in
    record { y = s.here.y; leaf = s.here.node; there = can.there; count = can.count; above = can.above; below = can.below; low_child = s.low_made.right; high_child = s.high_made.right }

-- the bounds of the open leaves are no less than the one that was split
floor : (program : Program) (nodes : List Node) (before : List (Option OpenLeaf)) (old new : Option Best) (i : ℕ) (leaf : OpenLeaf) (cut : Cut) (low high : Made) → IsSplitOf program nodes before old new i leaf cut low high
    → (j : ℕ) (other : OpenLeaf) → slice_get (slice_set before i None ++ low.leaf ∷ high.leaf ∷ []) j ≡ Some (Some other) → leaf.bound ≤ other.bound
floor program nodes before old new i leaf cut low high s j other is =
    let box = box_at program nodes i in
    let can = (the_cut program old box leaf.bound leaf.cut cut s.cut_is s.here.known.cut).0 in
    let is_box = s.right.grown.boxes i (slice_get_within nodes i (Bound s.here.y) s.here.node) in
    let here = s.here.known.bound_is in
    elim (place_of before i None low.leaf high.leaf j (Some other) (slice_get_within before i (Some leaf) s.least.there) is) [
      | written e f ↦ absurd (cc)
      | kept e p there ↦ s.least.least j other there
      | first e f ↦
          let own = no_less_open program (low_side box cut.column cut.at) s.here.y low.leaf other (sym f) s.low_made.no_less in
          let more = low_side_bound program box cut.column cut.at s.here.y is_box can.above can.below in omega arith
      | second e f ↦
          let own = no_less_open program (high_side box cut.column cut.at) s.here.y high.leaf other (sym f) s.high_made.no_less in
          let more = high_side_bound program box cut.column cut.at s.here.y is_box can.above can.below in omega arith
    ]

split_kept : (program : Program) (nodes : List Node) (before : List (Option OpenLeaf)) (old new : Option Best) (i : ℕ) (leaf : OpenLeaf) (cut : Cut) (low high : Made) → IsSplitOf program nodes before old new i leaf cut low high
    → (k : ℕ) (node : Node) (o : Option OpenLeaf) → slice_get (split_nodes nodes i cut.column cut.at cut.shown low.node high.node) k ≡ Some node → slice_get (slice_set before i None ++ low.leaf ∷ high.leaf ∷ []) k ≡ Some o
    → IsKept program new (box_at program (split_nodes nodes i cut.column cut.at cut.shown low.node high.node) k) node o
split_kept program nodes before old new i leaf cut low high s k node o is there =
    let can = can_split program nodes before old new i leaf cut low high s in
    let none = s.right.grown.right in
    let after = split_nodes nodes i cut.column cut.at cut.shown low.node high.node in
    let split = Split cut.column cut.at (length nodes) (length nodes + 1) cut.shown in
    let size = s.right.size in
    elim (place_of nodes i split low.node high.node k node (slice_get_within nodes i (Bound s.here.y) s.here.node) is) [
      | written e f ↦ elim (place_of before i None low.leaf high.leaf k o (slice_get_within before i (Some leaf) s.least.there) there) [
        | written e' f' ↦ rw (f, f') tt
        | kept e' p q ↦ absurd (e' e)
        | first e' f' ↦ absurd (let p = slice_get_within nodes i (Bound s.here.y) s.here.node in omega arith)
        | second e' f' ↦ absurd (let p = slice_get_within nodes i (Bound s.here.y) s.here.node in omega arith)
      ]
      | kept e p q ↦ elim (place_of before i None low.leaf high.leaf k o (slice_get_within before i (Some leaf) s.least.there) there) [
        | written e' f' ↦ absurd (e e')
        | kept e' p' q' ↦ subst (λ (b : Bounds). IsKept program new b node o) (sym (box_kept program nodes i cut.column cut.at k cut.shown low.node high.node can none p)) (kept_improves program old new _ node o s.improves (s.right.kept k node o q q'))
        | first e' f' ↦ absurd (omega arith)
        | second e' f' ↦ absurd (omega arith)
      ]
      | first e f ↦ elim (place_of before i None low.leaf high.leaf k o (slice_get_within before i (Some leaf) s.least.there) there) [
        | written e' f' ↦ absurd (let p = slice_get_within nodes i (Bound s.here.y) s.here.node in omega arith)
        | kept e' p' q' ↦ absurd (omega arith)
        | first e' f' ↦
            let same = ap (box_at program after) e ∙ low_child_box program nodes i cut.column cut.at cut.shown low.node high.node can none in
            rw (f, f') (subst (λ (b : Bounds). IsKept program new b low.node low.leaf) (sym same) s.low_made.kept)
        | second e' f' ↦ absurd (omega arith)
      ]
      | second e f ↦ elim (place_of before i None low.leaf high.leaf k o (slice_get_within before i (Some leaf) s.least.there) there) [
        | written e' f' ↦ absurd (let p = slice_get_within nodes i (Bound s.here.y) s.here.node in omega arith)
        | kept e' p' q' ↦ absurd (omega arith)
        | first e' f' ↦ absurd (omega arith)
        | second e' f' ↦
            let same = ap (box_at program after) e ∙ high_child_box program nodes i cut.column cut.at cut.shown low.node high.node can none in
            rw (f, f') (subst (λ (b : Bounds). IsKept program new b high.node high.leaf) (sym same) s.high_made.kept)
      ]
    ]

-- what holds of each node in its box before a split holds after it, where it holds of the split and of the two leaves
split_each : (P : Bounds → Node → Type 0) (program : Program) (nodes : List Node) (before : List (Option OpenLeaf)) (old new : Option Best) (i : ℕ) (leaf : OpenLeaf) (cut : Cut) (low high : Made) → IsSplitOf program nodes before old new i leaf cut low high
    → ((k : ℕ) (node : Node) → slice_get nodes k ≡ Some node → P (box_at program nodes k) node) → P (box_at program nodes i) (Split cut.column cut.at (length nodes) (length nodes + 1) cut.shown)
    → P (low_side (box_at program nodes i) cut.column cut.at) low.node → P (high_side (box_at program nodes i) cut.column cut.at) high.node
    → (k : ℕ) (node : Node) → slice_get (split_nodes nodes i cut.column cut.at cut.shown low.node high.node) k ≡ Some node → P (box_at program (split_nodes nodes i cut.column cut.at cut.shown low.node high.node) k) node
split_each P program nodes before old new i leaf cut low high s each here below above k node is =
    let can = can_split program nodes before old new i leaf cut low high s in
    let none = s.right.grown.right in
    let within = slice_get_within nodes i (Bound s.here.y) s.here.node in
    let after = split_nodes nodes i cut.column cut.at cut.shown low.node high.node in
    let split = Split cut.column cut.at (length nodes) (length nodes + 1) cut.shown in
    elim (place_of nodes i split low.node high.node k node within is) [
      | written e f ↦
          let same = ap (box_at program after) e ∙ box_kept program nodes i cut.column cut.at i cut.shown low.node high.node can none within in
          rw f (subst (λ (b : Bounds). P b split) (sym same) here)
      | kept e p q ↦ subst (λ (b : Bounds). P b node) (sym (box_kept program nodes i cut.column cut.at k cut.shown low.node high.node can none p)) (each k node q)
      | first e f ↦
          let same = ap (box_at program after) e ∙ low_child_box program nodes i cut.column cut.at cut.shown low.node high.node can none in
          rw f (subst (λ (b : Bounds). P b low.node) (sym same) below)
      | second e f ↦
          let same = ap (box_at program after) e ∙ high_child_box program nodes i cut.column cut.at cut.shown low.node high.node can none in
          rw f (subst (λ (b : Bounds). P b high.node) (sym same) above)
    ]

split_why : (program : Program) (nodes : List Node) (before : List (Option OpenLeaf)) (old new : Option Best) (i : ℕ) (leaf : OpenLeaf) (cut : Cut) (low high : Made) → IsSplitOf program nodes before old new i leaf cut low high
    → ShowsWhy program (box_at program nodes i) cut.column cut.at leaf.bound cut.shown
split_why program nodes before old new i leaf cut low high s = (the_cut program old (box_at program nodes i) leaf.bound leaf.cut cut s.cut_is s.here.known.cut).1

split_shown : (program : Program) (nodes : List Node) (before : List (Option OpenLeaf)) (old new : Option Best) (i : ℕ) (leaf : OpenLeaf) (cut : Cut) (low high : Made) → IsSplitOf program nodes before old new i leaf cut low high
    → (k : ℕ) (node : Node) → slice_get (split_nodes nodes i cut.column cut.at cut.shown low.node high.node) k ≡ Some node
    → IsShown program leaf.bound (box_at program (split_nodes nodes i cut.column cut.at cut.shown low.node high.node) k) node
split_shown program nodes before old new i leaf cut low high s =
    let box = box_at program nodes i in
    split_each (IsShown program leaf.bound) program nodes before old new i leaf cut low high s (λ k node is. s.right.shown k node i leaf is s.least.there)
    (shown_split program leaf.bound box cut.column cut.at (length nodes) (length nodes + 1) cut.shown (split_why program nodes before old new i leaf cut low high s))
    (shown_leaf program leaf.bound (low_side box cut.column cut.at) low.node s.low_made.right) (shown_leaf program leaf.bound (high_side box cut.column cut.at) high.node s.high_made.right)

split_reasoned : (program : Program) (nodes : List Node) (before : List (Option OpenLeaf)) (old new : Option Best) (i : ℕ) (leaf : OpenLeaf) (cut : Cut) (low high : Made) → IsSplitOf program nodes before old new i leaf cut low high
    → (k : ℕ) (node : Node) → slice_get (split_nodes nodes i cut.column cut.at cut.shown low.node high.node) k ≡ Some node
    → IsReasoned program (box_at program (split_nodes nodes i cut.column cut.at cut.shown low.node high.node) k) node
split_reasoned program nodes before old new i leaf cut low high s =
    let box = box_at program nodes i in
    split_each (IsReasoned program) program nodes before old new i leaf cut low high s s.right.reasoned
    (reasoned_split program box cut.column cut.at (length nodes) (length nodes + 1) leaf.bound cut.shown (split_why program nodes before old new i leaf cut low high s))
    (kept_reasoned program new (low_side box cut.column cut.at) low.node low.leaf s.low_made.kept s.low_made.right)
    (kept_reasoned program new (high_side box cut.column cut.at) high.node high.leaf s.high_made.kept s.high_made.right)

pub split_search : (program : Program) (nodes : List Node) (before : List (Option OpenLeaf)) (old new : Option Best) (i : ℕ) (leaf : OpenLeaf) (cut : Cut) (low high : Made) → IsSplitOf program nodes before old new i leaf cut low high
    → IsSearch program (split_nodes nodes i cut.column cut.at cut.shown low.node high.node) (slice_set before i None ++ low.leaf ∷ high.leaf ∷ []) new
split_search program nodes before old new i leaf cut low high s =
    let can = can_split program nodes before old new i leaf cut low high s in
    let size = s.right.size in
    record {
      grown = grow program nodes i cut.column cut.at cut.shown low.node high.node s.right.grown can;
      size = omega (arith, length-split nodes i cut.column cut.at cut.shown low.node high.node, length-append (slice_set before i None) (low.leaf ∷ high.leaf ∷ []), length-set before i None);
      kept = split_kept program nodes before old new i leaf cut low high s;
      reasoned = split_reasoned program nodes before old new i leaf cut low high s;
      shown = λ k node j other is there. shown_rises program leaf.bound other.bound _ node (floor program nodes before old new i leaf cut low high s j other there) (split_shown program nodes before old new i leaf cut low high s k node is);
    }

-- the state once the two leaves were added
pub split_done : (program : Program) (nodes : List Node) (before : List (Option OpenLeaf)) (old new : Option Best) (i : ℕ) (leaf : OpenLeaf) (cut : Cut) (low high : Made) → IsSplitOf program nodes before old new i leaf cut low high
    → (after : List Node) (taken one two : List (Option OpenLeaf)) → after ≡ split_nodes nodes i cut.column cut.at cut.shown low.node high.node → taken ≡ slice_set before i None → one ≡ taken ++ low.leaf ∷ [] → two ≡ one ++ high.leaf ∷ []
    → IsSearch program after two new
split_done program nodes before old new i leaf cut low high s after taken one two is gone one_is two_is =
    let leaves : two ≡ slice_set before i None ++ low.leaf ∷ high.leaf ∷ [] =
    two_is ∙ ap (λ (ls : List (Option OpenLeaf)). ls ++ high.leaf ∷ []) (one_is ∙ ap (λ (ls : List (Option OpenLeaf)). ls ++ low.leaf ∷ []) gone) ∙ append_assoc (slice_set before i None) (low.leaf ∷ []) (high.leaf ∷ []) in
    rw (is, leaves) (split_search program nodes before old new i leaf cut low high s)

-- ---- what a lent value is

pub lent_some : {X : Type 0} (o : Option (Bor X)) (x : X) → option_copied o ≡ Some x → IsSome o
lent_some (Some b) x is = refl
lent_some None x is = absurd (cc)

pub lent_is : {X : Type 0} (o : Option (Bor X)) (b : Bor X) (x : X) → o ≡ Some b → option_copied o ≡ Some x → b.now ≡ x
lent_is o b x is copy = same_Some _ _ (ap option_copied (sym is) ∙ copy)

pub none_then : {X : Type 0} (o : Option X) (P : Type 0) → ((x : X) → o ≡ Some x → ⊥) → IfNone o P → P
none_then (Some x) P none h = absurd (none x refl)
none_then None P none h = h

one_kept : (program : Program) (best : Option Best) (node : Node) (leaf : Option OpenLeaf) → IsLeafOf program (full_box_of program) node → IsKept program best (full_box_of program) node leaf
    → (k : ℕ) (other : Node) (o : Option OpenLeaf) → slice_get (node ∷ []) k ≡ Some other → slice_get (leaf ∷ []) k ≡ Some o → IsKept program best (box_at program (node ∷ []) k) other o
one_kept program best node leaf right known zero other o is there = rw (sym (same_Some _ _ is), sym (same_Some _ _ there)) known
one_kept program best node leaf right known (suc k) other o is there = absurd (cc)

one_each : (P : Bounds → Node → Type 0) (program : Program) (node : Node) → P (full_box_of program) node → (k : ℕ) (other : Node) → slice_get (node ∷ []) k ≡ Some other → P (box_at program (node ∷ []) k) other
one_each P program node here zero other is = rw (sym (same_Some _ _ is)) here
one_each P program node here (suc k) other is = absurd (cc)

-- the tree of a leaf alone
pub one_search : (program : Program) (best : Option Best) (node : Node) (leaf : Option OpenLeaf) → IsLeafOf program (full_box_of program) node → IsKept program best (full_box_of program) node leaf → IsSearch program (node ∷ []) (leaf ∷ []) best
one_search program best node leaf right known = record {
  grown = one_leaf program node right;
  size = refl;
  kept = λ k other o is there. one_kept program best node leaf right known k other o is there;
  reasoned = one_each (IsReasoned program) program node (kept_reasoned program best (full_box_of program) node leaf known right);
  shown = λ k other j open_leaf is there. one_each (IsShown program open_leaf.bound) program node (shown_leaf program open_leaf.bound (full_box_of program) node right) k other is;
}

pub start_search : (program : Program) (best : Option Best) (node : Node) (leaf : Option OpenLeaf) (box : Bounds) (nodes : List Node) (fresh leaves : List (Option OpenLeaf)) → box ≡ full_box_of program → nodes ≡ node ∷ [] → fresh ≡ []
    → leaves ≡ fresh ++ leaf ∷ [] → IsLeafOf program box node → IsKept program best box node leaf → IsSearch program nodes leaves best
start_search program best node leaf box nodes fresh leaves full one none pushed right known =
    let alone : leaves ≡ leaf ∷ [] = pushed ∙ ap (λ (ls : List (Option OpenLeaf)). ls ++ leaf ∷ []) none in
    rw (one, alone) (one_search program best node leaf (subst (λ (b : Bounds). IsLeafOf program b node) full right) (subst (λ (b : Bounds). IsKept program best b node leaf) full known))
