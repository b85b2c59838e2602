-- What a tree keeps as it grows.
use Rattle.std.proofs.Common.{◌≡◌, ℕ, zero, suc, ◌+◌, ◌*◌, ◌<◌, ◌≤◌, ◌≢◌, ◌++◌, ◌∙◌, ap, sym, refl, subst, arith, List, [], ◌∷◌, length, slice_get, slice_set, slice_index, Option, Some, None, false, inl, inr, sum_by}
use Rattle.std.proofs.lemmas.Bool.{cases_eq, cases_lt}
use Rattle.std.proofs.lemmas.Grind.{common_steps}
use Rattle.std.proofs.lemmas.List.{length-set, set-append_left}
use Rattle.std.proofs.lemmas.List.Elements.{All-append, All-set, All-cons, All-nil}
use Rattle.std.proofs.lemmas.List.Sums.{sum_by-append, sum_by-cons, sum_by-set}
use Rattle.std.proofs.lemmas.Option.{slice_get_within, get_or_from_slice_get, some_pair_parts}
use Rattle.ip_model.specs.declared.parts.Bounds.{Bounds}
use Rattle.ip_model.specs.declared.point.Point.{Point}
use Rattle.ip_model.specs.declared.program.Program.{Program}
use Rattle.ip_model.specs.Choices.{choices_of}
use Rattle.ip_model.specs.Limits.{helper_at}
use Rattle.ip_model.specs.Points.{full_box_of, IsBoxOf}
use Rattle.bound_certificate.specs.declared.tree.Node.{Node}
use Rattle.bound_certificate.specs.declared.tree.Node.TheVariants.{Split, Bound, Refute}
use Rattle.bound_certificate.specs.Trees.{low_side, high_side, box_of, fault_of_tree}
use Rattle.bound_certificate.proofs.WalkSteps.{full_box_is_box, low_side_is_box, high_side_is_box}
use Rattle.search_tree.specs.Boxes.{box_at, with_boxes}
use Rattle.search_tree.specs.Ways.{ways, leaf_count, leaves_of, leaf_ways, ways_of_leaves}
use Rattle.search_tree.specs.Growth.{split_nodes, IsLeafOf, CanSplit, SplitsCount, IsGrown}
use Rattle.search_tree.proofs.Faults.{named_right, leaf_right, no_sooner}
use Rattle.search_tree.proofs.Placed.{placed_at, placed_split, right_split, length-placed}
use Rattle.search_tree.proofs.WayFacts.{ways_parted, some_way, full_ways}

-- ---- a list with one item written and others added

pub get_written : {X : Type 0} (xs ys : List X) (i : ℕ) (x : X) → i < length xs → slice_get (slice_set xs i x ++ ys) i ≡ Some x
get_written [] ys i x p = absurd (omega arith)
get_written (a ∷ xs) ys zero x p = refl
get_written (a ∷ xs) ys (suc i) x p = get_written xs ys i x (omega arith)

get_before : {X : Type 0} (xs ys : List X) (k : ℕ) → k < length xs → slice_get (xs ++ ys) k ≡ slice_get xs k
get_before [] ys k p = absurd (omega arith)
get_before (x ∷ xs) ys zero p = refl
get_before (x ∷ xs) ys (suc k) p = get_before xs ys k (omega arith)

pub get_other : {X : Type 0} (xs ys : List X) (i k : ℕ) (x : X) → k < length xs → k ≢ i → slice_get (slice_set xs i x ++ ys) k ≡ slice_get xs k
get_other [] ys i k x p other = absurd (omega arith)
get_other (a ∷ xs) ys zero zero x p other = absurd (other refl)
get_other (a ∷ xs) ys zero (suc k) x p other = get_before xs ys k (omega arith)
get_other (a ∷ xs) ys (suc i) zero x p other = refl
get_other (a ∷ xs) ys (suc i) (suc k) x p other = get_other xs ys i k x (omega arith) (λ e. other (ap (λ (n : ℕ). suc n) e))

get_past : {X : Type 0} (xs ys : List X) (k j : ℕ) → k ≡ length xs + j → slice_get (xs ++ ys) k ≡ slice_get ys j
get_past [] ys k j e = ap (slice_get ys) (omega arith)
get_past (x ∷ xs) ys zero j e = absurd (omega arith)
get_past (x ∷ xs) ys (suc k) j e = get_past xs ys k j (omega arith)

pub get_added : {X : Type 0} (xs ys : List X) (i k j : ℕ) (x : X) → k ≡ length xs + j → slice_get (slice_set xs i x ++ ys) k ≡ slice_get ys j
get_added xs ys i k j x e = get_past (slice_set xs i x) ys k j (omega (arith, length-set xs i x))

pub some_there : {X : Type 0} (xs : List X) (k : ℕ) → k < length xs → (x : X) × (slice_get xs k ≡ Some x)
some_there [] k p = absurd (omega arith)
some_there (x ∷ xs) zero p = (x, refl)
some_there (x ∷ xs) (suc k) p = some_there xs k (omega arith)

-- ---- the nodes and boxes after a split

pub length-split : (nodes : List Node) (i column at : ℕ) (shown : Option Point) (low high : Node) → length (split_nodes nodes i column at shown low high) ≡ length nodes + 2
length-split nodes i column at shown low high = grind (arith, common_steps)

pub box_kept : (program : Program) (nodes : List Node) (i column at k : ℕ) (shown : Option Point) (low high : Node) → CanSplit program nodes i column at low high → fault_of_tree program nodes ≡ None → k < length nodes
    → box_at program (split_nodes nodes i column at shown low high) k ≡ box_at program nodes k
box_kept program nodes i column at k shown low high can none p =
    let new = split_nodes nodes i column at shown low high in
    let node = Split column at (length nodes) (length nodes + 1) shown in
    let placed = with_boxes program [] nodes in
    let ends : List (Bounds × Node) = (low_side (box_at program nodes i) column at, low) ∷ (high_side (box_at program nodes i) column at, high) ∷ [] in
    let whole = placed_split program nodes i column at can.y shown low high can.leaf can.low_child none in
    let size = length-placed program [] nodes in
    let found = some_there new k (omega (arith, length-split nodes i column at shown low high)) in
    let here = sym (placed_at program new k found.0 found.1) ∙ ap (λ (ps : List (Bounds × Node)). slice_get ps k) whole in
    let old = some_there nodes k p in
    elim (cases_eq k i) [
      | inl e ↦ ((some_pair_parts _ _ _ _ (here ∙ ap (slice_get (slice_set placed i (box_at program nodes i, node) ++ ends)) e ∙ get_written placed ends i (box_at program nodes i, node) (omega arith))).0) ∙ ap (box_at program nodes) (sym e)
      | inr e ↦ (some_pair_parts _ _ _ _ (here ∙ get_other placed ends i k (box_at program nodes i, node) (omega arith) e ∙ placed_at program nodes k old.0 old.1)).0
    ]

pub low_child_box : (program : Program) (nodes : List Node) (i column at : ℕ) (shown : Option Point) (low high : Node) → CanSplit program nodes i column at low high → fault_of_tree program nodes ≡ None
    → box_at program (split_nodes nodes i column at shown low high) (length nodes) ≡ low_side (box_at program nodes i) column at
low_child_box program nodes i column at shown low high can none =
    let new = split_nodes nodes i column at shown low high in
    let node = Split column at (length nodes) (length nodes + 1) shown in
    let placed = with_boxes program [] nodes in
    let ends : List (Bounds × Node) = (low_side (box_at program nodes i) column at, low) ∷ (high_side (box_at program nodes i) column at, high) ∷ [] in
    let whole = placed_split program nodes i column at can.y shown low high can.leaf can.low_child none in
    let found = some_there new (length nodes) (omega (arith, length-split nodes i column at shown low high)) in
    (some_pair_parts _ _ _ _ (sym (placed_at program new (length nodes) found.0 found.1) ∙ ap (λ (ps : List (Bounds × Node)). slice_get ps (length nodes)) whole
    ∙ get_added placed ends i (length nodes) 0 (box_at program nodes i, node) (omega (arith, length-placed program [] nodes)))).0

pub high_child_box : (program : Program) (nodes : List Node) (i column at : ℕ) (shown : Option Point) (low high : Node) → CanSplit program nodes i column at low high → fault_of_tree program nodes ≡ None
    → box_at program (split_nodes nodes i column at shown low high) (length nodes + 1) ≡ high_side (box_at program nodes i) column at
high_child_box program nodes i column at shown low high can none =
    let new = split_nodes nodes i column at shown low high in
    let node = Split column at (length nodes) (length nodes + 1) shown in
    let placed = with_boxes program [] nodes in
    let ends : List (Bounds × Node) = (low_side (box_at program nodes i) column at, low) ∷ (high_side (box_at program nodes i) column at, high) ∷ [] in
    let whole = placed_split program nodes i column at can.y shown low high can.leaf can.low_child none in
    let found = some_there new (length nodes + 1) (omega (arith, length-split nodes i column at shown low high)) in
    (some_pair_parts _ _ _ _ (sym (placed_at program new (length nodes + 1) found.0 found.1) ∙ ap (λ (ps : List (Bounds × Node)). slice_get ps (length nodes + 1)) whole
    ∙ get_added placed ends i (length nodes + 1) 1 (box_at program nodes i, node) (omega (arith, length-placed program [] nodes)))).0

-- ---- one leaf

leaf_counts : (program : Program) (box : Bounds) (leaf : Node) → IsLeafOf program box leaf → leaf_count leaf ≡ 1
leaf_counts program box (Split column at low high shown) is = absurd is
leaf_counts program box (Bound y) is = refl
leaf_counts program box (Refute y) is = refl

leaf_splits : (program : Program) (box : Bounds) (leaf : Node) → IsLeafOf program box leaf → SplitsCount program leaf
leaf_splits program box (Split column at low high shown) is = absurd is
leaf_splits program box (Bound y) is = tt
leaf_splits program box (Refute y) is = tt

leaf_way : (program : Program) (box : Bounds) (leaf : Node) → leaf_count leaf ≡ 1 → leaf_ways program (box, leaf) ≡ ways program box
leaf_way program box leaf one = ap (λ (n : ℕ). n * ways program box) one ∙ omega arith

pub one_leaf : (program : Program) (leaf : Node) → IsLeafOf program (full_box_of program) leaf → IsGrown program (leaf ∷ [])
one_leaf program leaf is = record {
  right = no_sooner 0 _ None (named_right program 1 [] leaf (λ some. absurd (omega arith)) (leaf_right program 1 [] (full_box_of program) leaf is)) refl;
  boxes = λ k p. let place : k ≡ 0 = omega arith in rw place (full_box_is_box program);
  counts = All-cons (SplitsCount program) leaf [] (leaf_splits program (full_box_of program) leaf is) (All-nil (SplitsCount program));
  size = omega (arith, sum_by-cons leaf_count leaf [], leaf_counts program (full_box_of program) leaf is);
  parted = sum_by-cons (leaf_ways program) (full_box_of program, leaf) [] ∙ ap (λ (n : ℕ). n + 0) (leaf_way program (full_box_of program) leaf (leaf_counts program (full_box_of program) leaf is) ∙ full_ways program) ∙ omega arith;
}

-- ---- a split

-- a sum over a list in which an item that counts for nothing was written, and two were added
sum_split : {X : Type 0} (f : X → ℕ) (xs : List X) (i : ℕ) (x old low high : X) → slice_get xs i ≡ Some old → f x ≡ 0 → sum_by f (slice_set xs i x ++ low ∷ high ∷ []) + f old ≡ sum_by f xs + f low + f high
sum_split f xs i x old low high is none =
    let within = slice_get_within xs i old is in
    let there = ap f (get_or_from_slice_get xs i old old is) in
    omega (arith, none, there, sum_by-append f (slice_set xs i x) (low ∷ high ∷ []), sum_by-cons f low (high ∷ []), sum_by-cons f high [], sum_by-set f xs i x old within)

pub grow : (program : Program) (nodes : List Node) (i column at : ℕ) (shown : Option Point) (low high : Node) → IsGrown program nodes → CanSplit program nodes i column at low high
    → IsGrown program (split_nodes nodes i column at shown low high)
grow program nodes i column at shown low high grown can =
    let new = split_nodes nodes i column at shown low high in
    let node = Split column at (length nodes) (length nodes + 1) shown in
    let box = box_at program nodes i in
    let within = slice_get_within nodes i (Bound can.y) can.leaf in
    let is_box = grown.boxes i within in
    let size = length-split nodes i column at shown low high in
    let low_one = leaf_counts program (low_side box column at) low can.low_child in
    let high_one = leaf_counts program (high_side box column at) high can.high_child in
    let leaves = sum_split leaf_count nodes i node (Bound can.y) low high can.leaf refl in
    let placed = with_boxes program [] nodes in
    let all = sum_split (leaf_ways program) placed i (box, node) (box, Bound can.y) (low_side box column at, low) (high_side box column at, high) (placed_at program nodes i (Bound can.y) can.leaf) (omega arith) in
    let sum : ways_of_leaves program new + ways program box ≡ ways_of_leaves program nodes + ways program (low_side box column at) + ways program (high_side box column at) =
    omega (
      arith,
      all,
      ap (sum_by (leaf_ways program)) (placed_split program nodes i column at can.y shown low high can.leaf can.low_child grown.right),
      leaf_way program box (Bound can.y) refl,
      leaf_way program (low_side box column at) low low_one,
      leaf_way program (high_side box column at) high high_one,
    ) in
    record {
      right = right_split program nodes i column at shown low high can grown.right;
      boxes = λ k p. elim (cases_lt k (length nodes)) [
        | inl old ↦ subst (IsBoxOf program) (sym (box_kept program nodes i column at k shown low high can grown.right old)) (grown.boxes k old)
        | inr past ↦ elim (cases_eq k (length nodes)) [
          | inl first ↦ rw first (subst (IsBoxOf program) (sym (low_child_box program nodes i column at shown low high can grown.right)) (low_side_is_box program box column at is_box can.above can.below))
          | inr other ↦
              let second : k ≡ length nodes + 1 = omega arith in
              rw second (subst (IsBoxOf program) (sym (high_child_box program nodes i column at shown low high can grown.right)) (high_side_is_box program box column at is_box can.above can.below))
        ]
      ];
      counts = All-append (SplitsCount program) (slice_set nodes i node) (low ∷ high ∷ []) (All-set (SplitsCount program) nodes i node can.count grown.counts)
          (All-cons (SplitsCount program) low (high ∷ []) (leaf_splits program (low_side box column at) low can.low_child) (All-cons (SplitsCount program) high [] (leaf_splits program (high_side box column at) high can.high_child) (All-nil (SplitsCount program))));
      size = omega (arith, grown.size, leaves, low_one, high_one);
      parted = omega (arith, sum, grown.parted, ways_parted program box column at is_box can.there can.count can.above can.below);
    }

-- ---- leaves and ways

leaf_some : (program : Program) (box : Bounds) (node : Node) → leaf_count node ≤ leaf_ways program (box, node)
leaf_some program box (Split column at low high shown) = omega arith
leaf_some program box (Bound y) = omega (arith, some_way program box)
leaf_some program box (Refute y) = omega (arith, some_way program box)

leaves_under : (program : Program) (earlier nodes : List Node) → leaves_of nodes ≤ sum_by (leaf_ways program) (with_boxes program earlier nodes)
leaves_under program earlier [] = omega arith
leaves_under program earlier (node ∷ nodes) =
    omega (
      arith,
      sum_by-cons leaf_count node nodes,
      sum_by-cons (leaf_ways program) (box_of program earlier (length earlier), node) (with_boxes program (node ∷ earlier) nodes),
      leaf_some program (box_of program earlier (length earlier)) node,
      leaves_under program (node ∷ earlier) nodes,
    )

leaves_and_ways : (program : Program) (earlier nodes : List Node) (k : ℕ) (box : Bounds) (leaf : Node) → slice_get (with_boxes program earlier nodes) k ≡ Some (box, leaf) → leaf_count leaf ≡ 1
    → leaves_of nodes + ways program box ≤ sum_by (leaf_ways program) (with_boxes program earlier nodes) + 1
leaves_and_ways program earlier [] k box leaf is one = cc
leaves_and_ways program earlier (node ∷ nodes) zero box leaf is one =
    let parts = some_pair_parts _ _ _ _ is in
    let first : leaf_ways program (box_of program earlier (length earlier), node) ≡ ways program box = ap (λ (n : Node). leaf_ways program (box_of program earlier (length earlier), n)) parts.1 ∙ leaf_way program (box_of program earlier (length earlier)) leaf one ∙ ap (ways program) parts.0 in
    let count : leaf_count node ≡ 1 = ap leaf_count parts.1 ∙ one in
    omega (arith, first, count, sum_by-cons leaf_count node nodes, sum_by-cons (leaf_ways program) (box_of program earlier (length earlier), node) (with_boxes program (node ∷ earlier) nodes), leaves_under program (node ∷ earlier) nodes)
leaves_and_ways program earlier (node ∷ nodes) (suc k) box leaf is one =
    omega (
      arith,
      leaf_some program (box_of program earlier (length earlier)) node,
      leaves_and_ways program (node ∷ earlier) nodes k box leaf is one,
      sum_by-cons leaf_count node nodes,
      sum_by-cons (leaf_ways program) (box_of program earlier (length earlier), node) (with_boxes program (node ∷ earlier) nodes),
    )

-- there are no more leaves than ways, and fewer where a leaf has more than one
pub leaves_few : (program : Program) (nodes : List Node) (k : ℕ) (leaf : Node) → IsGrown program nodes → slice_get nodes k ≡ Some leaf → leaf_count leaf ≡ 1
    → leaves_of nodes + ways program (box_at program nodes k) ≤ choices_of program.columns + 1
leaves_few program nodes k leaf grown is one = omega (arith, grown.parted, leaves_and_ways program [] nodes k (box_at program nodes k) leaf (placed_at program nodes k leaf is) one)

pub nodes_few : (program : Program) (nodes : List Node) → IsGrown program nodes → length nodes + 1 ≤ 2 * choices_of program.columns
nodes_few program nodes grown = omega (arith, grown.size, grown.parted, leaves_under program [] nodes)

-- a box that can be split in a count column has two ways at least
pub two_ways : (program : Program) (box : Bounds) (column : ℕ) → IsBoxOf program box → column < length program.columns → helper_at program.columns column ≡ false
    → slice_index box.low column < slice_index box.high column → 2 ≤ ways program box
two_ways program box column is there count wide =
    let at = slice_index box.low column in
    omega (arith, ways_parted program box column at is there count (omega arith) wide, some_way program (low_side box column at), some_way program (high_side box column at))

-- the nodes with two more at the end, of which node i was written, are those of the split
pub split_is : (nodes inside pushed : List Node) (i column at count : ℕ) (shown : Option Point) (low high : Node) → inside ≡ nodes → pushed ≡ inside ++ low ∷ high ∷ [] → count ≡ length inside → i < length nodes
    → slice_set pushed i (Split column at count (count + 1) shown) ≡ split_nodes nodes i column at shown low high
split_is nodes inside pushed i column at count shown low high same is size within =
    let number : count ≡ length nodes = omega (arith, ap length same) in
    ap (λ (ns : List Node). slice_set ns i (Split column at count (count + 1) shown)) (is ∙ ap (λ (ns : List Node). ns ++ low ∷ high ∷ []) same)
    ∙ ap (λ (n : ℕ). slice_set (nodes ++ low ∷ high ∷ []) i (Split column at n (n + 1) shown)) number
    ∙ set-append_left nodes (low ∷ high ∷ []) i (Split column at (length nodes) (length nodes + 1) shown) within

pub split_grown : (nodes new : List Node) (i column at : ℕ) (shown : Option Point) (low high : Node) → new ≡ split_nodes nodes i column at shown low high → (program : Program) → IsGrown program nodes
    → CanSplit program nodes i column at low high → IsGrown program new
split_grown nodes new i column at shown low high is program grown can = rw is (grow program nodes i column at shown low high grown can)
