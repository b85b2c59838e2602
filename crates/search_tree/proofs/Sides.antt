-- The boxes of the two children of a split.
use Rattle.std.proofs.Common.{◌≡◌, ◌≢◌, ℕ, zero, suc, ◌+◌, ◌<◌, ◌≤◌, ◌∙◌, ap, sym, refl, subst, arith, List, [], ◌∷◌, length, take, slice_get, slice_index, Option, Some, None, true, false, ◌==◌, inl, inr}
use Rattle.std.proofs.lemmas.Bool.{ne_eqb, eq-eqb}
use mathlib.Core.List.{reverse_aux}
use Rattle.ip_model.specs.declared.parts.Bounds.{Bounds}
use Rattle.ip_model.specs.declared.point.Point.{Point}
use Rattle.ip_model.specs.declared.program.Program.{Program}
use Rattle.bound_certificate.specs.declared.tree.Node.{Node}
use Rattle.bound_certificate.specs.declared.tree.Node.TheVariants.{Split, Bound, Refute}
use Rattle.bound_certificate.specs.Trees.{low_side, high_side, box_of, is_named, fault_of, first_fault, fault_of_tree}
use Rattle.bound_certificate.proofs.Rules.{none_of_sooner, Rightly, split_rules, own_rules, choose, either_named}
use Rattle.search_tree.specs.Boxes.{box_at}

-- the nodes before node j of these, after the earlier ones
abbrev before : List Node → List Node → ℕ → List Node
before earlier nodes j = reverse_aux (take j nodes) earlier

rules_of : (program : Program) (count : ℕ) (earlier nodes : List Node) (column at low high : ℕ) (shown : Option Point) → first_fault program count earlier (Split column at low high shown ∷ nodes) ≡ None
    → Rightly program count earlier (box_of program earlier (length earlier)) column at low high
rules_of program count earlier nodes column at low high shown h =
    let here = none_of_sooner (length earlier) (fault_of program count earlier (Split column at low high shown)) _ h in
    split_rules program count earlier (box_of program earlier (length earlier)) column at low high (own_rules program count earlier (Split column at low high shown) here.0)

after_node : (program : Program) (count : ℕ) (earlier nodes : List Node) (node : Node) → first_fault program count earlier (node ∷ nodes) ≡ None → first_fault program count (node ∷ earlier) nodes ≡ None
after_node program count earlier nodes node h = (none_of_sooner (length earlier) (fault_of program count earlier node) _ h).1

other_child : (earlier : List Node) (child k : ℕ) → is_named earlier k ≡ true → is_named earlier child ≡ false → child ≡ k → ⊥
other_child earlier child k named new same = let e = ap (is_named earlier) same in cc

-- once a node is named, its box stays
settled : (program : Program) (count : ℕ) (earlier nodes : List Node) (j k : ℕ) → is_named earlier k ≡ true → first_fault program count earlier nodes ≡ None → box_of program (before earlier nodes j) k ≡ box_of program earlier k
settled program count earlier [] zero k named h = refl
settled program count earlier [] (suc j) k named h = refl
settled program count earlier (node ∷ nodes) zero k named h = refl
settled program count earlier (Split c a low high s ∷ nodes) (suc j) k named h =
    let rules = rules_of program count earlier nodes c a low high s h in
    let here = box_of program earlier (length earlier) in
    settled program count (Split c a low high s ∷ earlier) nodes j k (either_named (low == k) (high == k) (is_named earlier k) (inr (inr named))) (after_node program count earlier nodes (Split c a low high s) h)
    ∙ (choose (low == k) (high == k) (low_side here c a) (high_side here c a) (box_of program earlier k)).2
    (ne_eqb low k (other_child earlier low k named rules.low_child.unnamed)) (ne_eqb high k (other_child earlier high k named rules.high_child.unnamed))
settled program count earlier (Bound y ∷ nodes) (suc j) k named h = settled program count (Bound y ∷ earlier) nodes j k named (after_node program count earlier nodes (Bound y) h)
settled program count earlier (Refute y ∷ nodes) (suc j) k named h = settled program count (Refute y ∷ earlier) nodes j k named (after_node program count earlier nodes (Refute y) h)

-- what holds of a split that stands at place p after the earlier nodes, as node m
record SplitAt (program : Program) (earlier nodes : List Node) (p m column at low high : ℕ) : Type 0 where
  there : column < length program.columns
  above : slice_index (box_of program (before earlier nodes p) m).low column ≤ at
  below : at < slice_index (box_of program (before earlier nodes p) m).high column
  low_later : m < low
  high_later : m < high
  low_box : (j : ℕ) → low ≡ length earlier + j → box_of program (before earlier nodes j) low ≡ low_side (box_of program (before earlier nodes p) m) column at
  high_box : (j : ℕ) → high ≡ length earlier + j → box_of program (before earlier nodes j) high ≡ high_side (box_of program (before earlier nodes p) m) column at

-- a box that is known after one more node
one_more : (program : Program) (earlier nodes : List Node) (node : Node) (k j : ℕ) (side : Bounds) → ((i : ℕ) → k ≡ suc (length earlier) + i → box_of program (before (node ∷ earlier) nodes i) k ≡ side)
    → length earlier < k → k ≡ length earlier + j → box_of program (before earlier (node ∷ nodes) j) k ≡ side
one_more program earlier nodes node k zero side is later e = absurd (omega arith)
one_more program earlier nodes node k (suc j) side is later e = is j (omega arith)

split_here : (program : Program) (count : ℕ) (earlier nodes : List Node) (column at low high : ℕ) (shown : Option Point) → first_fault program count earlier (Split column at low high shown ∷ nodes) ≡ None
    → SplitAt program earlier (Split column at low high shown ∷ nodes) 0 (length earlier) column at low high
split_here program count earlier nodes column at low high shown h =
    let rules = rules_of program count earlier nodes column at low high shown h in
    let node = Split column at low high shown in
    let here = box_of program earlier (length earlier) in
    let rest = after_node program count earlier nodes node h in
    let other = λ (e : low ≡ high). rules.apart e in
    let low_first : box_of program (node ∷ earlier) low ≡ low_side here column at = (choose (low == low) (high == low) (low_side here column at) (high_side here column at) (box_of program earlier low)).0 (eq-eqb low low refl) in
    let high_next : box_of program (node ∷ earlier) high ≡ high_side here column at =
    (choose (low == high) (high == high) (low_side here column at) (high_side here column at) (box_of program earlier high)).1 (ne_eqb low high other) (eq-eqb high high refl) in
    let low_named = either_named (low == low) (high == low) (is_named earlier low) (inl (eq-eqb low low refl)) in
    let high_named = either_named (low == high) (high == high) (is_named earlier high) (inr (inl (eq-eqb high high refl))) in
    record {
      there = rules.there;
      above = rules.above;
      below = rules.below;
      low_later = rules.low_child.later;
      high_later = rules.high_child.later;
      low_box = λ j e. one_more program earlier nodes node low j _ (λ i _. settled program count (node ∷ earlier) nodes i low low_named rest ∙ low_first) rules.low_child.later e;
      high_box = λ j e. one_more program earlier nodes node high j _ (λ i _. settled program count (node ∷ earlier) nodes i high high_named rest ∙ high_next) rules.high_child.later e;
    }

split_from : (program : Program) (count : ℕ) (earlier nodes : List Node) (p m column at low high : ℕ) (shown : Option Point) → first_fault program count earlier nodes ≡ None → length earlier + p ≡ m
    → slice_get nodes p ≡ Some (Split column at low high shown) → SplitAt program earlier nodes p m column at low high
split_from program count earlier [] p m column at low high shown h place is = cc
split_from program count earlier (node ∷ nodes) zero m column at low high shown h place is =
    let same : node ≡ Split column at low high shown = cc in
    let here : length earlier ≡ m = omega arith in
    subst (λ (n : ℕ). SplitAt program earlier (node ∷ nodes) 0 n column at low high) here
    (subst (λ (n : Node). SplitAt program earlier (n ∷ nodes) 0 (length earlier) column at low high) (sym same)
    (split_here program count earlier nodes column at low high shown (subst (λ (n : Node). first_fault program count earlier (n ∷ nodes) ≡ None) same h)))
split_from program count earlier (node ∷ nodes) (suc p) m column at low high shown h place is =
    let later = split_from program count (node ∷ earlier) nodes p m column at low high shown (after_node program count earlier nodes node h) (omega arith) is in
    let from : length earlier < m = omega arith in
    record {
      there = later.there;
      above = later.above;
      below = later.below;
      low_later = later.low_later;
      high_later = later.high_later;
      low_box = λ j e. one_more program earlier nodes node low j _ later.low_box (let past = later.low_later in omega arith) e;
      high_box = λ j e. one_more program earlier nodes node high j _ later.high_box (let past = later.high_later in omega arith) e;
    }

-- the children of node p lie after it and have the two sides of its box
pub record HasSides (program : Program) (nodes : List Node) (p column at low high : ℕ) : Type 0 where
  pub there : column < length program.columns
  pub above : slice_index (box_at program nodes p).low column ≤ at
  pub below : at < slice_index (box_at program nodes p).high column
  pub low_later : p < low
  pub high_later : p < high
  pub low_box : box_at program nodes low ≡ low_side (box_at program nodes p) column at
  pub high_box : box_at program nodes high ≡ high_side (box_at program nodes p) column at

pub sides_at : (program : Program) (nodes : List Node) (p column at low high : ℕ) (shown : Option Point) → fault_of_tree program nodes ≡ None → slice_get nodes p ≡ Some (Split column at low high shown)
    → HasSides program nodes p column at low high
sides_at program nodes p column at low high shown h is =
    let s = split_from program (length nodes) [] nodes p p column at low high shown h (omega arith) is in
    record { there = s.there; above = s.above; below = s.below; low_later = s.low_later; high_later = s.high_later; low_box = s.low_box low (omega arith); high_box = s.high_box high (omega arith) }
