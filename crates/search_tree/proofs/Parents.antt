-- Which nodes were split, and the way from a node up to the first.
use Rattle.std.proofs.Common.{◌≡◌, ◌≢◌, ℕ, ◌+◌, ◌-◌, ◌*◌, ◌/◌, ◌<◌, ◌≤◌, ◌^◌, ◌++◌, ◌∙◌, ap, sym, refl, subst, arith, List, [], ◌∷◌, length, get_or, slice_get, slice_set, slice_index, Option, Some, None, Bool, ◌==◌, if◌then◌else◌, inl, inr}
use Rattle.std.specs.Prelude.{IsSome}
use Rattle.std.proofs.lemmas.Bool.{cases_eq, cases_lt}
use Rattle.std.proofs.lemmas.Bool.Decides.{eqb_tells}
use Rattle.std.proofs.lemmas.List.{length-append, get_or_append_left, get_or_default}
use Rattle.std.proofs.lemmas.Option.{slice_get_within, slice_get_read, some_pair_parts}
use Rattle.std.proofs.Math.Seq.{get_or-append_seam}
use Rattle.ip_model.specs.declared.parts.Bounds.{Bounds}
use Rattle.ip_model.specs.declared.point.Point.{Point}
use Rattle.ip_model.specs.declared.program.Program.{Program}
use Rattle.bound_certificate.specs.declared.tree.Node.{Node}
use Rattle.bound_certificate.specs.declared.tree.Node.TheVariants.{Split, Bound, Refute}
use Rattle.ip_model.specs.Points.{full_box_of, IsBoxOf}
use Rattle.bound_certificate.proofs.Total.{high_in}
use Rattle.search_tree.specs.Boxes.{box_at, part_below, part_above}
use Rattle.search_tree.specs.Growth.{split_nodes, IsGrown}
use Rattle.search_tree.specs.Leaves.{multipliers_of, multipliers_at}
use Rattle.search_tree.specs.Splits.{children_of, HasSplits}
use Rattle.search_tree.proofs.Cuts.{IsPart, part_below_next, part_above_next, part_last}
use Rattle.search_tree.proofs.Grow.{get_written, get_other, length-split}
use Rattle.search_tree.proofs.Sides.{HasSides, sides_at}

-- ---- a leaf becomes a split

some_within : (nodes : List Node) (i : ℕ) (o : Option Node) → slice_get nodes i ≡ o → IsSome (multipliers_of o) → i < length nodes
some_within nodes i None is h = absurd (cc)
some_within nodes i (Some node) is h = slice_get_within nodes i node is

pub leaf_within : (nodes : List Node) (i : ℕ) → IsSome (multipliers_at nodes i) → i < length nodes
leaf_within nodes i h = some_within nodes i (slice_get nodes i) refl h

no_children : (o : Option Node) (low high : ℕ) → IsSome (multipliers_of o) → children_of o ≡ Some (low, high) → ⊥
no_children (Some (Split column at a b shown)) low high h is = absurd (cc)
no_children (Some (Bound y)) low high h is = cc
no_children (Some (Refute y)) low high h is = absurd (cc)
no_children None low high h is = absurd (cc)

with_children : (nodes : List Node) (p : ℕ) (o : Option Node) (low high : ℕ) → slice_get nodes p ≡ o → children_of o ≡ Some (low, high) → p < length nodes
with_children nodes p None low high is h = cc
with_children nodes p (Some node) low high is h = slice_get_within nodes p node is

-- a split is a node
pub split_there : (nodes : List Node) (splits : List ℕ) (s : ℕ) → HasSplits nodes splits → s < length splits → slice_index splits s < length nodes
split_there nodes splits s has p = with_children nodes (slice_index splits s) (slice_get nodes (slice_index splits s)) (2 * s + 1) (2 * s + 2) refl (has.children s p)

pub splits_kept : (nodes : List Node) (splits : List ℕ) (i column at : ℕ) (shown : Option Point) (low high : Node) → HasSplits nodes splits → IsSome (multipliers_at nodes i)
    → HasSplits (split_nodes nodes i column at shown low high) (splits ++ i ∷ [])
splits_kept nodes splits i column at shown low high has leaf =
    let new = split_nodes nodes i column at shown low high in
    let node = Split column at (length nodes) (length nodes + 1) shown in
    let size = has.size in
    let more : length (splits ++ i ∷ []) ≡ length splits + 1 = length-append splits (i ∷ []) in
    record {
      size = omega (arith, length-split nodes i column at shown low high, more);
      children = λ s p. elim (cases_lt s (length splits)) [
        | inl old ↦
            let there = split_there nodes splits s has old in
            let other : slice_index splits s ≢ i = λ e. no_children (slice_get nodes i) (2 * s + 1) (2 * s + 2) leaf (ap (λ (k : ℕ). children_of (slice_get nodes k)) (sym e) ∙ has.children s old) in
            ap (λ (k : ℕ). children_of (slice_get new k)) (get_or_append_left splits (i ∷ []) 0 s old)
            ∙ ap children_of (get_other nodes (low ∷ high ∷ []) i (slice_index splits s) node there other) ∙ has.children s old
        | inr past ↦
            let last : s ≡ length splits = omega arith in
            let here : slice_index (splits ++ i ∷ []) s ≡ i = ap (slice_index (splits ++ i ∷ [])) last ∙ get_or-append_seam splits i [] 0 in
            let low_is : length nodes ≡ 2 * s + 1 = omega arith in
            let high_is : length nodes + 1 ≡ 2 * s + 2 = omega arith in
            ap (λ (k : ℕ). children_of (slice_get new k)) here ∙ ap children_of (get_written nodes (low ∷ high ∷ []) i node (leaf_within nodes i leaf))
            ∙ ap (λ (k : ℕ). Some (k, length nodes + 1)) low_is ∙ ap (λ (k : ℕ). Some (2 * s + 1, k)) high_is
      ];
    }

-- ---- from a node to its parent

-- a node on the way from node k up, and the box as it is cut so far
pub record IsOnWay (program : Program) (nodes : List Node) (k node : ℕ) (bounds : Bounds) : Type 0 where
  pub there : node < length nodes
  pub part : IsPart program (box_at program nodes node) bounds (box_at program nodes k)

pub parent_listed : (nodes : List Node) (splits : List ℕ) (node : ℕ) → HasSplits nodes splits → 0 < node → node < length nodes → (node - 1) / 2 < length splits
parent_listed nodes splits node has some there = let size = has.size in omega arith

-- the node in the parent's place has its children
children_there : (nodes : List Node) (p column at low high s : ℕ) (shown : Option Point) → slice_get nodes p ≡ Some (Split column at low high shown) → children_of (slice_get nodes p) ≡ Some (2 * s + 1, 2 * s + 2)
    → (low ≡ 2 * s + 1) × (high ≡ 2 * s + 2)
children_there nodes p column at low high s shown is has = let pair : ◌≡◌ {A = Option (ℕ × ℕ)} (Some (low, high)) (Some (2 * s + 1, 2 * s + 2)) = sym (ap children_of is) ∙ has in some_pair_parts low (2 * s + 1) high (2 * s + 2) pair

-- p is the parent of the node, and was split so
pub record IsParent (program : Program) (nodes : List Node) (p column at low high node : ℕ) : Type 0 where
  pub sides : HasSides program nodes p column at low high
  pub before : p < node
  pub other : (node ≡ low → ⊥) → node ≡ high
  pub there : p < length nodes
  pub is_box : IsBoxOf program (box_at program nodes p)
  pub at_fits : at < 2 ^ 32 - 1

parent_of : (program : Program) (nodes : List Node) (splits : List ℕ) (p column at low high node : ℕ) (shown : Option Point) → IsGrown program nodes → HasSplits nodes splits → 0 < node → node < length nodes
    → p ≡ slice_index splits ((node - 1) / 2) → p < length nodes → slice_get nodes p ≡ Some (Split column at low high shown) → IsParent program nodes p column at low high node
parent_of program nodes splits p column at low high node shown grown has some there place within split =
    let s = (node - 1) / 2 in
    let sides = sides_at program nodes p column at low high shown grown.right split in
    let names = children_there nodes p column at low high s shown split (ap (λ (i : ℕ). children_of (slice_get nodes i)) place ∙ has.children s (parent_listed nodes splits node has some there)) in
    let low_later = sides.low_later in
    let low_is = names.0 in
    let high_is = names.1 in
    let is_box = grown.boxes p within in
    let below = sides.below in
    let most = high_in program (box_at program nodes p) is_box column in
    record {
      sides = sides;
      before = omega arith;
      other = λ not_low. elim (cases_eq node (2 * s + 1)) [ inl e ↦ absurd (not_low (e ∙ sym low_is)) | inr e ↦ omega arith ];
      there = within;
      is_box = is_box;
      at_fits = omega arith;
    }

-- as the code reads the parent's number and the parent
pub parent_is : {program : Program} {nodes now : List Node} {splits : List ℕ} {p column at low high node : ℕ} {shown : Option Point} {read : Node} → nodes ≡ now → IsGrown program now → HasSplits nodes splits
    → 0 < node → node < length nodes → p ≡ get_or splits ((node - 1) / 2) p → read ≡ get_or nodes p read → read ≡ Split column at low high shown → IsParent program nodes p column at low high node
parent_is {program} {nodes} {now} {splits} {p} {column} {at} {low} {high} {node} {shown} {read} same grown has some there number node_is is =
    let s = (node - 1) / 2 in
    let listed = parent_listed nodes splits node has some there in
    let place : p ≡ slice_index splits s = number ∙ get_or_default splits s p 0 listed in
    let within = subst (λ (i : ℕ). i < length nodes) (sym place) (split_there nodes splits s has listed) in
    let split = slice_get_read nodes (length nodes) p read refl within node_is ∙ ap (λ (n : Node). Some n) is in
    parent_of program nodes splits p column at low high node shown (subst (IsGrown program) (sym same) grown) has some there place within split

way_low : (program : Program) (nodes : List Node) (p column at low high node k : ℕ) (bounds : Bounds) → IsParent program nodes p column at low high node → IsOnWay program nodes k node bounds → node ≡ low
    → IsOnWay program nodes k p (part_below bounds column at)
way_low program nodes p column at low high node k bounds parent way is = record {
  there = parent.there;
  part = part_below_next program (box_at program nodes p) bounds (box_at program nodes k) column at parent.is_box parent.sides.there parent.sides.below
      (subst (λ (b : Bounds). IsPart program b bounds (box_at program nodes k)) (ap (box_at program nodes) is ∙ parent.sides.low_box) way.part);
}

way_high : (program : Program) (nodes : List Node) (p column at low high node k : ℕ) (bounds : Bounds) → IsParent program nodes p column at low high node → IsOnWay program nodes k node bounds → (node ≡ low → ⊥)
    → IsOnWay program nodes k p (part_above bounds column at)
way_high program nodes p column at low high node k bounds parent way not_low = record {
  there = parent.there;
  part = part_above_next program (box_at program nodes p) bounds (box_at program nodes k) column at parent.is_box parent.sides.there parent.sides.above
      (subst (λ (b : Bounds). IsPart program b bounds (box_at program nodes k)) (ap (box_at program nodes) (parent.other not_low) ∙ parent.sides.high_box) way.part);
}

pub way_next : {program : Program} {nodes : List Node} {p column at low high node k : ℕ} {bounds next : Bounds} → IsParent program nodes p column at low high node → IsOnWay program nodes k node bounds
    → next ≡ (if node == low then part_below bounds column at else part_above bounds column at) → IsOnWay program nodes k p next
way_next {program} {nodes} {p} {column} {at} {low} {high} {node} {k} {bounds} {next} parent way is =
    let side : Bool → Bounds = λ b. if b then part_below bounds column at else part_above bounds column at in
    elim (eqb_tells node low) [
      | inl w ↦ subst (IsOnWay program nodes k p) (sym (is ∙ ap side w.0)) (way_low program nodes p column at low high node k bounds parent way w.1)
      | inr w ↦ subst (IsOnWay program nodes k p) (sym (is ∙ ap side w.0)) (way_high program nodes p column at low high node k bounds parent way w.1)
    ]

first_box : (program : Program) (nodes : List Node) → box_at program nodes 0 ≡ full_box_of program
first_box program [] = refl
first_box program (node ∷ nodes) = refl

pub way_last : {program : Program} {nodes now : List Node} {k node : ℕ} {bounds : Bounds} → nodes ≡ now → IsGrown program now → k < length now → node ≤ 0 → IsOnWay program nodes k node bounds → bounds ≡ box_at program now k
way_last {program} {nodes} {now} {k} {node} {bounds} same grown there past way =
    let end : node ≡ 0 = omega arith in
    let is_box = subst (λ (ns : List Node). IsBoxOf program (box_at program ns k)) (sym same) (grown.boxes k there) in
    part_last program bounds (box_at program nodes k) is_box (subst (λ (b : Bounds). IsPart program b bounds (box_at program nodes k)) (ap (box_at program nodes) end ∙ first_box program nodes) way.part)
    ∙ ap (λ (ns : List Node). box_at program ns k) same
