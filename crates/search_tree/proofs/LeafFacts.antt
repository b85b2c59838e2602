-- A tree's bound is the least of its leaves' bounds, and shown points are shown node by node.
use Rattle.std.proofs.Common.{◌≡◌, ℕ, zero, suc, ◌≤◌, ◌∙◌, ap, sym, refl, subst, arith, List, [], ◌∷◌, length, slice_get, Option, Some, min, inl, inr}
use Rattle.std.proofs.lemmas.Bool.{cases_lt}
use Rattle.std.proofs.lemmas.Option.{some_pair_parts}
use Rattle.ip_model.specs.declared.point.Point.{Point}
use Rattle.ip_model.specs.declared.parts.Bounds.{Bounds}
use Rattle.ip_model.specs.declared.program.Program.{Program}
use Rattle.bound_certificate.specs.declared.multipliers.Multipliers.{Multipliers}
use Rattle.bound_certificate.specs.declared.tree.Node.{Node}
use Rattle.bound_certificate.specs.declared.tree.Node.TheVariants.{Split, Bound, Refute}
use Rattle.bound_certificate.specs.declared.tree.Least.{Least}
use Rattle.bound_certificate.specs.declared.tree.Least.TheVariants.{At, AllRefuted}
use Rattle.bound_certificate.specs.Bound.{leaf_bound}
use Rattle.bound_certificate.specs.Shown.{IsShown, AreShown}
use Rattle.bound_certificate.specs.Trees.{box_of, lesser_of, least_bound, bound_of_tree}
use Rattle.search_tree.specs.Boxes.{box_at, with_boxes}
use Rattle.search_tree.specs.Leaves.{IsLeafAt, IsLeast}
use Rattle.search_tree.proofs.Placed.{placed_at, placed_is}

-- ---- over nodes with their boxes

-- a leaf with its bound
record LeafIn (program : Program) (placed : List (Bounds × Node)) (k bound : ℕ) : Type 0 where
  box : Bounds
  y : Multipliers
  leaf : slice_get placed k ≡ Some (box, Bound y)
  is : bound ≡ leaf_bound program box y

record LeastIn (program : Program) (placed : List (Bounds × Node)) (bound : ℕ) : Type 0 where
  k : ℕ
  leaf : LeafIn program placed k bound
  least : (j other : ℕ) → LeafIn program placed j other → bound ≤ other

abbrev IsLeastIn : Program → List (Bounds × Node) → Least → Type 0
IsLeastIn program placed (At bound) = LeastIn program placed bound
IsLeastIn program placed AllRefuted = (k bound : ℕ) → LeafIn program placed k bound → ⊥

later_leaf : (program : Program) (p : Bounds × Node) (placed : List (Bounds × Node)) (k bound : ℕ) → LeafIn program placed k bound → LeafIn program (p ∷ placed) (suc k) bound
later_leaf program p placed k bound l = record { box = l.box; y = l.y; leaf = l.leaf; is = l.is }

of_later : (program : Program) (p : Bounds × Node) (placed : List (Bounds × Node)) (k bound : ℕ) → LeafIn program (p ∷ placed) (suc k) bound → LeafIn program placed k bound
of_later program p placed k bound l = record { box = l.box; y = l.y; leaf = l.leaf; is = l.is }

not_first : (program : Program) (p : Bounds × Node) (placed : List (Bounds × Node)) (bound : ℕ) → ((bound : ℕ) → LeafIn program (p ∷ placed) 0 bound → ⊥) → ((j other : ℕ) → LeafIn program placed j other → bound ≤ other)
    → (j other : ℕ) → LeafIn program (p ∷ placed) j other → bound ≤ other
not_first program p placed bound none least zero other l = absurd (none other l)
not_first program p placed bound none least (suc j) other l = least j other (of_later program p placed j other l)

nor_later : (program : Program) (p : Bounds × Node) (placed : List (Bounds × Node)) → ((bound : ℕ) → LeafIn program (p ∷ placed) 0 bound → ⊥) → ((k bound : ℕ) → LeafIn program placed k bound → ⊥)
    → (k bound : ℕ) → LeafIn program (p ∷ placed) k bound → ⊥
nor_later program p placed none h zero bound l = none bound l
nor_later program p placed none h (suc k) bound l = h k bound (of_later program p placed k bound l)

-- a first node that is no such leaf adds nothing
skip_node : (program : Program) (p : Bounds × Node) (placed : List (Bounds × Node)) (later : Least) → ((bound : ℕ) → LeafIn program (p ∷ placed) 0 bound → ⊥) → IsLeastIn program placed later → IsLeastIn program (p ∷ placed) later
skip_node program p placed (At bound) none h = record { k = suc h.k; leaf = later_leaf program p placed h.k bound h.leaf; least = not_first program p placed bound none h.least }
skip_node program p placed AllRefuted none h = nor_later program p placed none h

same_leaf : (box b : Bounds) (y z : Multipliers) → ◌≡◌ {A = Option (Bounds × Node)} (Some (box, Bound y)) (Some (b, Bound z)) → (program : Program) → leaf_bound program box y ≡ leaf_bound program b z
same_leaf box b y z is program =
    let parts = some_pair_parts box b (Bound y) (Bound z) is in
    let same : y ≡ z = let e = parts.1 in cc in
    ap (λ (c : Bounds). leaf_bound program c y) parts.0 ∙ ap (leaf_bound program b) same

no_split : (box b : Bounds) (z : Multipliers) (column at low high : ℕ) (shown : Option Point) → ◌≡◌ {A = Option (Bounds × Node)} (Some (box, Split column at low high shown)) (Some (b, Bound z)) → ⊥
no_split box b z column at low high shown is = let e = (some_pair_parts box b (Split column at low high shown) (Bound z) is).1 in cc

no_refute : (box b : Bounds) (y z : Multipliers) → ◌≡◌ {A = Option (Bounds × Node)} (Some (box, Refute y)) (Some (b, Bound z)) → ⊥
no_refute box b y z is = let e = (some_pair_parts box b (Refute y) (Bound z) is).1 in cc

first_leaf : (program : Program) (box : Bounds) (y : Multipliers) (placed : List (Bounds × Node)) → LeafIn program ((box, Bound y) ∷ placed) 0 (leaf_bound program box y)
first_leaf program box y placed = record { box = box; y = y; leaf = refl; is = refl }

under_all : (program : Program) (box : Bounds) (y : Multipliers) (placed : List (Bounds × Node)) (bound : ℕ) → bound ≤ leaf_bound program box y → ((j other : ℕ) → LeafIn program placed j other → bound ≤ other)
    → (j other : ℕ) → LeafIn program ((box, Bound y) ∷ placed) j other → bound ≤ other
under_all program box y placed bound here rest zero other l = let same = same_leaf box l.box y l.y l.leaf program in omega (arith, l.is)
under_all program box y placed bound here rest (suc j) other l = rest j other (of_later program (box, Bound y) placed j other l)

with_leaf_first : (program : Program) (box : Bounds) (y : Multipliers) (placed : List (Bounds × Node)) (later : Least) → IsLeastIn program placed later → IsLeastIn program ((box, Bound y) ∷ placed) (lesser_of (At (leaf_bound program box y)) later)
with_leaf_first program box y placed (At bound) h = elim (cases_lt bound (leaf_bound program box y)) [
  | inl below ↦
      let is : min (leaf_bound program box y) bound ≡ bound = omega arith in
      subst (λ (b : ℕ). LeastIn program ((box, Bound y) ∷ placed) b) (sym is)
      (record { k = suc h.k; leaf = later_leaf program (box, Bound y) placed h.k bound h.leaf; least = under_all program box y placed bound (omega arith) h.least })
  | inr above ↦
      let is : min (leaf_bound program box y) bound ≡ leaf_bound program box y = omega arith in
      subst (λ (b : ℕ). LeastIn program ((box, Bound y) ∷ placed) b) (sym is)
      (record { k = 0; leaf = first_leaf program box y placed; least = under_all program box y placed (leaf_bound program box y) (omega arith) (λ j other l. let p = h.least j other l in omega arith) })
]
with_leaf_first program box y placed AllRefuted h =
    record { k = 0; leaf = first_leaf program box y placed; least = under_all program box y placed (leaf_bound program box y) (omega arith) (λ j other l. absurd (h j other l)) }

least_in : (program : Program) (earlier nodes : List Node) → IsLeastIn program (with_boxes program earlier nodes) (least_bound program earlier nodes)
least_in program earlier [] = λ k bound l. let e = l.leaf in cc
least_in program earlier (Split column at low high shown ∷ nodes) =
    skip_node program (box_of program earlier (length earlier), Split column at low high shown) (with_boxes program (Split column at low high shown ∷ earlier) nodes) (least_bound program (Split column at low high shown ∷ earlier) nodes)
    (λ bound l. no_split _ l.box l.y column at low high shown l.leaf) (least_in program (Split column at low high shown ∷ earlier) nodes)
least_in program earlier (Bound y ∷ nodes) = with_leaf_first program (box_of program earlier (length earlier)) y _ _ (least_in program (Bound y ∷ earlier) nodes)
least_in program earlier (Refute y ∷ nodes) =
    skip_node program (box_of program earlier (length earlier), Refute y) (with_boxes program (Refute y ∷ earlier) nodes) (least_bound program (Refute y ∷ earlier) nodes)
    (λ bound l. no_refute _ l.box y l.y l.leaf) (least_in program (Refute y ∷ earlier) nodes)

-- ---- over the nodes of a tree

leaf_in : (program : Program) (nodes : List Node) (k bound : ℕ) → IsLeafAt program nodes k bound → LeafIn program (with_boxes program [] nodes) k bound
leaf_in program nodes k bound l = record { box = box_at program nodes k; y = l.y; leaf = placed_at program nodes k (Bound l.y) l.leaf; is = l.is }

leaf_of : (program : Program) (nodes : List Node) (k bound : ℕ) → LeafIn program (with_boxes program [] nodes) k bound → IsLeafAt program nodes k bound
leaf_of program nodes k bound l =
    let there = placed_is program nodes k l.box (Bound l.y) l.leaf in
    record { y = l.y; leaf = there.0; is = l.is ∙ ap (λ (b : Bounds). leaf_bound program b l.y) there.1 }

least_of : (program : Program) (nodes : List Node) (least : Least) → IsLeastIn program (with_boxes program [] nodes) least → IsLeast program nodes least
least_of program nodes (At bound) h = record { k = h.k; leaf = leaf_of program nodes h.k bound h.leaf; least = λ j other l. h.least j other (leaf_in program nodes j other l) }
least_of program nodes AllRefuted h = λ k bound l. h k bound (leaf_in program nodes k bound l)

-- the tree's bound is the least of the leaves' bounds
pub bound_is_least : (program : Program) (nodes : List Node) → IsLeast program nodes (bound_of_tree program nodes)
bound_is_least program nodes = least_of program nodes (bound_of_tree program nodes) (least_in program [] nodes)

only_least : (program : Program) (nodes : List Node) (a b : Least) → IsLeast program nodes a → IsLeast program nodes b → a ≡ b
only_least program nodes (At m) (At n) p q = let here = p.least q.k n q.leaf in let there = q.least p.k m p.leaf in ap (λ (k : ℕ). At k) (omega arith)
only_least program nodes (At m) AllRefuted p q = absurd (q p.k m p.leaf)
only_least program nodes AllRefuted (At n) p q = absurd (p q.k n q.leaf)
only_least program nodes AllRefuted AllRefuted p q = refl

-- and nothing else is
pub least_is_bound : (program : Program) (nodes : List Node) (least : Least) → IsLeast program nodes least → bound_of_tree program nodes ≡ least
least_is_bound program nodes least is = only_least program nodes _ _ (bound_is_least program nodes) is

shown_in : (program : Program) (lower : ℕ) (earlier nodes : List Node) → ((k : ℕ) (box : Bounds) (node : Node) → slice_get (with_boxes program earlier nodes) k ≡ Some (box, node) → IsShown program lower box node) → AreShown program lower earlier nodes
shown_in program lower earlier [] h = tt
shown_in program lower earlier (node ∷ nodes) h = (h 0 (box_of program earlier (length earlier)) node refl, shown_in program lower (node ∷ earlier) nodes (λ k. h (suc k)))

-- the shown points are shown where each node's is, in its box
pub shown_each : (program : Program) (lower : ℕ) (nodes : List Node) → ((k : ℕ) (node : Node) → slice_get nodes k ≡ Some node → IsShown program lower (box_at program nodes k) node) → AreShown program lower [] nodes
shown_each program lower nodes h = shown_in program lower [] nodes (λ k box node is.
    let there = placed_is program nodes k box node is in
    subst (λ (b : Bounds). IsShown program lower b node) (sym there.1) (h k node there.0))
