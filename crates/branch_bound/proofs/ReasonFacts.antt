-- What splits and leaves know of their boxes.
use Rattle.std.proofs.Common.{◌≡◌, ℕ, zero, suc, ◌+◌, ◌-◌, ◌*◌, ◌/◌, ◌<◌, ◌≤◌, ◌⊎◌, sym, refl, subst, arith, List, [], ◌∷◌, length, slice_get, slice_index, Option, Some, None, inl, inr}
use Rattle.std.proofs.lemmas.Bool.{cases_lt}
use Rattle.std.proofs.Math.Nat.{mul-le-mul_left, mul_comm}
use Rattle.std.proofs.lemmas.Nat.{div-add-mod'}
use Rattle.ip_model.specs.declared.parts.Bounds.{Bounds}
use Rattle.ip_model.specs.declared.point.Point.{Point}
use Rattle.ip_model.specs.declared.program.Program.{Program}
use Rattle.ip_model.specs.Points.{numerator, value_of, value_over, value_up_of, IsPointOf, IsWholePointIn}
use Rattle.ip_model.proofs.RuleFacts.{point_range}
use Rattle.bound_certificate.specs.declared.tree.Node.{Node}
use Rattle.bound_certificate.specs.declared.tree.Node.TheVariants.{Split, Bound, Refute}
use Rattle.bound_certificate.specs.Bound.{leaf_bound}
use Rattle.bound_certificate.specs.Shown.{AreShown, IsShown, Shows}
use Rattle.bound_certificate.specs.Trees.{box_of}
use Rattle.exact_simplex.specs.Reasons.{AreKnown, AreReasoned, HasFractionWithin, HasPointWithin, IsKnown, IsReasoned, IsTight, IsUndecided, LiesBetween}
use Rattle.search_tree.specs.Boxes.{box_at, with_boxes}
use Rattle.search_tree.specs.Growth.{IsLeafOf}
use Rattle.search_tree.proofs.Placed.{placed_is}
use Rattle.branch_bound.specs.declared.found.Best.{Best}
use Rattle.branch_bound.specs.declared.leaf.Cut.{Cut}
use Rattle.branch_bound.specs.declared.leaf.OpenLeaf.{OpenLeaf}
use Rattle.branch_bound.specs.Openings.{CanCut, HasWithin, IsCutOf, IsKept, ShowsWhy}

-- ---- points of the relaxation

up_covers : (value den up : ℕ) → 1 ≤ den → up ≡ (value + (den - 1)) / den → value ≤ den * up
up_covers value den up some is =
    let whole = div-add-mod' (value + (den - 1)) den in
    let same : up * den ≡ (value + (den - 1)) / den * den = rw is refl in
    omega (arith, whole, same, mul_comm up den)

value_within : (program : Program) (point : Point) (bound : ℕ) → value_up_of program point ≤ bound → value_over program point.den (numerator point) ≤ point.den * bound
value_within program point bound under =
    let covered = up_covers (value_over program point.den (numerator point)) point.den (value_up_of program point) (point_range point).den_above_none refl in
    let more = mul-le-mul_left point.den under in
    omega arith

pub point_within : (program : Program) (box : Bounds) (point : Point) (bound : ℕ) → IsPointOf program box point → value_up_of program point ≤ bound → HasPointWithin program box bound
point_within program box point bound lies under =
    record { den = point.den; x = numerator point; some = (point_range point).den_above_none; lies = lies.is_point; within = value_within program point bound under }

-- the value of a whole point in the box is the value of a point of the relaxation
pub whole_within_bound : (program : Program) (box : Bounds) (point : List ℕ) (bound : ℕ) → IsWholePointIn program box point → value_of program point ≤ bound → HasPointWithin program box bound
whole_within_bound program box point bound whole under = record { den = 1; x = slice_index point; some = omega arith; lies = whole.is_point; within = omega arith }

between_apart : (den at x m : ℕ) → den * at < x → x < den * (at + 1) → x ≡ den * m → ⊥
between_apart den at x m above below is = elim (cases_lt at m) [
  | inl more ↦ let over = mul-le-mul_left {m = at + 1} {n = m} den (omega arith) in omega arith
  | inr less ↦ let under = mul-le-mul_left {m = m} {n = at} den less in omega arith
]

fraction_within : (program : Program) (box : Bounds) (cut : Cut) (bound : ℕ) (point : Point) → CanCut program box cut → Shows program box cut.column cut.at bound point → HasFractionWithin program box bound
fraction_within program box cut bound point can shows = record {
  den = point.den;
  x = numerator point;
  some = (point_range point).den_above_none;
  lies = shows.lies.is_point;
  within = value_within program point bound shows.value;
  column = cut.column;
  there = can.there;
  count = can.count;
  apart = λ m. between_apart point.den cut.at (numerator point cut.column) m shows.above shows.below;
}

-- ---- a leaf that can be split, or has a point

why_tight : (program : Program) (box : Bounds) (column at bound : ℕ) (shown : Option Point) → ShowsWhy program box column at bound shown → IsTight program box bound
why_tight program box column at bound (Some point) h = inr (point_within program box point bound h.lies h.value)
why_tight program box column at bound None h = inl h

why_undecided : (program : Program) (box : Bounds) (cut : Cut) (bound : ℕ) (shown : Option Point) → CanCut program box cut → ShowsWhy program box cut.column cut.at bound shown → IsUndecided program box bound
why_undecided program box cut bound (Some point) can h = inr (fraction_within program box cut bound point can h)
why_undecided program box cut bound None can h = inl (h, record { column = cut.column; there = can.there; count = can.count; free = let a = can.above in let b = can.below in omega arith })

cut_tight : (program : Program) (best : Option Best) (box : Bounds) (bound : ℕ) (cut : Option Cut) → IsCutOf program best box bound cut → IsTight program box bound
cut_tight program best box bound (Some cut) h = why_tight program box cut.column cut.at bound cut.shown h.1
cut_tight program best box bound None h = inr h.0

cut_decided : (program : Program) (best : Option Best) (box : Bounds) (bound : ℕ) (cut : Option Cut) → IsCutOf program best box bound cut → IsUndecided program box bound ⊎ HasWithin best bound
cut_decided program best box bound (Some cut) h = inl (why_undecided program box cut bound cut.shown h.0 h.1)
cut_decided program best box bound None h = inr h.1

-- what tells why a leaf is split tells it with a greater bound too
why_rises : (program : Program) (box : Bounds) (column at bound more : ℕ) (shown : Option Point) → bound ≤ more → ShowsWhy program box column at bound shown → ShowsWhy program box column at more shown
why_rises program box column at bound more (Some point) up h = record { lies = h.lies; above = h.above; below = h.below; value = let under = h.value in omega arith }
why_rises program box column at bound more None up h = h

within_rises : (best : Option Best) (bound more : ℕ) → bound ≤ more → HasWithin best bound → HasWithin best more
within_rises (Some best) bound more up h = omega arith
within_rises None bound more up h = h

pub cut_rises : (program : Program) (best : Option Best) (box : Bounds) (bound more : ℕ) (cut : Option Cut) → bound ≤ more → IsCutOf program best box bound cut → IsCutOf program best box more cut
cut_rises program best box bound more (Some cut) up h = (h.0, why_rises program box cut.column cut.at bound more cut.shown up h.1)
cut_rises program best box bound more None up h =
    let found = h.0 in
    let over = mul-le-mul_left found.den up in
    let under = found.within in
    (record { den = found.den; x = found.x; some = found.some; lies = found.lies; within = omega arith }, within_rises best bound more up h.1)

-- ---- nodes

-- a split with what tells why it was made
pub reasoned_split : (program : Program) (box : Bounds) (column at low high bound : ℕ) (shown : Option Point) → ShowsWhy program box column at bound shown → IsReasoned program box (Split column at low high shown)
reasoned_split program box column at low high bound (Some point) h = record { lies = h.lies; above = h.above; below = h.below }
reasoned_split program box column at low high bound None h = h

-- a leaf that is kept so is tight, and undecided or a whole point within its bound is known
pub kept_reasoned : (program : Program) (best : Option Best) (box : Bounds) (node : Node) (leaf : Option OpenLeaf) → IsKept program best box node leaf → IsLeafOf program box node → IsReasoned program box node
kept_reasoned program best box (Split column at low high shown) leaf h is = absurd is
kept_reasoned program best box (Bound y) (Some leaf) h is = subst (λ (b : ℕ). IsTight program box b) h.bound_is (cut_tight program best box leaf.bound leaf.cut h.cut)
kept_reasoned program best box (Bound y) None h is = absurd h
kept_reasoned program best box (Refute y) leaf h is = tt

pub kept_known : (program : Program) (best : Option Best) (box : Bounds) (node : Node) (leaf : Option OpenLeaf) → IsKept program best box node leaf → IsKnown program (HasWithin best) box node
kept_known program best box (Split column at low high shown) leaf h = tt
kept_known program best box (Bound y) (Some leaf) h = subst (λ (b : ℕ). IsUndecided program box b ⊎ HasWithin best b) h.bound_is (cut_decided program best box leaf.bound leaf.cut h.cut)
kept_known program best box (Bound y) None h = absurd h
kept_known program best box (Refute y) leaf h = tt

-- ---- along the nodes

-- what is made from the end on, of a fact of each node in its box
walk_in : (program : Program) (P : Bounds → Node → Type 0) (Q : List Node → List Node → Type 0) → ((earlier : List Node) → Q earlier [])
    → ((earlier : List Node) (node : Node) (nodes : List Node) → P (box_of program earlier (length earlier)) node → Q (node ∷ earlier) nodes → Q earlier (node ∷ nodes))
    → (earlier nodes : List Node) → ((k : ℕ) (box : Bounds) (node : Node) → slice_get (with_boxes program earlier nodes) k ≡ Some (box, node) → P box node) → Q earlier nodes
walk_in program P Q end more earlier [] h = end earlier
walk_in program P Q end more earlier (node ∷ nodes) h = more earlier node nodes (h 0 (box_of program earlier (length earlier)) node refl) (walk_in program P Q end more (node ∷ earlier) nodes (λ k. h (suc k)))

walked : (program : Program) (P : Bounds → Node → Type 0) (Q : List Node → List Node → Type 0) → ((earlier : List Node) → Q earlier [])
    → ((earlier : List Node) (node : Node) (nodes : List Node) → P (box_of program earlier (length earlier)) node → Q (node ∷ earlier) nodes → Q earlier (node ∷ nodes))
    → (nodes : List Node) → ((k : ℕ) (node : Node) → slice_get nodes k ≡ Some node → P (box_at program nodes k) node) → Q [] nodes
walked program P Q end more nodes h = walk_in program P Q end more [] nodes (λ k box node is.
    let there = placed_is program nodes k box node is in
    subst (λ (b : Bounds). P b node) (sym there.1) (h k node there.0))

pub shown_walk : (program : Program) (lower : ℕ) (nodes : List Node) → ((k : ℕ) (node : Node) → slice_get nodes k ≡ Some node → IsShown program lower (box_at program nodes k) node) → AreShown program lower [] nodes
shown_walk program lower nodes h = walked program (IsShown program lower) (AreShown program lower) (λ earlier. tt) (λ earlier node rest first more. (first, more)) nodes h

pub reasoned_walk : (program : Program) (nodes : List Node) → ((k : ℕ) (node : Node) → slice_get nodes k ≡ Some node → IsReasoned program (box_at program nodes k) node) → AreReasoned program [] nodes
reasoned_walk program nodes h = walked program (IsReasoned program) (AreReasoned program) (λ earlier. tt) (λ earlier node rest first more. (first, more)) nodes h

pub known_walk : (program : Program) (within : ℕ → Type 0) (nodes : List Node) → ((k : ℕ) (node : Node) → slice_get nodes k ≡ Some node → IsKnown program within (box_at program nodes k) node) → AreKnown program within [] nodes
known_walk program within nodes h = walked program (IsKnown program within) (AreKnown program within) (λ earlier. tt) (λ earlier node rest first more. (first, more)) nodes h
