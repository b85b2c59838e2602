-- A leaf that becomes a split, seen in the nodes before a later node.
use Rattle.std.proofs.Common.{◌≡◌, ℕ, ◌+◌, ◌<◌, ◌≤◌, ◌++◌, ◌∙◌, ap, refl, arith, List, [], ◌∷◌, length, Option, Bool, true, false, ◌||◌, ◌==◌, if◌then◌else◌, inl, inr}
use Rattle.std.proofs.lemmas.Bool.{ne_eqb, eq-eqb}
use Rattle.std.proofs.lemmas.List.{length-append}
use Rattle.ip_model.specs.declared.parts.Bounds.{Bounds}
use Rattle.ip_model.specs.declared.point.Point.{Point}
use Rattle.ip_model.specs.declared.program.Program.{Program}
use Rattle.bound_certificate.specs.declared.multipliers.Multipliers.{Multipliers}
use Rattle.bound_certificate.specs.declared.tree.Node.{Node}
use Rattle.bound_certificate.specs.declared.tree.Node.TheVariants.{Split, Bound, Refute}
use Rattle.bound_certificate.specs.Trees.{low_side, high_side, box_of, is_named}
use Rattle.bound_certificate.proofs.Rules.{choose, either_named}

-- the nodes before a later node, where the leaf stands after the nodes `before`, and where its split stands there
abbrev pub with_leaf : List Node → Multipliers → List Node → List Node
with_leaf later y before = later ++ Bound y ∷ before

abbrev pub with_split : List Node → ℕ → ℕ → ℕ → Option Point → List Node → List Node
with_split later column at n shown before = later ++ Split column at n (n + 1) shown ∷ before

pub same_length : (later before : List Node) (y : Multipliers) (column at n : ℕ) (shown : Option Point) → length (with_split later column at n shown before) ≡ length (with_leaf later y before)
same_length later before y column at n shown = omega (arith, length-append later (Split column at n (n + 1) shown ∷ before), length-append later (Bound y ∷ before))

neither : (a b c : Bool) → a ≡ false → b ≡ false → (a || (b || c)) ≡ c
neither a b c p q = grind arith

-- no node but the two new ones is named anew
pub named_same : (later before : List Node) (y : Multipliers) (column at n k : ℕ) (shown : Option Point) → k < n → is_named (with_split later column at n shown before) k ≡ is_named (with_leaf later y before) k
named_same [] before y column at n k shown p = neither (n == k) (n + 1 == k) (is_named before k) (ne_eqb n k (λ e. omega arith)) (ne_eqb (n + 1) k (λ e. omega arith))
named_same (Split c a low high s ∷ later) before y column at n k shown p = ap (λ b. (low == k) || ((high == k) || b)) (named_same later before y column at n k shown p)
named_same (Bound z ∷ later) before y column at n k shown p = named_same later before y column at n k shown p
named_same (Refute z ∷ later) before y column at n k shown p = named_same later before y column at n k shown p

abbrev side_of : ℕ → ℕ → ℕ → ℕ → ℕ → Bounds → Bounds → Bounds
side_of low high k column at here other = if low == k then low_side here column at else (if high == k then high_side here column at else other)

-- the box of an old node stays
pub box_same : (program : Program) (later before : List Node) (y : Multipliers) (column at n k : ℕ) (shown : Option Point) → length (with_leaf later y before) ≤ n → k < n → box_of program (with_split later column at n shown before) k ≡ box_of program (with_leaf later y before) k
box_same program [] before y column at n k shown few p =
    (choose (n == k) (n + 1 == k) (low_side (box_of program before (length before)) column at) (high_side (box_of program before (length before)) column at) (box_of program before k)).2
    (ne_eqb n k (λ e. omega arith)) (ne_eqb (n + 1) k (λ e. omega arith))
box_same program (Split c a low high s ∷ later) before y column at n k shown few p =
    let size = same_length later before y column at n shown in
    let here = ap (box_of program (with_split later column at n shown before)) size ∙ box_same program later before y column at n (length (with_leaf later y before)) shown (omega arith) (omega arith) in
    let other = box_same program later before y column at n k shown (omega arith) p in
    ap (λ (b : Bounds). side_of low high k c a b (box_of program (with_split later column at n shown before) k)) here
    ∙ ap (side_of low high k c a (box_of program (with_leaf later y before) (length (with_leaf later y before)))) other
box_same program (Bound z ∷ later) before y column at n k shown few p = box_same program later before y column at n k shown (omega arith) p
box_same program (Refute z ∷ later) before y column at n k shown few p = box_same program later before y column at n k shown (omega arith) p

-- the two new nodes are named
pub low_named : (later before : List Node) (column at n : ℕ) (shown : Option Point) → is_named (with_split later column at n shown before) n ≡ true
low_named [] before column at n shown = either_named (n == n) (n + 1 == n) (is_named before n) (inl (eq-eqb n n refl))
low_named (Split c a low high s ∷ later) before column at n shown = either_named (low == n) (high == n) _ (inr (inr (low_named later before column at n shown)))
low_named (Bound z ∷ later) before column at n shown = low_named later before column at n shown
low_named (Refute z ∷ later) before column at n shown = low_named later before column at n shown

pub high_named : (later before : List Node) (column at n : ℕ) (shown : Option Point) → is_named (with_split later column at n shown before) (n + 1) ≡ true
high_named [] before column at n shown = either_named (n == n + 1) (n + 1 == n + 1) (is_named before (n + 1)) (inr (inl (eq-eqb (n + 1) (n + 1) refl)))
high_named (Split c a low high s ∷ later) before column at n shown = either_named (low == n + 1) (high == n + 1) _ (inr (inr (high_named later before column at n shown)))
high_named (Bound z ∷ later) before column at n shown = high_named later before column at n shown
high_named (Refute z ∷ later) before column at n shown = high_named later before column at n shown

none_named : (a b c : Bool) → (a || (b || c)) ≡ false → (a ≡ false) × (b ≡ false) × (c ≡ false)
none_named a b c h = grind arith

-- their boxes are the two sides of the split's box
pub low_box : (program : Program) (later before : List Node) (column at n : ℕ) (shown : Option Point) → is_named later n ≡ false
    → box_of program (with_split later column at n shown before) n ≡ low_side (box_of program before (length before)) column at
low_box program [] before column at n shown new =
    (choose (n == n) (n + 1 == n) (low_side (box_of program before (length before)) column at) (high_side (box_of program before (length before)) column at) (box_of program before n)).0 (eq-eqb n n refl)
low_box program (Split c a low high s ∷ later) before column at n shown new =
    let parts = none_named (low == n) (high == n) (is_named later n) new in
    let all = with_split later column at n shown before in
    (choose (low == n) (high == n) (low_side (box_of program all (length all)) c a) (high_side (box_of program all (length all)) c a) (box_of program all n)).2 parts.0 parts.1
    ∙ low_box program later before column at n shown parts.2
low_box program (Bound z ∷ later) before column at n shown new = low_box program later before column at n shown new
low_box program (Refute z ∷ later) before column at n shown new = low_box program later before column at n shown new

pub high_box : (program : Program) (later before : List Node) (column at n : ℕ) (shown : Option Point) → is_named later (n + 1) ≡ false
    → box_of program (with_split later column at n shown before) (n + 1) ≡ high_side (box_of program before (length before)) column at
high_box program [] before column at n shown new =
    (choose (n == n + 1) (n + 1 == n + 1) (low_side (box_of program before (length before)) column at) (high_side (box_of program before (length before)) column at) (box_of program before (n + 1))).1
    (ne_eqb n (n + 1) (λ e. omega arith)) (eq-eqb (n + 1) (n + 1) refl)
high_box program (Split c a low high s ∷ later) before column at n shown new =
    let parts = none_named (low == n + 1) (high == n + 1) (is_named later (n + 1)) new in
    let all = with_split later column at n shown before in
    (choose (low == n + 1) (high == n + 1) (low_side (box_of program all (length all)) c a) (high_side (box_of program all (length all)) c a) (box_of program all (n + 1))).2 parts.0 parts.1
    ∙ high_box program later before column at n shown parts.2
high_box program (Bound z ∷ later) before column at n shown new = high_box program later before column at n shown new
high_box program (Refute z ∷ later) before column at n shown new = high_box program later before column at n shown new
