-- A tree that breaks no rule breaks none after a leaf became a split.
use Rattle.std.proofs.Common.{◌≡◌, ℕ, suc, reverse, ◌+◌, ◌<◌, ◌≤◌, ◌++◌, ◌∙◌, ap, sym, refl, subst, arith, List, [], ◌∷◌, length, slice_index, Option, Some, None, Bool, true, false, not, ◌&&◌, ◌||◌, ◌==◌, if◌then◌else◌, nat_le, nat_lt, inl, inr, ◌⊎◌}
use Rattle.std.proofs.lemmas.Int.{ints}
use Rattle.std.proofs.lemmas.Bool.{ne_eqb, cases_Bool, false_from_ne_true}
use mathlib.Core.List.{reverse_aux}
use Rattle.std.proofs.lemmas.List.{length-reverse}
use Rattle.std.proofs.lemmas.List.Sums.{list_all-from_AllPass}
use Rattle.ip_model.specs.declared.parts.Bounds.{Bounds}
use Rattle.ip_model.specs.declared.point.Point.{Point}
use Rattle.ip_model.specs.declared.program.Program.{Program}
use Rattle.bound_certificate.specs.declared.multipliers.Multipliers.{Multipliers}
use Rattle.bound_certificate.specs.declared.tree.Node.{Node}
use Rattle.bound_certificate.specs.declared.tree.Node.TheVariants.{Split, Bound, Refute}
use Rattle.bound_certificate.specs.declared.tree.TreeWhy.{TreeWhy}
use Rattle.bound_certificate.specs.declared.tree.TreeWhy.TheVariants as why
use Rattle.bound_certificate.specs.Bound.{RowsInRange, Refutes}
use Rattle.bound_certificate.specs.Trees.{low_side, high_side, box_of, is_named, child_fits, rows_fit, broken_split, broken_rule, fault_of, sooner_fault, first_fault}
use Rattle.bound_certificate.proofs.Rules.{none_of_sooner, Child, Rightly, split_rules, own_rules}
use Rattle.search_tree.specs.Growth.{IsLeafOf}
use Rattle.search_tree.proofs.Walks.{with_leaf, with_split, same_length, named_same, box_same, low_named, high_named, low_box, high_box}

-- ---- what breaks no rule

nat_lt-from : (m n : ℕ) → m < n → nat_lt m n ≡ true
nat_lt-from m n h = grind arith

nat_le-from : (m n : ℕ) → m ≤ n → nat_le m n ≡ true
nat_le-from m n h = grind arith

nat_le-not : (m n : ℕ) → n < m → nat_le m n ≡ false
nat_le-not m n h = grind arith

three_none : (a b c : Bool) (x y z : TreeWhy) → a ≡ false → b ≡ false → c ≡ false → (if a then Some x else (if b then Some y else (if c then Some z else None))) ≡ None
three_none a b c x y z p q r = grind arith

not_both : (a b : Bool) → a ≡ true → b ≡ true → not (a && b) ≡ false
not_both a b p q = grind arith

not_all : (a b c : Bool) → a ≡ true → b ≡ true → c ≡ false → not (a && (b && not c)) ≡ false
not_all a b c p q r = grind arith

all_fits : (a b c : Bool) → a ≡ true → b ≡ true → c ≡ false → (a && (b && not c)) ≡ true
all_fits a b c p q r = grind arith

child_right : (count : ℕ) (earlier : List Node) (child : ℕ) → Child count earlier child → child_fits count earlier child ≡ true
child_right count earlier child c = all_fits (nat_lt (length earlier) child) (nat_lt child count) (is_named earlier child) (nat_lt-from _ _ c.later) (nat_lt-from _ _ c.there) c.unnamed

split_right : (program : Program) (count : ℕ) (earlier : List Node) (box : Bounds) (column at low high : ℕ) → Rightly program count earlier box column at low high → broken_split program count earlier box column at low high ≡ None
split_right program count earlier box column at low high r =
    three_none (nat_le (length program.columns) column) _ _ why.Column why.At why.Child
    (nat_le-not (length program.columns) column r.there)
    (not_both (nat_le (slice_index box.low column) at) (nat_lt at (slice_index box.high column)) (nat_le-from _ _ r.above) (nat_lt-from _ _ r.below))
    (not_all (child_fits count earlier low) (child_fits count earlier high) (low == high) (child_right count earlier low r.low_child) (child_right count earlier high r.high_child) (ne_eqb low high r.apart))

rows_right : (program : Program) (y : Multipliers) → RowsInRange program y → rows_fit program y ≡ true
rows_right program y h = list_all-from_AllPass _ y.tops (λ k d p. nat_lt-from _ _ (h k d p))

pub leaf_right : (program : Program) (count : ℕ) (earlier : List Node) (box : Bounds) (node : Node) → IsLeafOf program box node → broken_rule program count earlier box node ≡ None
leaf_right program count earlier box (Split column at low high shown) h = absurd h
leaf_right program count earlier box (Bound y) h = rw (rows_right program y h) refl
leaf_right program count earlier box (Refute y) h = let there = rows_right program y h.0 in let refutes : Refutes program box y = h.1 in grind (arith, ints)

first_none : (a : Bool) (rule : TreeWhy) (rest : Option TreeWhy) → (if a then Some rule else rest) ≡ None → a ≡ false
first_none a rule rest h = grind arith

neither_breaks : (a : Bool) (rule : TreeWhy) (rest : Option TreeWhy) → a ≡ false → rest ≡ None → (if a then Some rule else rest) ≡ None
neither_breaks a rule rest p q = grind arith

-- a node that is named and whose own rules hold breaks none
pub named_right : (program : Program) (count : ℕ) (earlier : List Node) (node : Node) → (0 < length earlier → is_named earlier (length earlier) ≡ true) → broken_rule program count earlier (box_of program earlier (length earlier)) node ≡ None
    → fault_of program count earlier node ≡ None
named_right program count earlier node named own = neither_breaks (nat_lt 0 (length earlier) && not (is_named earlier (length earlier))) why.Orphan _ (grind arith) own

named_of_right : (program : Program) (count : ℕ) (earlier : List Node) (node : Node) → fault_of program count earlier node ≡ None → 0 < length earlier → is_named earlier (length earlier) ≡ true
named_of_right program count earlier node h some =
    let test = first_none (nat_lt 0 (length earlier) && not (is_named earlier (length earlier))) why.Orphan _ h in grind arith

pub no_sooner : (i : ℕ) (here : Option TreeWhy) (later : Option (ℕ × TreeWhy)) → here ≡ None → later ≡ None → sooner_fault i here later ≡ None
no_sooner i here later p q = rw p q

-- ---- names are below the number of nodes

abbrev pub NamesBelow : ℕ → List Node → Type 0
NamesBelow count earlier = (k : ℕ) → is_named earlier k ≡ true → k < count

named_cases : (low high k : ℕ) (c : Bool) → ((low == k) || ((high == k) || c)) ≡ true → c ≡ false → (low ≡ k) ⊎ (high ≡ k)
named_cases low high k c h none = grind arith

pub names_next : (program : Program) (count : ℕ) (earlier : List Node) (node : Node) → fault_of program count earlier node ≡ None → NamesBelow count earlier → NamesBelow count (node ∷ earlier)
names_next program count earlier (Split column at low high shown) right below k named =
    let rules = split_rules program count earlier (box_of program earlier (length earlier)) column at low high (own_rules program count earlier (Split column at low high shown) right) in
    elim (cases_Bool (is_named earlier k)) [
      | inl old ↦ below k old
      | inr new ↦ elim (named_cases low high k (is_named earlier k) named new) [ inl e ↦ subst (λ (j : ℕ). j < count) e rules.low_child.there | inr e ↦ subst (λ (j : ℕ). j < count) e rules.high_child.there ]
    ]
names_next program count earlier (Bound y) right below k named = below k named
names_next program count earlier (Refute y) right below k named = below k named

pub not_named : (count : ℕ) (earlier : List Node) (k : ℕ) → NamesBelow count earlier → count ≤ k → is_named earlier k ≡ false
not_named count earlier k below past = false_from_ne_true (is_named earlier k) (λ named. let p = below k named in omega arith)

named_parts : (low high k : ℕ) (c : Bool) → ((low == k) || ((high == k) || c)) ≡ false → ((low == k) ≡ false) × ((high == k) ≡ false)
named_parts low high k c h = grind arith

neither_of : (a b c : Bool) → a ≡ false → b ≡ false → c ≡ false → (a || (b || c)) ≡ false
neither_of a b c p q r = grind arith

or_right : (a b c : Bool) → (a || (b || c)) ≡ false → c ≡ false
or_right a b c h = grind arith

-- what no node names, no later one does
pub earlier_unnamed : (later before : List Node) (y : Multipliers) (k : ℕ) → is_named (with_leaf later y before) k ≡ false → is_named later k ≡ false
earlier_unnamed [] before y k h = refl
earlier_unnamed (Split c a low high s ∷ later) before y k h = let parts = named_parts low high k (is_named (with_leaf later y before) k) h in neither_of (low == k) (high == k) (is_named later k) parts.0 parts.1 (earlier_unnamed later before y k (or_right (low == k) (high == k) _ h))
earlier_unnamed (Bound z ∷ later) before y k h = earlier_unnamed later before y k h
earlier_unnamed (Refute z ∷ later) before y k h = earlier_unnamed later before y k h

-- ---- a node before, at and after the leaf

-- with more nodes to come
child_more : (count : ℕ) (earlier : List Node) (child : ℕ) → Child count earlier child → Child (count + 2) earlier child
child_more count earlier child c = record { later = c.later; there = let p = c.there in omega arith; unnamed = c.unnamed }

broken_more : (program : Program) (count : ℕ) (earlier : List Node) (box : Bounds) (node : Node) → broken_rule program count earlier box node ≡ None → broken_rule program (count + 2) earlier box node ≡ None
broken_more program count earlier box (Split column at low high shown) h =
    let r = split_rules program count earlier box column at low high h in
    split_right program (count + 2) earlier box column at low high
    (record { there = r.there; above = r.above; below = r.below; low_child = child_more count earlier low r.low_child; high_child = child_more count earlier high r.high_child; apart = r.apart })
broken_more program count earlier box (Bound y) h = h
broken_more program count earlier box (Refute y) h = h

fault_more : (program : Program) (count : ℕ) (earlier : List Node) (node : Node) → fault_of program count earlier node ≡ None → fault_of program (count + 2) earlier node ≡ None
fault_more program count earlier node h = named_right program (count + 2) earlier node (named_of_right program count earlier node h) (broken_more program count earlier _ node (own_rules program count earlier node h))

child_after : (later before : List Node) (y : Multipliers) (column at n child : ℕ) (shown : Option Point) → Child n (with_leaf later y before) child → Child (n + 2) (with_split later column at n shown before) child
child_after later before y column at n child shown c = record {
  later = let p = c.later in omega (arith, same_length later before y column at n shown);
  there = let p = c.there in omega arith;
  unnamed = named_same later before y column at n child shown c.there ∙ c.unnamed;
}

broken_after : (program : Program) (later before : List Node) (y : Multipliers) (column at n : ℕ) (shown : Option Point) (box : Bounds) (node : Node) → broken_rule program n (with_leaf later y before) box node ≡ None
    → broken_rule program (n + 2) (with_split later column at n shown before) box node ≡ None
broken_after program later before y column at n shown box (Split c a low high s) h =
    let r = split_rules program n (with_leaf later y before) box c a low high h in
    split_right program (n + 2) (with_split later column at n shown before) box c a low high
    (record { there = r.there; above = r.above; below = r.below; low_child = child_after later before y column at n low shown r.low_child; high_child = child_after later before y column at n high shown r.high_child; apart = r.apart })
broken_after program later before y column at n shown box (Bound z) h = h
broken_after program later before y column at n shown box (Refute z) h = h

-- the box of the next node stays
pub next_box : (program : Program) (later before : List Node) (y : Multipliers) (column at n : ℕ) (shown : Option Point) → length (with_leaf later y before) < n
    → box_of program (with_split later column at n shown before) (length (with_split later column at n shown before)) ≡ box_of program (with_leaf later y before) (length (with_leaf later y before))
next_box program later before y column at n shown few =
    ap (box_of program (with_split later column at n shown before)) (same_length later before y column at n shown)
    ∙ box_same program later before y column at n (length (with_leaf later y before)) shown (omega arith) few

fault_after : (program : Program) (later before : List Node) (y : Multipliers) (column at n : ℕ) (shown : Option Point) (node : Node) → length (with_leaf later y before) < n
    → fault_of program n (with_leaf later y before) node ≡ None → fault_of program (n + 2) (with_split later column at n shown before) node ≡ None
fault_after program later before y column at n shown node few h =
    let new = with_split later column at n shown before in
    let old = with_leaf later y before in
    let size = same_length later before y column at n shown in
    named_right program (n + 2) new node
    (λ some. ap (is_named new) size ∙ named_same later before y column at n (length old) shown few ∙ named_of_right program n old node h (omega arith))
    (subst (λ (b : Bounds). broken_rule program (n + 2) new b node ≡ None) (sym (next_box program later before y column at n shown few)) (broken_after program later before y column at n shown _ node (own_rules program n old node h)))

-- the split in the leaf's place
fault_at_split : (program : Program) (before : List Node) (y : Multipliers) (column at n : ℕ) (shown : Option Point) → length before < n → NamesBelow n before → column < length program.columns
    → slice_index (box_of program before (length before)).low column ≤ at → at < slice_index (box_of program before (length before)).high column
    → fault_of program n before (Bound y) ≡ None → fault_of program (n + 2) before (Split column at n (n + 1) shown) ≡ None
fault_at_split program before y column at n shown few below there above under h =
    named_right program (n + 2) before (Split column at n (n + 1) shown) (named_of_right program n before (Bound y) h)
    (split_right program (n + 2) before _ column at n (n + 1) (record {
      there = there;
      above = above;
      below = under;
      low_child = record { later = few; there = omega arith; unnamed = not_named n before n below (omega arith) };
      high_child = record { later = omega arith; there = omega arith; unnamed = not_named n before (n + 1) below (omega arith) };
      apart = λ e. omega arith;
    }))

-- the two new leaves
fault_at_end : (program : Program) (later before : List Node) (column at n : ℕ) (shown : Option Point) (low high : Node) → length (with_split later column at n shown before) ≡ n
    → is_named later n ≡ false → is_named later (n + 1) ≡ false → IsLeafOf program (low_side (box_of program before (length before)) column at) low → IsLeafOf program (high_side (box_of program before (length before)) column at) high
    → first_fault program (n + 2) (with_split later column at n shown before) (low ∷ high ∷ []) ≡ None
fault_at_end program later before column at n shown (Split c a l h s) high size new newer is_low is_high = absurd is_low
fault_at_end program later before column at n shown (Bound z) high size new newer is_low is_high =
    let all = with_split later column at n shown before in
    let next : length (Bound z ∷ all) ≡ n + 1 = omega arith in
    no_sooner (length all) _ _
    (named_right program (n + 2) all (Bound z) (λ some. ap (is_named all) size ∙ low_named later before column at n shown)
    (leaf_right program (n + 2) all (box_of program all (length all)) (Bound z) (subst (λ (b : Bounds). IsLeafOf program b (Bound z)) (sym (ap (box_of program all) size ∙ low_box program later before column at n shown new)) is_low)))
    (no_sooner (length (Bound z ∷ all)) _ None
    (named_right program (n + 2) (Bound z ∷ all) high (λ some. ap (is_named all) next ∙ high_named later before column at n shown)
    (leaf_right program (n + 2) (Bound z ∷ all) (box_of program (Bound z ∷ all) (length (Bound z ∷ all))) high (subst (λ (b : Bounds). IsLeafOf program b high) (sym (ap (box_of program all) next ∙ high_box program later before column at n shown newer)) is_high)))
    refl)
fault_at_end program later before column at n shown (Refute z) high size new newer is_low is_high =
    let all = with_split later column at n shown before in
    let next : length (Refute z ∷ all) ≡ n + 1 = omega arith in
    no_sooner (length all) _ _
    (named_right program (n + 2) all (Refute z) (λ some. ap (is_named all) size ∙ low_named later before column at n shown)
    (leaf_right program (n + 2) all (box_of program all (length all)) (Refute z) (subst (λ (b : Bounds). IsLeafOf program b (Refute z)) (sym (ap (box_of program all) size ∙ low_box program later before column at n shown new)) is_low)))
    (no_sooner (length (Refute z ∷ all)) _ None
    (named_right program (n + 2) (Refute z ∷ all) high (λ some. ap (is_named all) next ∙ high_named later before column at n shown)
    (leaf_right program (n + 2) (Refute z ∷ all) (box_of program (Refute z ∷ all) (length (Refute z ∷ all))) high (subst (λ (b : Bounds). IsLeafOf program b high) (sym (ap (box_of program all) next ∙ high_box program later before column at n shown newer)) is_high)))
    refl)

-- ---- the walk over all nodes

pub length-onto : (nodes earlier : List Node) → length (reverse_aux nodes earlier) ≡ length nodes + length earlier
length-onto [] earlier = omega arith
length-onto (node ∷ nodes) earlier = omega (arith, length-onto nodes (node ∷ earlier))

-- the nodes after the leaf
rest_right : (program : Program) (later before : List Node) (y : Multipliers) (column at n : ℕ) (shown : Option Point) (rest : List Node) (low high : Node)
    → length (with_leaf later y before) + length rest ≡ n → NamesBelow n (with_leaf later y before)
    → IsLeafOf program (low_side (box_of program before (length before)) column at) low → IsLeafOf program (high_side (box_of program before (length before)) column at) high
    → first_fault program n (with_leaf later y before) rest ≡ None → first_fault program (n + 2) (with_split later column at n shown before) (rest ++ low ∷ high ∷ []) ≡ None
rest_right program later before y column at n shown [] low high size below is_low is_high h =
    fault_at_end program later before column at n shown low high (omega (arith, same_length later before y column at n shown))
    (earlier_unnamed later before y n (not_named n (with_leaf later y before) n below (omega arith))) (earlier_unnamed later before y (n + 1) (not_named n (with_leaf later y before) (n + 1) below (omega arith))) is_low is_high
rest_right program later before y column at n shown (node ∷ rest) low high size below is_low is_high h =
    let here = none_of_sooner (length (with_leaf later y before)) (fault_of program n (with_leaf later y before) node) _ h in
    no_sooner (length (with_split later column at n shown before)) _ _
    (fault_after program later before y column at n shown node (omega arith) here.0)
    (rest_right program (node ∷ later) before y column at n shown rest low high (omega arith) (names_next program n (with_leaf later y before) node here.0 below) is_low is_high here.1)

-- the leaf and the nodes after it
tail_right : (program : Program) (before : List Node) (y : Multipliers) (column at n : ℕ) (shown : Option Point) (rest : List Node) (low high : Node)
    → suc (length before) + length rest ≡ n → NamesBelow n before → column < length program.columns
    → slice_index (box_of program before (length before)).low column ≤ at → at < slice_index (box_of program before (length before)).high column
    → IsLeafOf program (low_side (box_of program before (length before)) column at) low → IsLeafOf program (high_side (box_of program before (length before)) column at) high
    → first_fault program n before (Bound y ∷ rest) ≡ None → first_fault program (n + 2) before (Split column at n (n + 1) shown ∷ (rest ++ low ∷ high ∷ [])) ≡ None
tail_right program before y column at n shown rest low high size below there above under is_low is_high h =
    let here = none_of_sooner (length before) (fault_of program n before (Bound y)) _ h in
    no_sooner (length before) _ _
    (fault_at_split program before y column at n shown (omega arith) below there above under here.0)
    (rest_right program [] before y column at n shown rest low high size (names_next program n before (Bound y) here.0 below) is_low is_high here.1)

-- what the walk over the first nodes says: none of them breaks a rule, also where two more nodes come, and the rest is walked after them
pub record Walked (program : Program) (count : ℕ) (earlier first tail : List Node) : Type 0 where
  pub below : NamesBelow count (reverse_aux first earlier)
  pub later : first_fault program count (reverse_aux first earlier) tail ≡ None

pub walked : (program : Program) (count : ℕ) (earlier first tail : List Node) → NamesBelow count earlier → first_fault program count earlier (first ++ tail) ≡ None → Walked program count earlier first tail
walked program count earlier [] tail below h = record { below = below; later = h }
walked program count earlier (node ∷ first) tail below h =
    let here = none_of_sooner (length earlier) (fault_of program count earlier node) _ h in
    let rest = walked program count (node ∷ earlier) first tail (names_next program count earlier node here.0 below) here.1 in
    record { below = rest.below; later = rest.later }

first_right : (program : Program) (count : ℕ) (earlier first tail new : List Node) → first_fault program count earlier (first ++ tail) ≡ None → first_fault program (count + 2) (reverse_aux first earlier) new ≡ None
    → first_fault program (count + 2) earlier (first ++ new) ≡ None
first_right program count earlier [] tail new h k = k
first_right program count earlier (node ∷ first) tail new h k =
    let here = none_of_sooner (length earlier) (fault_of program count earlier node) _ h in
    no_sooner (length earlier) _ _ (fault_more program count earlier node here.0) (first_right program count (node ∷ earlier) first tail new here.1 k)

-- after the split no node breaks a rule
pub split_right_tree : (program : Program) (first : List Node) (y : Multipliers) (rest : List Node) (column at n : ℕ) (shown : Option Point) (low high : Node)
    → length first + suc (length rest) ≡ n → column < length program.columns
    → slice_index (box_of program (reverse first) (length (reverse first))).low column ≤ at → at < slice_index (box_of program (reverse first) (length (reverse first))).high column
    → IsLeafOf program (low_side (box_of program (reverse first) (length (reverse first))) column at) low → IsLeafOf program (high_side (box_of program (reverse first) (length (reverse first))) column at) high
    → first_fault program n [] (first ++ Bound y ∷ rest) ≡ None → first_fault program (n + 2) [] (first ++ Split column at n (n + 1) shown ∷ (rest ++ low ∷ high ∷ [])) ≡ None
split_right_tree program first y rest column at n shown low high size there above under is_low is_high h =
    let so_far = walked program n [] first (Bound y ∷ rest) (λ k e. absurd (cc)) h in
    first_right program n [] first (Bound y ∷ rest) _ h
    (tail_right program (reverse first) y column at n shown rest low high (omega (arith, length-reverse first)) so_far.below there above under is_low is_high so_far.later)
