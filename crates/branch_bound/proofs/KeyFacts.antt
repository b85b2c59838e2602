-- The keys of the open leaves, as leaves come and go.
use Rattle.std.proofs.Common.{◌≡◌, ℕ, ◌<◌, ◌≤◌, ◌≢◌, ◌∙◌, ap, sym, refl, arith, List, [], ◌∷◌, slice_get, get_or, Option, Some, None, Bool, true, false, ◌&&◌, ◌==◌, cond, if◌then◌else◌, sum_by, IsSome, inl, inr}
use Rattle.std.specs.BinaryHeap.{IsUpperBound}
use Rattle.std.specs.List.Sorted.{IsPermutation}
use Rattle.std.specs.Ordering.{nat_cmp, ordering_then, is_lt}
use Rattle.std.specs.declared.cmp.Reverse.{Reverse}
use Rattle.std.proofs.lemmas.Bool.{cases_eq, cases_lt, eq-eqb, ne_eqb, eqb-true, and_left, and_right, and_from, and_parts}
use Rattle.std.proofs.lemmas.List.Sorted.{sum_by_pushed, sum_by_popped}
use Rattle.std.proofs.lemmas.List.Sums.{sum_by-cons}
use Rattle.std.proofs.lemmas.Option.{slice_get_within, same_Some}
use Rattle.branch_bound.specs.declared.leaf.NumberedLeaf.{NumberedLeaf}
use Rattle.branch_bound.specs.declared.leaf.OpenLeaf.{OpenLeaf}
use Rattle.branch_bound.specs.Keys.{key_order, keys_of, HoldsKeys, IsLeastOpen}
use Rattle.branch_bound.specs.Slots.{leaves_of, IsNumbered}
use Rattle.branch_bound.proofs.SlotFacts.{Slots, Writes, InSlot, found, finds, length-leaves, get_leaves}

abbrev Key : Type 0
Key = Reverse (ℕ × ℕ × ℕ)

abbrev is_key : ℕ → ℕ → ℕ → Key → Bool
is_key bound k slot key = (key.0.0 == bound) && ((key.0.1 == k) && (key.0.2 == slot))

abbrev key_count : ℕ → ℕ → ℕ → Key → ℕ
key_count bound k slot key = cond (is_key bound k slot key) 1 0

count_one : (bound k slot : ℕ) (key : Key) → key.0.0 ≡ bound → key.0.1 ≡ k → key.0.2 ≡ slot → key_count bound k slot key ≡ 1
count_one bound k slot key p q r = rw (and_from (key.0.0 == bound) ((key.0.1 == k) && (key.0.2 == slot)) (eq-eqb _ _ p) (and_from (key.0.1 == k) (key.0.2 == slot) (eq-eqb _ _ q) (eq-eqb _ _ r))) refl

count_other_bound : (bound k slot : ℕ) (key : Key) → key.0.0 ≢ bound → key_count bound k slot key ≡ 0
count_other_bound bound k slot key p = rw (and_left (key.0.0 == bound) ((key.0.1 == k) && (key.0.2 == slot)) (ne_eqb _ _ p)) refl

count_other_node : (bound k slot : ℕ) (key : Key) → key.0.1 ≢ k → key_count bound k slot key ≡ 0
count_other_node bound k slot key p = rw (and_right (key.0.0 == bound) ((key.0.1 == k) && (key.0.2 == slot)) (and_left (key.0.1 == k) (key.0.2 == slot) (ne_eqb _ _ p))) refl

count_other_slot : (bound k slot : ℕ) (key : Key) → key.0.2 ≢ slot → key_count bound k slot key ≡ 0
count_other_slot bound k slot key p = rw (and_right (key.0.0 == bound) ((key.0.1 == k) && (key.0.2 == slot)) (and_right (key.0.1 == k) (key.0.2 == slot) (ne_eqb _ _ p))) refl

-- the slot's leaf is that of node k, and has this bound
pub record OpenWith (o : Option NumberedLeaf) (bound k : ℕ) : Type 0 where
  pub numbered : NumberedLeaf
  pub is : o ≡ Some numbered
  pub bound_is : numbered.leaf.bound ≡ bound
  pub node_is : numbered.node ≡ k

some_key : (b : Bool) → 1 ≤ (if b then 1 else 0) → b ≡ true
some_key true h = refl
some_key false h = absurd (omega arith)

open_with : (o : Option NumberedLeaf) (bound k : ℕ) → 1 ≤ keys_of o bound k → OpenWith o bound k
open_with (Some a) bound k h =
    let both = and_parts (a.leaf.bound == bound) (a.node == k) (some_key ((a.leaf.bound == bound) && (a.node == k)) h) in
    record { numbered = a; is = refl; bound_is = eqb-true a.leaf.bound bound both.0; node_is = eqb-true a.node k both.1 }
open_with None bound k h = absurd (omega arith)

keys_with : (bound k : ℕ) (a : NumberedLeaf) → a.leaf.bound ≡ bound → a.node ≡ k → keys_of (Some a) bound k ≡ 1
keys_with bound k a p q = rw (and_from (a.leaf.bound == bound) (a.node == k) (eq-eqb _ _ p) (eq-eqb _ _ q)) refl

keys_other_bound : (bound k : ℕ) (a : NumberedLeaf) → a.leaf.bound ≢ bound → keys_of (Some a) bound k ≡ 0
keys_other_bound bound k a p = rw (and_left (a.leaf.bound == bound) (a.node == k) (ne_eqb _ _ p)) refl

keys_other_node : (bound k : ℕ) (a : NumberedLeaf) → a.node ≢ k → keys_of (Some a) bound k ≡ 0
keys_other_node bound k a p = rw (and_right (a.leaf.bound == bound) (a.node == k) (ne_eqb _ _ p)) refl

keys_once : (o : Option NumberedLeaf) (a : NumberedLeaf) → o ≡ Some a → keys_of o a.leaf.bound a.node ≡ 1
keys_once o a is = ap (λ (p : Option NumberedLeaf). keys_of p a.leaf.bound a.node) is ∙ keys_with a.leaf.bound a.node a refl refl

-- the key of a slot's leaf counts as the slot does
key_of_slot : (bound k slot : ℕ) (key : Key) (a : NumberedLeaf) → a.leaf.bound ≡ key.0.0 → a.node ≡ key.0.1 → key.0.2 ≡ slot → key_count bound k slot key ≡ keys_of (Some a) bound k
key_of_slot bound k slot key a bound_is node_is here = elim (cases_eq key.0.0 bound) [
  | inl b ↦ elim (cases_eq key.0.1 k) [
    | inl e ↦ count_one bound k slot key b e here ∙ sym (keys_with bound k a (bound_is ∙ b) (node_is ∙ e))
    | inr e ↦ count_other_node bound k slot key e ∙ sym (keys_other_node bound k a (λ f. e (sym node_is ∙ f)))
  ]
  | inr b ↦ count_other_bound bound k slot key b ∙ sym (keys_other_bound bound k a (λ f. b (sym bound_is ∙ f)))
]

-- ---- the first key is taken out

-- its slot has the leaf of its node, with its bound
pub popped_open : (slots : Slots) (old new : List Key) (key : Key) → HoldsKeys slots old → IsPermutation old (key ∷ new) → OpenWith (get_or slots key.0.2 None) key.0.0 key.0.1
popped_open slots old new key holds same =
    let sum = sum_by_popped (key_count key.0.0 key.0.1 key.0.2) key old new same in
    let one = count_one key.0.0 key.0.1 key.0.2 key refl refl refl in
    open_with (get_or slots key.0.2 None) key.0.0 key.0.1 (omega (arith, holds key.0.0 key.0.1 key.0.2))

-- without it the others have their keys
pub holds_removed : (slots after : Slots) (old new : List Key) (key : Key) → HoldsKeys slots old → IsPermutation old (key ∷ new) → Writes slots after key.0.2 None → HoldsKeys after new
holds_removed slots after old new key holds same writes bound k slot =
    let w = popped_open slots old new key holds same in
    let sum = sum_by_popped (key_count bound k slot) key old new same in
    elim (cases_eq key.0.2 slot) [
      | inl here ↦
          let count = key_of_slot bound k slot key w.numbered w.bound_is w.node_is here in
          let before : keys_of (get_or slots slot None) bound k ≡ keys_of (Some w.numbered) bound k = ap (λ (o : Option NumberedLeaf). keys_of o bound k) (ap (λ (i : ℕ). get_or slots i None) (sym here) ∙ w.is) in
          let now : keys_of (get_or after slot None) bound k ≡ 0 = ap (λ (o : Option NumberedLeaf). keys_of o bound k) (ap (λ (i : ℕ). get_or after i None) (sym here) ∙ writes.changed) in
          omega (arith, holds bound k slot)
      | inr other ↦
          let count = count_other_slot bound k slot key other in
          let now : keys_of (get_or after slot None) bound k ≡ keys_of (get_or slots slot None) bound k = ap (λ (o : Option NumberedLeaf). keys_of o bound k) (writes.others slot (λ e. other (sym e))) in
          omega (arith, holds bound k slot)
    ]

not_less : (a b c d e f : ℕ) → is_lt (ordering_then (ordering_then (nat_cmp b a) (nat_cmp d c)) (nat_cmp f e)) ≡ false → a ≤ b
not_less a b c d e f h = grind arith

count_below : (bound k slot : ℕ) (keys : List Key) (key : Key) → IsUpperBound key_order key keys → bound < key.0.0 → sum_by (key_count bound k slot) keys ≡ 0
count_below bound k slot [] key h below = refl
count_below bound k slot (other ∷ keys) key h below =
    let first = not_less key.0.0 other.0.0 key.0.1 other.0.1 key.0.2 other.0.2 h.0 in
    omega (arith, sum_by-cons (key_count bound k slot) other keys, count_other_bound bound k slot other (λ e. omega arith), count_below bound k slot keys key h.1 below)

-- what is open at node j stands in a slot
open_slot : (slots : Slots) (n j : ℕ) (leaf : OpenLeaf) → slice_get (leaves_of slots n) j ≡ Some (Some leaf) → InSlot slots j leaf
open_slot slots n j leaf is =
    let within : j < n = omega (arith, slice_get_within (leaves_of slots n) j (Some leaf) is, length-leaves slots n) in
    found slots j leaf (same_Some _ _ (sym (get_leaves slots n j within) ∙ is))

-- and none of the others has a lesser bound
pub popped_least : (slots : Slots) (n : ℕ) (old : List Key) (key : Key) (a : NumberedLeaf) → HoldsKeys slots old → IsUpperBound key_order key old → IsNumbered slots n → get_or slots key.0.2 None ≡ Some a → a.leaf.bound ≡ key.0.0
    → IsLeastOpen (leaves_of slots n) a.node a.leaf
popped_least slots n old key a holds greatest numbered is bound_is = record {
  there = get_leaves slots n a.node (numbered.below key.0.2 a is) ∙ ap (λ (o : Option OpenLeaf). Some o) (finds slots key.0.2 a numbered.apart is);
  least = λ j other open_there. elim (cases_lt other.bound a.leaf.bound) [
    | inl below ↦
        let w = open_slot slots n j other open_there in
        let bound_of = ap (λ (l : OpenLeaf). l.bound) w.same in
        let one = keys_once (get_or slots w.slot None) w.numbered w.there in
        let none = count_below w.numbered.leaf.bound w.numbered.node w.slot old key greatest (omega arith) in
        absurd (omega (arith, holds w.numbered.leaf.bound w.numbered.node w.slot))
    | inr above ↦ above
  ];
}

-- where there is no key, none is open
pub none_open : (slots : Slots) (n : ℕ) (keys : List Key) → HoldsKeys slots keys → keys ≡ [] → (k : ℕ) (leaf : OpenLeaf) → slice_get (leaves_of slots n) k ≡ Some (Some leaf) → ⊥
none_open slots n keys holds none k leaf is =
    let w = open_slot slots n k leaf is in
    let one = keys_once (get_or slots w.slot None) w.numbered w.there in
    let empty : sum_by (key_count w.numbered.leaf.bound w.numbered.node w.slot) keys ≡ 0 = ap (sum_by (key_count w.numbered.leaf.bound w.numbered.node w.slot)) none in
    omega (arith, holds w.numbered.leaf.bound w.numbered.node w.slot)

-- ---- a key comes

pub holds_inserted : (slots after : Slots) (old new : List Key) (key : Key) (a : NumberedLeaf) → HoldsKeys slots old → IsPermutation (key ∷ old) new → get_or slots key.0.2 None ≡ None → Writes slots after key.0.2 (Some a) → a.leaf.bound ≡ key.0.0 → a.node ≡ key.0.1
    → HoldsKeys after new
holds_inserted slots after old new key a holds same vacant writes bound_is node_is bound k slot =
    let sum = sum_by_pushed (key_count bound k slot) key old new same in
    elim (cases_eq key.0.2 slot) [
      | inl here ↦
          let count = key_of_slot bound k slot key a bound_is node_is here in
          let before : keys_of (get_or slots slot None) bound k ≡ 0 = ap (λ (o : Option NumberedLeaf). keys_of o bound k) (ap (λ (i : ℕ). get_or slots i None) (sym here) ∙ vacant) in
          let now : keys_of (get_or after slot None) bound k ≡ keys_of (Some a) bound k = ap (λ (o : Option NumberedLeaf). keys_of o bound k) (ap (λ (i : ℕ). get_or after i None) (sym here) ∙ writes.changed) in
          omega (arith, holds bound k slot)
      | inr other ↦
          let count = count_other_slot bound k slot key other in
          let now : keys_of (get_or after slot None) bound k ≡ keys_of (get_or slots slot None) bound k = ap (λ (o : Option NumberedLeaf). keys_of o bound k) (writes.others slot (λ e. other (sym e))) in
          omega (arith, holds bound k slot)
    ]

pub some_of : {X : Type 0} (o : Option X) (x : X) → o ≡ Some x → IsSome o
some_of o x is = rw is refl
