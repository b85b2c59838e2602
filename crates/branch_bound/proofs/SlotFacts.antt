-- The slots of open leaves, as leaves come and go.
use Rattle.std.proofs.Common.{◌≡◌, ℕ, zero, suc, ◌+◌, ◌<◌, ◌≢◌, ◌++◌, ◌∙◌, ap, sym, refl, subst, arith, List, [], ◌∷◌, length, slice_get, slice_set, get_or, Option, Some, None, inl, inr, ◌⊎◌}
use Rattle.std.proofs.Math.Seq.{set-append_seam}
use Rattle.std.proofs.lemmas.Bool.{cases_eq, cases_lt, eq-eqb, ne_eqb}
use Rattle.std.proofs.lemmas.List.{length_push, set-append_left}
use Rattle.std.proofs.lemmas.Option.{same_Some}
use Rattle.slab.specs.Slab.{Slab, Updates}
use Rattle.branch_bound.specs.declared.leaf.NumberedLeaf.{NumberedLeaf}
use Rattle.branch_bound.specs.declared.leaf.OpenLeaf.{OpenLeaf}
use Rattle.branch_bound.specs.Slots.{leaf_of, leaves_of, IsNumbered}

abbrev pub Slots : Type 0
Slots = List (Option NumberedLeaf)

-- ---- the leaf of a node

leaf_here : (a : NumberedLeaf) (slots : Slots) (k : ℕ) → a.node ≡ k → leaf_of (Some a ∷ slots) k ≡ Some a.leaf
leaf_here a slots k e = rw (eq-eqb a.node k e) refl

leaf_later : (a : NumberedLeaf) (slots : Slots) (k : ℕ) → a.node ≢ k → leaf_of (Some a ∷ slots) k ≡ leaf_of slots k
leaf_later a slots k e = rw (ne_eqb a.node k e) refl

-- a slot has the leaf of node k
pub record InSlot (slots : Slots) (k : ℕ) (leaf : OpenLeaf) : Type 0 where
  pub slot : ℕ
  pub numbered : NumberedLeaf
  pub there : get_or slots slot None ≡ Some numbered
  pub node : numbered.node ≡ k
  pub same : numbered.leaf ≡ leaf

later : (o : Option NumberedLeaf) (slots : Slots) (k : ℕ) (leaf : OpenLeaf) → InSlot slots k leaf → InSlot (o ∷ slots) k leaf
later o slots k leaf w = record { slot = suc w.slot; numbered = w.numbered; there = w.there; node = w.node; same = w.same }

pub found : (slots : Slots) (k : ℕ) (leaf : OpenLeaf) → leaf_of slots k ≡ Some leaf → InSlot slots k leaf
found [] k leaf is = absurd (cc)
found (None ∷ slots) k leaf is = later None slots k leaf (found slots k leaf is)
found (Some a ∷ slots) k leaf is = elim (cases_eq a.node k) [
  | inl e ↦ record { slot = 0; numbered = a; there = refl; node = e; same = same_Some _ _ (sym (leaf_here a slots k e) ∙ is) }
  | inr e ↦ later (Some a) slots k leaf (found slots k leaf (sym (leaf_later a slots k e) ∙ is))
]

abbrev AreApart : Slots → Type 0
AreApart slots = (s t : ℕ) (a b : NumberedLeaf) → get_or slots s None ≡ Some a → get_or slots t None ≡ Some b → a.node ≡ b.node → s ≡ t

apart_later : (o : Option NumberedLeaf) (slots : Slots) → AreApart (o ∷ slots) → AreApart slots
apart_later o slots apart s t a b p q e = omega (arith, apart (suc s) (suc t) a b p q e)

pub finds : (slots : Slots) (s : ℕ) (a : NumberedLeaf) → AreApart slots → get_or slots s None ≡ Some a → leaf_of slots a.node ≡ Some a.leaf
finds [] s a apart is = absurd (cc)
finds (None ∷ slots) zero a apart is = absurd (cc)
finds (None ∷ slots) (suc s) a apart is = finds slots s a (apart_later None slots apart) is
finds (Some b ∷ slots) zero a apart is = subst (λ (c : NumberedLeaf). leaf_of (Some c ∷ slots) a.node ≡ Some a.leaf) (sym (same_Some b a is)) (leaf_here a slots a.node refl)
finds (Some b ∷ slots) (suc s) a apart is = elim (cases_eq b.node a.node) [
  | inl e ↦ absurd (let same = apart 0 (suc s) b a refl is e in omega arith)
  | inr e ↦ leaf_later b slots a.node e ∙ finds slots s a (apart_later (Some b) slots apart) is
]

same_option : {X : Type 0} (p q : Option X) → ((x : X) → p ≡ Some x → q ≡ Some x) → ((x : X) → q ≡ Some x → p ≡ Some x) → p ≡ q
same_option (Some x) q there back = sym (there x refl)
same_option None (Some y) there back = back y refl
same_option None None there back = refl

none_option : {X : Type 0} (p : Option X) → ((x : X) → p ≡ Some x → ⊥) → p ≡ None
none_option (Some x) never = absurd (never x refl)
none_option None never = refl

-- what one list of slots has of a node, the other has at the same place
abbrev Keeps : Slots → Slots → ℕ → Type 0
Keeps old new k = (s : ℕ) (a : NumberedLeaf) → a.node ≡ k → get_or old s None ≡ Some a → get_or new s None ≡ Some a

kept_leaf : (old new : Slots) (k : ℕ) (leaf : OpenLeaf) → AreApart new → Keeps old new k → InSlot old k leaf → leaf_of new k ≡ Some leaf
kept_leaf old new k leaf apart keeps w =
    ap (leaf_of new) (sym w.node) ∙ finds new w.slot w.numbered apart (keeps w.slot w.numbered w.node w.there) ∙ ap (λ (l : OpenLeaf). Some l) w.same

same_leaf : (old new : Slots) (k : ℕ) → AreApart old → AreApart new → Keeps old new k → Keeps new old k → leaf_of old k ≡ leaf_of new k
same_leaf old new k apart_old apart_new there back =
    same_option (leaf_of old k) (leaf_of new k) (λ leaf is. kept_leaf old new k leaf apart_new there (found old k leaf is)) (λ leaf is. kept_leaf new old k leaf apart_old back (found new k leaf is))

none_of : (slots : Slots) (k : ℕ) → ((s : ℕ) (a : NumberedLeaf) → a.node ≡ k → get_or slots s None ≡ Some a → ⊥) → leaf_of slots k ≡ None
none_of slots k never = none_option (leaf_of slots k) (λ leaf is. let w = found slots k leaf is in never w.slot w.numbered w.node w.there)

-- ---- the list of the leaves

pub slice_get-push : {X : Type 0} (xs : List X) (x : X) (k : ℕ) → ((k ≢ length xs) × (slice_get (xs ++ x ∷ []) k ≡ slice_get xs k)) ⊎ ((k ≡ length xs) × (slice_get (xs ++ x ∷ []) k ≡ Some x) × (slice_get xs k ≡ None))
slice_get-push [] x zero = inr (refl, refl, refl)
slice_get-push [] x (suc k) = inl (λ e. omega arith, refl)
slice_get-push (y ∷ xs) x zero = inl (λ e. omega arith, refl)
slice_get-push (y ∷ xs) x (suc k) = elim (slice_get-push xs x k) [ inl w ↦ inl (λ e. w.0 (omega arith), w.1) | inr w ↦ inr (ap (λ (n : ℕ). suc n) w.0, w.1, w.2) ]

pub length-leaves : (slots : Slots) (n : ℕ) → length (leaves_of slots n) ≡ n
length-leaves slots zero = refl
length-leaves slots (suc n) = omega (arith, length_push (leaves_of slots n) (leaf_of slots n), length-leaves slots n)

pub get_leaves : (slots : Slots) (n k : ℕ) → k < n → slice_get (leaves_of slots n) k ≡ Some (leaf_of slots k)
get_leaves slots zero k within = absurd (omega arith)
get_leaves slots (suc n) k within = elim (cases_lt k n) [
  | inl before ↦
      elim (slice_get-push (leaves_of slots n) (leaf_of slots n) k) [
        | inl w ↦ w.1 ∙ get_leaves slots n k before
        | inr w ↦ absurd (omega (arith, w.0, length-leaves slots n))
      ]
  | inr last ↦
      elim (slice_get-push (leaves_of slots n) (leaf_of slots n) k) [
        | inl w ↦ absurd (w.0 (omega (arith, length-leaves slots n)))
        | inr w ↦ let here : n ≡ k = omega arith in w.1 ∙ ap (λ (j : ℕ). Some (leaf_of slots j)) here
      ]
]

leaves_next : (slots : Slots) (n : ℕ) → leaves_of slots (n + 1) ≡ leaves_of slots n ++ leaf_of slots n ∷ []
leaves_next slots n = let next : n + 1 ≡ suc n = omega arith in ap (leaves_of slots) next

same_leaves : (old new : Slots) (n : ℕ) → ((k : ℕ) → k < n → leaf_of old k ≡ leaf_of new k) → leaves_of old n ≡ leaves_of new n
same_leaves old new zero same = refl
same_leaves old new (suc n) same =
    ap (λ (ls : List (Option OpenLeaf)). ls ++ leaf_of old n ∷ []) (same_leaves old new n (λ k p. same k (omega arith))) ∙ ap (λ (l : Option OpenLeaf). leaves_of new n ++ l ∷ []) (same n (omega arith))

without : (old new : Slots) (k n : ℕ) → k < n → leaf_of new k ≡ None → ((j : ℕ) → j ≢ k → leaf_of old j ≡ leaf_of new j) → leaves_of new n ≡ slice_set (leaves_of old n) k None
without old new k zero within none same = absurd (omega arith)
without old new k (suc n) within none same = elim (cases_lt k n) [
  | inl before ↦
      ap (λ (ls : List (Option OpenLeaf)). ls ++ leaf_of new n ∷ []) (without old new k n before none same)
      ∙ ap (λ (l : Option OpenLeaf). slice_set (leaves_of old n) k None ++ l ∷ []) (sym (same n (λ e. omega arith)))
      ∙ sym (set-append_left (leaves_of old n) (leaf_of old n ∷ []) k None (omega (arith, length-leaves old n)))
  | inr last ↦
      let here : k ≡ n = omega arith in
      let end : k ≡ length (leaves_of old n) = omega (arith, length-leaves old n) in
      ap (λ (ls : List (Option OpenLeaf)). ls ++ leaf_of new n ∷ []) (sym (same_leaves old new n (λ j p. same j (λ e. omega arith))))
      ∙ ap (λ (l : Option OpenLeaf). leaves_of old n ++ l ∷ []) (ap (leaf_of new) (sym here) ∙ none)
      ∙ sym (set-append_seam (leaves_of old n) (leaf_of old n) [] None)
      ∙ ap (λ (i : ℕ). slice_set (leaves_of old n ++ leaf_of old n ∷ []) i None) (sym end)
]

-- ---- one slot is written

pub record Writes (old new : Slots) (slot : ℕ) (o : Option NumberedLeaf) : Type 0 where
  pub changed : get_or new slot None ≡ o
  pub others : (s : ℕ) → s ≢ slot → get_or new s None ≡ get_or old s None

pub writes_of : (slots : Slots) (old new : Slab NumberedLeaf) (slot : ℕ) (o : Option NumberedLeaf) → old.slots ≡ slots → Updates old new slot o → Writes slots new.slots slot o
writes_of slots old new slot o same updates = record {
  changed = updates.changed;
  others = λ s other. updates.others s other ∙ ap (λ (ls : Slots). get_or ls s None) same;
}

-- ---- a leaf comes

at_inserted : (old new : Slots) (slot : ℕ) (a : NumberedLeaf) → Writes old new slot (Some a) → (s : ℕ) (b : NumberedLeaf) → get_or new s None ≡ Some b → ((s ≡ slot) × (b ≡ a)) ⊎ ((s ≢ slot) × (get_or old s None ≡ Some b))
at_inserted old new slot a writes s b is = elim (cases_eq s slot) [
  | inl e ↦ inl (e, same_Some _ _ (sym is ∙ ap (λ (i : ℕ). get_or new i None) e ∙ writes.changed))
  | inr e ↦ inr (e, sym (writes.others s e) ∙ is)
]

pub numbered_inserted : (old new : Slots) (n slot : ℕ) (a : NumberedLeaf) → IsNumbered old n → Writes old new slot (Some a) → a.node ≡ n → IsNumbered new (n + 1)
numbered_inserted old new n slot a numbered writes last = record {
  below = λ s b is. elim (at_inserted old new slot a writes s b is) [
    | inl w ↦ omega (arith, ap (λ (c : NumberedLeaf). c.node) w.1)
    | inr w ↦ omega (arith, numbered.below s b w.1)
  ];
  apart = λ s t b c is_b is_c same. elim (at_inserted old new slot a writes s b is_b) [
    | inl w ↦ elim (at_inserted old new slot a writes t c is_c) [
      | inl v ↦ w.0 ∙ sym v.0
      | inr v ↦ absurd (omega (arith, ap (λ (d : NumberedLeaf). d.node) w.1, numbered.below t c v.1))
    ]
    | inr w ↦ elim (at_inserted old new slot a writes t c is_c) [
      | inl v ↦ absurd (omega (arith, ap (λ (d : NumberedLeaf). d.node) v.1, numbered.below s b w.1))
      | inr v ↦ numbered.apart s t b c w.1 v.1 same
    ]
  ];
}

pub leaves_inserted : (old new : Slots) (n slot : ℕ) (a : NumberedLeaf) → IsNumbered old n → get_or old slot None ≡ None → Writes old new slot (Some a) → a.node ≡ n → leaves_of new (n + 1) ≡ leaves_of old n ++ Some a.leaf ∷ []
leaves_inserted old new n slot a numbered vacant writes last =
    let numbered_new = numbered_inserted old new n slot a numbered writes last in
    leaves_next new n
    ∙ ap (λ (ls : List (Option OpenLeaf)). ls ++ leaf_of new n ∷ []) (sym (same_leaves old new n (λ k before. same_leaf old new k numbered.apart numbered_new.apart
    (λ s b node is. writes.others s (λ e. absurd (let none = sym vacant ∙ ap (λ (i : ℕ). get_or old i None) (sym e) ∙ is in cc)) ∙ is)
    (λ s b node is. elim (at_inserted old new slot a writes s b is) [
      | inl w ↦ absurd (omega (arith, ap (λ (d : NumberedLeaf). d.node) w.1))
      | inr w ↦ w.1
    ]))))
    ∙ ap (λ (l : Option OpenLeaf). leaves_of old n ++ l ∷ []) (ap (leaf_of new) (sym last) ∙ finds new slot a numbered_new.apart writes.changed)

-- ---- a node comes that is not open

pub numbered_more : (slots : Slots) (n : ℕ) → IsNumbered slots n → IsNumbered slots (n + 1)
numbered_more slots n numbered = record { below = λ s a is. omega (arith, numbered.below s a is); apart = numbered.apart }

pub leaves_more : (slots : Slots) (n : ℕ) → IsNumbered slots n → leaves_of slots (n + 1) ≡ leaves_of slots n ++ None ∷ []
leaves_more slots n numbered = leaves_next slots n ∙ ap (λ (l : Option OpenLeaf). leaves_of slots n ++ l ∷ []) (none_of slots n (λ s a node is. absurd (omega (arith, numbered.below s a is))))

-- ---- a leaf goes

at_removed : (old new : Slots) (slot : ℕ) → Writes old new slot None → (s : ℕ) (b : NumberedLeaf) → get_or new s None ≡ Some b → (s ≢ slot) × (get_or old s None ≡ Some b)
at_removed old new slot writes s b is =
    let other : s ≢ slot = λ e. absurd (let none = sym writes.changed ∙ ap (λ (i : ℕ). get_or new i None) (sym e) ∙ is in cc) in
    (other, sym (writes.others s other) ∙ is)

pub numbered_removed : (old new : Slots) (n slot : ℕ) → IsNumbered old n → Writes old new slot None → IsNumbered new n
numbered_removed old new n slot numbered writes = record {
  below = λ s b is. numbered.below s b (at_removed old new slot writes s b is).1;
  apart = λ s t b c is_b is_c same. numbered.apart s t b c (at_removed old new slot writes s b is_b).1 (at_removed old new slot writes t c is_c).1 same;
}

pub leaves_removed : (old new : Slots) (n slot : ℕ) (a : NumberedLeaf) → IsNumbered old n → get_or old slot None ≡ Some a → Writes old new slot None → leaves_of new n ≡ slice_set (leaves_of old n) a.node None
leaves_removed old new n slot a numbered there writes =
    let numbered_new = numbered_removed old new n slot numbered writes in
    without old new a.node n (numbered.below slot a there)
    (none_of new a.node (λ s b node is. let was = at_removed old new slot writes s b is in was.0 (numbered.apart s slot b a was.1 there node)))
    (λ j other. same_leaf old new j numbered.apart numbered_new.apart
    (λ s b node is. writes.others s (λ e. other (sym node ∙ ap (λ (d : NumberedLeaf). d.node) (same_Some _ _ (sym is ∙ ap (λ (i : ℕ). get_or old i None) e ∙ there)))) ∙ is)
    (λ s b node is. (at_removed old new slot writes s b is).1))
