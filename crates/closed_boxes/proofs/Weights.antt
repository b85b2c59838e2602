-- Multipliers of tight rows, row by row.
use Rattle.std.proofs.Common.{◌≡◌, ◌⊎◌, ℕ, zero, suc, ◌+◌, ◌<◌, ℤ, pos, ◌+ℤ◌, ◌*ℤ◌, refl, sym, ap, ◌∙◌, subst, arith, IsTrue, List, [], ◌∷◌, ◌++◌, length, length-append, get_or, slice_index, slice_set, All, AllPairs, inl, inr}
use Rattle.std.proofs.lemmas.Int.{ints}
use Rattle.std.proofs.lemmas.Bool.{true≢false}
use Rattle.std.proofs.lemmas.Bool.Decides.{eqb_tells}
use Rattle.std.proofs.lemmas.List.{get_or-set_same, get_or-set_other, length-set, get_or_append_left, get_or_push}
use lib.IntN.{+ℤ_assoc}
use Rattle.ip_model.specs.declared.parts.Line.{Line}
use Rattle.ip_model.specs.declared.program.Program.{Program}
use Rattle.ip_model.specs.Limits.{cost_of, helper_at}
use Rattle.ip_model.specs.Sums.{factor_of}
use Rattle.bound_certificate.specs.declared.multipliers.Top.{Top}
use Rattle.bound_certificate.specs.declared.multipliers.Multipliers.{Multipliers}
use Rattle.bound_certificate.specs.Bound.{combined_factor, terms_of}
use Rattle.bound_certificate.specs.Rising.{KeepsRange, TopInRange}
use Rattle.closed_boxes.specs.Helpers.{HasNoHelper, IsAsked, IsHelperOf, IsTight}
use Rattle.closed_boxes.specs.Weighing.{AreDuals, Weighs}
use Rattle.closed_boxes.proofs.RowFacts.{cost_small, helper_once, other_factor}
use Rattle.closed_boxes.proofs.Serving.{below_or_last}

-- with the costs left, before any row
pub weighs_none : (program : Program) (point costs : List ℕ) → length costs ≡ length program.columns → ((j : ℕ) → slice_index costs j ≡ cost_of program.columns j) → Weighs program point 0 [] costs
weighs_none program point costs size is = record {
  size = size;
  small = λ j. rw (is j) (cost_small program j);
  taken = λ j on. rw (is j) (omega (arith, ints));
  covered = λ j k p. absurd (omega arith);
  tight = λ k d p. absurd (omega arith);
  before = λ k d p. absurd (omega arith);
  nums = λ k d p. absurd (omega arith);
  rising = λ i j d p q. absurd (omega arith);
}

-- row i gets no multiplier, since nothing is left of what it might ask
passed_over : (program : Program) (point : List ℕ) (i : ℕ) (tops : List Top) (left : List ℕ) → Weighs program point i tops left
    → ((j : ℕ) → 0 < slice_index point j → IsHelperOf program.columns (terms_of program.rows i) j → IsTight program point i → slice_index left j ≡ 0) → Weighs program point (i + 1) tops left
passed_over program point i tops left so_far none = record {
  size = so_far.size;
  small = so_far.small;
  taken = so_far.taken;
  covered = λ j k p some is tight. elim (below_or_last k i p) [
    | inl q ↦ so_far.covered j k q some is tight
    | inr e ↦ none j some
        (subst (λ (r : ℕ). IsHelperOf program.columns (terms_of program.rows r) j) e is)
        (subst (λ (r : ℕ). IsTight program point r) e tight)
  ];
  tight = so_far.tight;
  before = λ k d p. (let q = so_far.before k d p in omega arith);
  nums = so_far.nums;
  rising = so_far.rising;
}

pub no_helper : (program : Program) (point : List ℕ) (i : ℕ) (tops : List Top) (left : List ℕ) → Weighs program point i tops left → HasNoHelper program.columns (terms_of program.rows i) → Weighs program point (i + 1) tops left
no_helper program point i tops left so_far none = passed_over program point i tops left so_far (λ j some is tight.
    absurd (true≢false (sym is.helper ∙ ap (helper_at program.columns) (sym (is.stands.column (record { column = 0; factor = pos 0 }))) ∙ none is.stands.place (record { column = 0; factor = pos 0 }) is.stands.within)))

pub no_weight : (program : Program) (point : List ℕ) (i : ℕ) (tops : List Top) (left : List ℕ) (h : ℕ) → Weighs program point i tops left → IsHelperOf program.columns (terms_of program.rows i) h
    → (slice_index left h ≡ 0) ⊎ ((slice_index point h ≡ 0) ⊎ (IsTight program point i → ⊥)) → Weighs program point (i + 1) tops left
no_weight program point i tops left h so_far is why = passed_over program point i tops left so_far (λ j some also tight.
    let same = helper_once program.columns (terms_of program.rows i) h j is also in by why j same some tight)
  where
    by : (slice_index left h ≡ 0) ⊎ ((slice_index point h ≡ 0) ⊎ (IsTight program point i → ⊥)) → (j : ℕ) → j ≡ h → 0 < slice_index point j → IsTight program point i → slice_index left j ≡ 0
    by (inl none) j same some tight = rw same none
    by (inr (inl none)) j same some tight = absurd (let there = ap (slice_index point) same in omega (arith, there, none, some))
    by (inr (inr lacks)) j same some tight = absurd (lacks tight)

-- ---- row i gets what is left of its helper's cost

all_pushed : (P : Top → Type 0) (xs : List Top) (x : Top) → All P xs → P x → All P (xs ++ x ∷ [])
all_pushed P xs x before here k d h =
    elim (below_or_last k (length xs) (let e = length-append xs (x ∷ []) in omega arith)) [
      | inl p ↦ subst P (sym (get_or_append_left xs (x ∷ []) d k p)) (before k d p)
      | inr p ↦ subst P (sym (get_or_push xs x d k (sym p))) here
    ]

pairs_pushed : (xs : List Top) (x : Top) → AllPairs (λ s t. s.row < t.row) xs → All (λ t. t.row < x.row) xs → AllPairs (λ s t. s.row < t.row) (xs ++ x ∷ [])
pairs_pushed xs x rising below i j d lt h =
    elim (below_or_last j (length xs) (let e = length-append xs (x ∷ []) in omega arith)) [
      | inl p ↦
          subst (λ (s : Top). s.row < (get_or (xs ++ x ∷ []) j d).row) (sym (get_or_append_left xs (x ∷ []) d i (omega arith)))
          (subst (λ (s : Top). (get_or xs i d).row < s.row) (sym (get_or_append_left xs (x ∷ []) d j p)) (rising i j d lt p))
      | inr p ↦
          let within : i < length xs = omega arith in
          subst (λ (s : Top). s.row < (get_or (xs ++ x ∷ []) j d).row) (sym (get_or_append_left xs (x ∷ []) d i within))
          (subst (λ (s : Top). (get_or xs i d).row < s.row) (sym (get_or_push xs x d j (sym p))) (below i d within))
    ]

combined_pushed : (rows : List Line) (tops : List Top) (top : Top) (j : ℕ) → combined_factor rows (tops ++ top ∷ []) j ≡ combined_factor rows tops j +ℤ pos top.num *ℤ factor_of (terms_of rows top.row) j
combined_pushed rows [] top j = omega (arith, ints)
combined_pushed rows (t ∷ tops) top j =
    let rest = combined_pushed rows tops top j in
    ap (λ z. pos t.num *ℤ factor_of (terms_of rows t.row) j +ℤ z) rest ∙ sym (+ℤ_assoc (pos t.num *ℤ factor_of (terms_of rows t.row) j) (combined_factor rows tops j) (pos top.num *ℤ factor_of (terms_of rows top.row) j))

-- what is taken off the row's own helper, and off another
taken_whole : (before after f : ℤ) (left cost : ℕ) → after ≡ before +ℤ pos left *ℤ f → f ≡ pos 1 → before +ℤ pos left ≡ pos cost → after +ℤ pos 0 ≡ pos cost
taken_whole before after f left cost is e so_far = let there = rw e at is in omega (arith, ints, there, so_far)

taken_none : (before after f : ℤ) (num left cost : ℕ) → after ≡ before +ℤ pos num *ℤ f → f ≡ pos 0 → before +ℤ pos left ≡ pos cost → after +ℤ pos left ≡ pos cost
taken_none before after f num left cost is e so_far = let there = rw e at is in omega (arith, ints, there, so_far)

pub weighed : (program : Program) (point : List ℕ) (i : ℕ) (tops : List Top) (left : List ℕ) (h : ℕ) (top : Top) → Weighs program point i tops left → IsHelperOf program.columns (terms_of program.rows i) h → h < length left
    → IsTight program point i → 0 < slice_index left h → top.row ≡ i → top.num ≡ slice_index left h → Weighs program point (i + 1) (tops ++ top ∷ []) (slice_set left h 0)
weighed program point i tops left h top so_far is there tight some row num = record {
  size = length-set left h 0 ∙ so_far.size;
  small = λ j. elim (eqb_tells j h) [
    | inl e ↦ rw e.1 (rw (get_or-set_same left h 0 0 there) (omega arith))
    | inr e ↦ rw (get_or-set_other left h j 0 0 e.1) (so_far.small j)
  ];
  taken = λ j on.
      let push = combined_pushed program.rows tops top j in
      elim (eqb_tells j h) [
        | inl e ↦
            let factor : factor_of (terms_of program.rows top.row) j ≡ pos 1 = rw (row, e.1) is.factor in
            let old : combined_factor program.rows tops j +ℤ pos top.num ≡ pos (cost_of program.columns j) = rw (num, ← e.1) (so_far.taken j on) in
            let none : slice_index (slice_set left h 0) j ≡ 0 = rw e.1 (get_or-set_same left h 0 0 there) in
            rw none (taken_whole _ _ _ _ _ push factor old)
        | inr e ↦
            let factor : factor_of (terms_of program.rows top.row) j ≡ pos 0 = rw row (other_factor program.columns (terms_of program.rows i) h j is on e.1) in
            rw (get_or-set_other left h j 0 0 e.1) (taken_none _ _ _ _ _ _ push factor (so_far.taken j on))
      ];
  covered = λ j k p more also held. elim (eqb_tells j h) [
    | inl e ↦ rw e.1 (get_or-set_same left h 0 0 there)
    | inr e ↦ elim (below_or_last k i p) [
      | inl q ↦ rw (get_or-set_other left h j 0 0 e.1) (so_far.covered j k q more also held)
      | inr last ↦ absurd (e.1 (helper_once program.columns (terms_of program.rows i) h j is (subst (λ (r : ℕ). IsHelperOf program.columns (terms_of program.rows r) j) last also)))
    ]
  ];
  tight = all_pushed (λ t. IsTight program point t.row) tops top so_far.tight (rw row tight);
  before = all_pushed (λ t. t.row < i + 1) tops top (λ k d p. (let q = so_far.before k d p in omega arith)) (omega (arith, row));
  nums = all_pushed TopInRange tops top so_far.nums (record { above_none = omega (arith, num, some); most = (let most = so_far.small h in omega (arith, num, most)) });
  rising = pairs_pushed tops top so_far.rising (λ k d p. (let q = so_far.before k d p in omega (arith, row)));
}

-- ---- after the last row

pub range_kept : (program : Program) (point : List ℕ) (n : ℕ) (tops : List Top) (left : List ℕ) → Weighs program point n tops left → KeepsRange 1 tops
range_kept program point n tops left is = record { den_above_none = omega arith; den_most = omega arith; nums = is.nums; rising = is.rising }

pub duals_are : (program : Program) (point : List ℕ) (left : List ℕ) (y : Multipliers) → Weighs program point (length program.rows) y.tops left → y.den ≡ 1
    → ((j : ℕ) → IsTrue (helper_at program.columns j) → 0 < slice_index point j → IsAsked program point (length program.rows) j) → AreDuals program point y
duals_are program point left y is den asked = record {
  den = den;
  rows = is.before;
  tight = is.tight;
  spent = λ j on some.
      let by = asked j on some in
      let none = is.covered j by.row by.before some by.helper by.tight in
      let taken = is.taken j on in
      omega (arith, ints, rw none at taken);
  left = λ j on. let taken = is.taken j on in omega (arith, ints, taken);
}

pub above_none : (n : ℕ) → (n ≡ 0 → ⊥) → 0 < n
above_none zero h = absurd (h refl)
above_none (suc n) h = omega arith
