-- The unit that a choice holds.
use Rattle.std.proofs.Common.{◌≡◌, ℕ, suc, ◌<◌, ◌≤◌, ℤ, pos, ◌+ℤ◌, ◌-ℤ◌, ◌*ℤ◌, ◌<ℤ◌, ◌≤ℤ◌, refl, sym, ap, subst, ◌∙◌, arith, Bool, true, false, Option, Some, None, List, length, inl, inr}
use Rattle.std.proofs.lemmas.Int.{ints}
use Rattle.std.proofs.lemmas.Bool.{ne_eqb}
use Rattle.std.proofs.lemmas.Bool.Decides.{eqb_tells}
use Rattle.exact_fraction.specs.declared.fraction.Fraction.{Fraction}
use Rattle.exact_fraction.specs.Exact.{IsRatio}
use Rattle.exact_simplex.specs.Tableaus.{Scaled, IsPivotPlace}
use Rattle.exact_simplex.specs.Cells.{cell_of, row_of, number_at}
use Rattle.exact_simplex.specs.Choices.{ChoiceFits, CompareFits, SameQuotients, IsBefore, ComparisonGives, ShowsPair, IsCandidate, FirstCandidate, IsHeld, IsSetting, NextGives}
use Rattle.exact_simplex.proofs.Ring.{none_times}
use Rattle.exact_simplex.proofs.Order.{above_product, first_above-add}
use Rattle.exact_simplex.proofs.Choice.{before_chain, factor_above}
use Rattle.exact_simplex.proofs.CellSteps.{den_above, own_column}

-- a fraction above 0 shows a number above 0, and the other way round
pub number_above : (f : Fraction) (z : ℤ) (d : ℕ) → 1 ≤ d → IsRatio f.num f.den z (pos d) → pos 0 <ℤ f.num → pos 0 <ℤ z
number_above f z d some is above = factor_above z f.den (den_above f.num f.den f.lowest) (subst (λ y. pos 0 <ℤ y) is (above_product f.num (pos d) above (omega (arith, ints))))

pub fraction_above : (f : Fraction) (z : ℤ) (d : ℕ) → 1 ≤ d → IsRatio f.num f.den z (pos d) → pos 0 <ℤ z → pos 0 <ℤ f.num
fraction_above f z d some is above = factor_above f.num (pos d) (omega (arith, ints)) (subst (λ y. pos 0 <ℤ y) (sym is) (above_product z f.den above (den_above f.num f.den f.lowest)))

pub candidate_above : (n : ℕ) (cells : List (List Fraction)) (t : Scaled) (r k : ℕ) → IsSetting n cells t → r < length cells → k < n → IsCandidate cells r (suc k) → pos 0 <ℤ t.factor r k
candidate_above n cells t r k h there p above = number_above (cell_of (row_of cells r) (suc k)) (t.factor r k) t.scale h.scale ((h.rows r there).numbers (suc k) (omega arith)) above

pub above_candidate : (n : ℕ) (cells : List (List Fraction)) (t : Scaled) (r k : ℕ) → IsSetting n cells t → r < length cells → k < n → pos 0 <ℤ t.factor r k → IsCandidate cells r (suc k)
above_candidate n cells t r k h there p above = fraction_above (cell_of (row_of cells r) (suc k)) (t.factor r k) t.scale h.scale ((h.rows r there).numbers (suc k) (omega arith)) above

pair_of : (n : ℕ) (cells : List (List Fraction)) (t : Scaled) (r k l : ℕ) → IsSetting n cells t → r < length cells → k < n → l < n → IsCandidate cells r (suc k) → IsCandidate cells r (suc l) → ShowsPair n cells t r (suc k) (suc l)
pair_of n cells t r k l h there p q first second = record {
  scale = h.scale;
  rows = h.rows;
  place = there;
  first = omega arith;
  second = omega arith;
  first_above = candidate_above n cells t r k h there p first;
  second_above = candidate_above n cells t r l h there q second;
}

-- two units' columns differ
differ : (n : ℕ) (cells : List (List Fraction)) (t : Scaled) (r k l : ℕ) → IsSetting n cells t → k < n → l < n → (l ≡ k → ⊥) → pos 0 <ℤ t.factor r l → ((i : ℕ) → i < length cells → SameQuotients t r (suc k) (suc l) i) → ⊥
differ n cells t r k l h p q other above same =
    let i = t.unit k in
    let own : t.factor i k ≡ pos t.scale = h.unit_factor k k p p ∙ rw (own_column k) refl in
    let none : t.factor i l ≡ pos 0 = h.unit_factor k l p q ∙ rw (ne_eqb l k other) refl in
    let both : pos 0 *ℤ t.factor r k ≡ pos t.scale *ℤ t.factor r l = ap (λ z. z *ℤ t.factor r k) (sym none) ∙ same i (h.units_in k p) ∙ ap (λ z. z *ℤ t.factor r l) own in
    let some = above_product (pos t.scale) (t.factor r l) (let s = h.scale in omega (arith, ints)) above in
    let gone = none_times (t.factor r k) in
    omega (arith, ints)

below_suc : (j l : ℕ) → j < suc l → (j ≡ l → ⊥) → j < l
below_suc j l p other = omega arith

-- the unit after a comparison
abbrev pub next_of : Option Bool → ℕ → ℕ → Option ℕ
next_of None k l = None
next_of (Some true) k l = Some l
next_of (Some false) k l = Some k

kept : (cells : List (List Fraction)) (t : Scaled) (r k l : ℕ) → IsHeld cells t r l k → (IsCandidate cells r (suc l) → IsBefore t r (suc k) (suc l)) → IsHeld cells t r (suc l) k
kept cells t r k l h more = record {
  column = (let c = h.column in omega arith);
  candidate = h.candidate;
  first = λ j p other above.
      elim (eqb_tells j l) [
        | inl x ↦ subst (λ (m : ℕ). IsBefore t r (suc k) (suc m)) (sym x.1) (more (subst (λ (m : ℕ). IsCandidate cells r (suc m)) x.1 above))
        | inr x ↦ h.first j (below_suc j l p x.1) other above
      ];
}

taken : (n : ℕ) (cells : List (List Fraction)) (t : Scaled) (r k l : ℕ) → IsSetting n cells t → r < length cells → l < n → IsHeld cells t r l k → IsCandidate cells r (suc l) → IsBefore t r (suc l) (suc k) → IsHeld cells t r (suc l) l
taken n cells t r k l h there q held above before = record {
  column = omega arith;
  candidate = above;
  first = λ j p other candidate.
      elim (eqb_tells j k) [
        | inl x ↦ subst (λ (m : ℕ). IsBefore t r (suc l) (suc m)) (sym x.1) before
        | inr x ↦
            let within : j < l = below_suc j l p other in
            let c = held.column in
            before_chain t r l k j (candidate_above n cells t r k h there (omega arith) held.candidate) (candidate_above n cells t r l h there q above) (candidate_above n cells t r j h there (omega arith) candidate) before (held.first j within x.1 candidate)
      ];
}

-- one unit is held
opposite : (x y : ℤ) → pos 0 <ℤ ((x -ℤ y) +ℤ (y -ℤ x)) → ⊥
opposite x y h = omega (arith, ints)

one_before : (t : Scaled) (r k l : ℕ) → IsBefore t r k l → IsBefore t r l k → ⊥
one_before t r k l h g =
    let both = first_above-add (λ i. number_at t i l *ℤ number_at t r k -ℤ number_at t i k *ℤ number_at t r l) (λ i. number_at t i k *ℤ number_at t r l -ℤ number_at t i l *ℤ number_at t r k) h g in
    opposite (number_at t both.first l *ℤ number_at t r k) (number_at t both.first k *ℤ number_at t r l) both.above

pub held_same : (cells : List (List Fraction)) (t : Scaled) (r l k m : ℕ) → IsHeld cells t r l k → IsHeld cells t r l m → m ≡ k
held_same cells t r l k m h g =
    elim (eqb_tells m k) [
      | inl x ↦ x.1
      | inr x ↦ absurd (one_before t r (suc k) (suc m) (h.first m g.column x.1 g.candidate) (g.first k h.column (λ e. x.1 (sym e)) h.candidate))
    ]

-- the comparisons with one more unit fit
choice_more : (cells : List (List Fraction)) (t : Scaled) (r l k : ℕ) → IsHeld cells t r l k → (IsCandidate cells r (suc l) → CompareFits cells t r (suc k) (suc l)) → ChoiceFits l cells t r → ChoiceFits (suc l) cells t r
choice_more cells t r l k held fits before = record {
  at = λ j m p is above. elim (eqb_tells m l) [
    | inl x ↦
        let there : IsHeld cells t r l j = subst (λ (y : ℕ). IsHeld cells t r y j) x.1 is in
        subst (λ (y : ℕ). CompareFits cells t r (suc j) (suc y)) (sym x.1) (subst (λ (y : ℕ). CompareFits cells t r (suc y) (suc l)) (sym (held_same cells t r l k j held there)) (fits (subst (λ (y : ℕ). IsCandidate cells r (suc y)) x.1 above)))
    | inr x ↦ before.at j m (below_suc m l p x.1) is above
  ];
}

-- no comparison up to the first candidate
pub first_fits : (cells : List (List Fraction)) (t : Scaled) (r n first : ℕ) → FirstCandidate (Some first) cells r n → ChoiceFits (suc first) cells t r
first_fits cells t r n first h = record { at = λ k l p held above. absurd (h.2 k (let c = held.column in omega arith) held.candidate) }

pub next_same : (n : ℕ) (cells : List (List Fraction)) (t : Scaled) (r k l : ℕ) → IsHeld cells t r l k → (IsCandidate cells r (suc l) → ⊥) → IsHeld cells t r (suc l) k × (ChoiceFits l cells t r → ChoiceFits (suc l) cells t r)
next_same n cells t r k l h none = (kept cells t r k l h (λ above. absurd (none above)), choice_more cells t r l k h (λ above. absurd (none above)))

pub next_gives : (found : Option Bool) (n : ℕ) (cells : List (List Fraction)) (t : Scaled) (r k l : ℕ) → IsSetting n cells t → r < length cells → l < n → IsHeld cells t r l k → IsCandidate cells r (suc l) → ((m : ℕ) (s : Scaled) → ShowsPair m cells s r (suc k) (suc l) → ComparisonGives found cells s r (suc k) (suc l)) → NextGives (next_of found k l) n cells t r l
next_gives None n cells t r k l h there q held above gives = λ fits. gives n t (pair_of n cells t r k l h there (let c = held.column in omega arith) q held.candidate above) (fits.at k l q held above)
next_gives (Some true) n cells t r k l h there q held above gives =
    let found = gives n t (pair_of n cells t r k l h there (let c = held.column in omega arith) q held.candidate above) in
    (taken n cells t r k l h there q held above found.0, choice_more cells t r l k held (λ _. found.1))
next_gives (Some false) n cells t r k l h there q held above gives =
    let c = held.column in
    let in_k : k < n = omega arith in
    let found = gives n t (pair_of n cells t r k l h there in_k q held.candidate above) in (
      kept cells t r k l held (λ _.
          elim found.0 [
            | inl before ↦ before
            | inr same ↦ absurd (differ n cells t r k l h in_k q (λ e. omega arith) (candidate_above n cells t r l h there q above) same)
          ]),
      choice_more cells t r l k held (λ _. found.1),
    )

pub first_held : (cells : List (List Fraction)) (t : Scaled) (r n first : ℕ) → FirstCandidate (Some first) cells r n → IsHeld cells t r (suc first) first
first_held cells t r n first h = record {
  column = omega arith;
  candidate = h.1;
  first = λ j p other above. absurd (h.2 j (below_suc j first p other) above);
}

-- the held unit of the first row with a value below 0 is the place of the written pivot
pub pivot_place : (n : ℕ) (cells : List (List Fraction)) (t : Scaled) (r k : ℕ) → IsSetting n cells t → r < length cells → IsHeld cells t r n k → 1 ≤ r → t.value r <ℤ pos 0 → ((i : ℕ) → 1 ≤ i → i < r → pos 0 ≤ℤ t.value i) → IsPivotPlace n t r k
pivot_place n cells t r k h there held some below first = record {
  row = some;
  below = below;
  first = first;
  column = held.column;
  candidate = candidate_above n cells t r k h there held.column held.candidate;
  least = λ l p other above. held.first l p other (above_candidate n cells t r l h there p above);
}
