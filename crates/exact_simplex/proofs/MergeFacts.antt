-- Rows that are made cell by cell, by rising column.
use Rattle.std.proofs.Common.{◌≡◌, ◌≢◌, ℕ, suc, ◌<◌, ◌≤◌, ◌∙◌, ap, refl, sym, subst, arith, ◌==◌, Bool, true, false, List, [], ◌∷◌, length, ℤ, pos, ◌*ℤ◌, ◌-ℤ◌, ◌<ℤ◌, inl, inr}
use Rattle.std.proofs.lemmas.Bool.{cases_eq, cases_lt, eq-eqb, ne_eqb}
use Rattle.exact_fraction.specs.declared.fraction.Fraction.{Fraction}
use Rattle.exact_simplex.specs.Cells.{cell_of, no_fraction}
use Rattle.exact_simplex.specs.Changes.{AreShares, CellFor, CellForFits, IsRowAfter, IsUnitRow, RowAfterFits, ShareFor, SharesFit}
use Rattle.exact_simplex.specs.Pivots.{QuotientFits}
use Rattle.exact_simplex.specs.Kept.{AreBelow, AreKept, HasFirst, IsFirstColumn, IsRising, all_cells, value_of}
use Rattle.exact_simplex.specs.declared.tableau_row.Kept.{Kept}
use Rattle.exact_simplex.proofs.CellSteps.{nothing_taken}
use Rattle.exact_simplex.proofs.FitFacts.{none_over, nothing_fits}
use Rattle.exact_simplex.proofs.KeptFacts.{below_more, cell_is, head_below, none_above, none_before, size_is, tail_below, value_here, value_later}
use Rattle.exact_simplex.proofs.Ring.{none_times}

-- ---- cells that are 0

none_shared : (own : Bool) (pivot : Fraction) → pos 0 <ℤ pivot.num → ShareFor own no_fraction no_fraction pivot
none_shared true pivot above = refl
none_shared false pivot above = (none_times (pos 1 *ℤ pivot.num) ∙ sym (ap (λ (z : ℤ). z *ℤ pos 1) (none_times pivot.den) ∙ none_times (pos 1)), none_over pivot above)

none_changed : (own : Bool) (factor pivot : Fraction) → pos 0 <ℤ pivot.num → (own ≡ true → factor ≡ no_fraction) → CellFor own no_fraction no_fraction factor no_fraction pivot
none_changed true factor pivot above h = subst (λ (f : Fraction). CellFor true no_fraction no_fraction f no_fraction pivot) (sym (h refl)) (none_times (pos 1 *ℤ pivot.num) ∙ sym (ap (λ (z : ℤ). z *ℤ pos 1) (none_times pivot.den) ∙ none_times (pos 1)), none_over pivot above)
none_changed false factor pivot above h = nothing_taken no_fraction factor no_fraction refl (nothing_fits no_fraction factor no_fraction refl)

-- ---- a new cell by its number alone

share_as : (own : Bool) (share same cell pivot : Fraction) → same.num ≡ share.num → same.den ≡ share.den → ShareFor own share cell pivot → ShareFor own same cell pivot
share_as true share same cell pivot num den h = num ∙ h
share_as false share same cell pivot num den h = (ap (λ (z : ℤ). z *ℤ (cell.den *ℤ pivot.num)) num ∙ h.0 ∙ ap (λ (z : ℤ). (cell.num *ℤ pivot.den) *ℤ z) (sym den), h.1)

cell_as : (own : Bool) (new same old factor share pivot : Fraction) → same.num ≡ new.num → same.den ≡ new.den → CellFor own new old factor share pivot → CellFor own same old factor share pivot
cell_as true new same old factor share pivot num den h = (ap (λ (z : ℤ). z *ℤ (factor.den *ℤ pivot.num)) num ∙ h.0 ∙ ap (λ (z : ℤ). (factor.num *ℤ pivot.den) *ℤ z) (sym den), h.1)
cell_as false new same old factor share pivot num den h = record {
  scaled = λ a b c d p above_d above_p is_old is_factor is_share.
      ap (λ (z : ℤ). z *ℤ (d *ℤ p)) num ∙ h.scaled a b c d p above_d above_p is_old is_factor is_share ∙ ap (λ (z : ℤ). (a *ℤ p -ℤ b *ℤ c) *ℤ z) (sym den);
  fits = h.fits;
}

same_column : (c k : ℕ) → (c == k) ≡ true → c ≡ k
same_column c k h = elim (cases_eq c k) [
  | inl e ↦ e
  | inr e ↦ absurd (let other = sym h ∙ ne_eqb c k e in cc)
]

-- a cell was kept after the others
pub record KeptNext (old new : List Kept) (column : ℕ) (value : Fraction) : Type 0 where
  pub rising : IsRising 0 new
  pub below : AreBelow (suc column) new
  pub num : (value_of new column).num ≡ value.num
  pub den : (value_of new column).den ≡ value.den
  pub others : (c : ℕ) → c ≢ column → value_of new c ≡ value_of old c

-- ---- the shares of the kept cells so far

pub record SharesUpTo (row : List Fraction) (k : ℕ) (pivot : Fraction) (shares rest : List Kept) : Type 0 where
  pub above : pos 0 <ℤ pivot.num
  pub from : ℕ
  pub within : from ≤ length row
  pub rest_rises : IsRising from rest
  pub rest_below : AreBelow (length row) rest
  pub rest_is : (c : ℕ) → from ≤ c → value_of rest c ≡ cell_of row c
  pub rising : IsRising 0 shares
  pub below : AreBelow from shares
  pub done : (c : ℕ) → c < from → ShareFor (c == k) (value_of shares c) (cell_of row c) pivot

pub shares_start : (row : List Fraction) (k : ℕ) (pivot : Fraction) (kept : List Kept) → pos 0 <ℤ pivot.num → AreKept (length row) kept → ((c : ℕ) → value_of kept c ≡ cell_of row c) → SharesUpTo row k pivot [] kept
shares_start row k pivot kept above are same = record {
  above = above;
  from = 0;
  within = omega arith;
  rest_rises = are.rising;
  rest_below = are.below;
  rest_is = λ c p. same c;
  rising = tt;
  below = λ i d p. absurd (omega arith);
  done = λ c p. absurd (omega arith);
}

no_share : (row : List Fraction) (k : ℕ) (pivot : Fraction) (shares : List Kept) (c : ℕ) → pos 0 <ℤ pivot.num → value_of shares c ≡ no_fraction → cell_of row c ≡ no_fraction → ShareFor (c == k) (value_of shares c) (cell_of row c) pivot
no_share row k pivot shares c above is_share is_cell = subst (λ (f : Fraction). ShareFor (c == k) f (cell_of row c) pivot) (sym is_share) (subst (λ (f : Fraction). ShareFor (c == k) no_fraction f pivot) (sym is_cell) (none_shared (c == k) pivot above))

head_is : (row : List Fraction) (k : ℕ) (pivot : Fraction) (shares : List Kept) (cell : Kept) (rest : List Kept) → SharesUpTo row k pivot shares (cell ∷ rest) → cell.value ≡ cell_of row cell.column
head_is row k pivot shares cell rest h = sym (value_here cell rest) ∙ h.rest_is cell.column h.rest_rises.0

pub shares_next : (row : List Fraction) (k : ℕ) (pivot : Fraction) (shares new : List Kept) (cell : Kept) (rest : List Kept) (share : Fraction) → SharesUpTo row k pivot shares (cell ∷ rest) → ShareFor (cell.column == k) share cell.value pivot → KeptNext shares new cell.column share → SharesUpTo row k pivot new rest
shares_next row k pivot shares new cell rest share h is next =
    let first : h.from ≤ cell.column = h.rest_rises.0 in
    let own : ShareFor (cell.column == k) (value_of new cell.column) (cell_of row cell.column) pivot = share_as (cell.column == k) share (value_of new cell.column) (cell_of row cell.column) pivot next.num next.den (subst (λ (f : Fraction). ShareFor (cell.column == k) share f pivot) (head_is row k pivot shares cell rest h) is) in
    record {
      above = h.above;
      from = suc cell.column;
      within = head_below (length row) cell rest h.rest_below;
      rest_rises = h.rest_rises.2;
      rest_below = tail_below (length row) cell rest h.rest_below;
      rest_is = λ c p. sym (value_later cell rest c (λ e. omega arith)) ∙ h.rest_is c (omega arith);
      rising = next.rising;
      below = next.below;
      done = λ c p. elim (cases_eq c cell.column) [
        | inl here ↦ subst (λ (m : ℕ). ShareFor (m == k) (value_of new m) (cell_of row m) pivot) (sym here) own
        | inr other ↦ subst (λ (f : Fraction). ShareFor (c == k) f (cell_of row c) pivot) (sym (next.others c other)) (elim (cases_lt c h.from) [
          | inl before ↦ h.done c before
          | inr after ↦ no_share row k pivot shares c h.above (none_above h.from shares h.below c (omega arith)) (sym (h.rest_is c (omega arith)) ∙ none_before cell.column (cell ∷ rest) (omega arith, h.rest_rises.1, h.rest_rises.2) c (omega arith))
        ])
      ];
    }

pub shares_stuck : (row : List Fraction) (k : ℕ) (pivot : Fraction) (shares : List Kept) (cell : Kept) (rest : List Kept) → SharesUpTo row k pivot shares (cell ∷ rest) → (cell.column == k) ≡ false → (QuotientFits cell.value pivot → ⊥) → SharesFit row k pivot → ⊥
shares_stuck row k pivot shares cell rest h other never fit = never (subst (λ (f : Fraction). QuotientFits f pivot) (sym (head_is row k pivot shares cell rest h)) (fit.at cell.column (head_below (length row) cell rest h.rest_below) other))

pub shares_kept : (row : List Fraction) (k : ℕ) (pivot : Fraction) (shares : List Kept) → SharesUpTo row k pivot shares [] → AreKept (length row) shares
shares_kept row k pivot shares h = record { rising = h.rising; below = below_more h.from (length row) shares h.within h.below }

pub shares_end : (row : List Fraction) (k : ℕ) (pivot : Fraction) (shares : List Kept) (size : ℕ) → size ≡ length row → SharesUpTo row k pivot shares [] → AreShares (all_cells size shares) row k pivot
shares_end row k pivot shares size same h =
    let below : AreBelow size shares = below_more h.from size shares (let w = h.within in omega arith) h.below in
    record {
      size = size_is size shares ∙ same;
      at = λ c p. subst (λ (f : Fraction). ShareFor (c == k) f (cell_of row c) pivot) (cell_is size shares below c) (elim (cases_lt c h.from) [
        | inl before ↦ h.done c before
        | inr after ↦ no_share row k pivot shares c h.above (none_above h.from shares h.below c (omega arith)) (sym (h.rest_is c (omega arith)))
      ]);
    }

-- ---- the new row so far

pub record RowUpTo (row shares : List Fraction) (k : ℕ) (pivot : Fraction) (left right new : List Kept) : Type 0 where
  pub above : pos 0 <ℤ pivot.num
  pub from : ℕ
  pub within : from ≤ length row
  pub left_rises : IsRising from left
  pub right_rises : IsRising from right
  pub left_below : AreBelow (length row) left
  pub right_below : AreBelow (length row) right
  pub left_is : (c : ℕ) → from ≤ c → value_of left c ≡ cell_of row c
  pub right_is : (c : ℕ) → from ≤ c → value_of right c ≡ cell_of shares c
  pub rising : IsRising 0 new
  pub below : AreBelow from new
  pub done : (c : ℕ) → c < from → CellFor (c == k) (value_of new c) (cell_of row c) (cell_of row k) (cell_of shares c) pivot

pub row_start : (row shares : List Fraction) (k : ℕ) (pivot : Fraction) (left right : List Kept) → pos 0 <ℤ pivot.num → length shares ≡ length row → AreKept (length row) left → ((c : ℕ) → value_of left c ≡ cell_of row c) → AreKept (length shares) right → ((c : ℕ) → value_of right c ≡ cell_of shares c) → RowUpTo row shares k pivot left right []
row_start row shares k pivot left right above size left_are left_is right_are right_is = record {
  above = above;
  from = 0;
  within = omega arith;
  left_rises = left_are.rising;
  right_rises = right_are.rising;
  left_below = left_are.below;
  right_below = subst (λ (n : ℕ). AreBelow n right) size right_are.below;
  left_is = λ c p. left_is c;
  right_is = λ c p. right_is c;
  rising = tt;
  below = λ i d p. absurd (omega arith);
  done = λ c p. absurd (omega arith);
}

no_cell : (row shares : List Fraction) (k : ℕ) (pivot : Fraction) (new : List Kept) (c : ℕ) → pos 0 <ℤ pivot.num → value_of new c ≡ no_fraction → cell_of row c ≡ no_fraction → cell_of shares c ≡ no_fraction → CellFor (c == k) (value_of new c) (cell_of row c) (cell_of row k) (cell_of shares c) pivot
no_cell row shares k pivot new c above is_new is_old is_share =
    subst (λ (f : Fraction). CellFor (c == k) f (cell_of row c) (cell_of row k) (cell_of shares c) pivot) (sym is_new)
    (subst (λ (f : Fraction). CellFor (c == k) no_fraction f (cell_of row k) (cell_of shares c) pivot) (sym is_old)
    (subst (λ (f : Fraction). CellFor (c == k) no_fraction no_fraction (cell_of row k) f pivot) (sym is_share)
    (none_changed (c == k) (cell_of row k) pivot above (λ own. ap (cell_of row) (sym (same_column c k own)) ∙ is_old))))

first_in : (most place : ℕ) (kept : List Kept) → AreBelow most kept → HasFirst place kept → place < most
first_in most place [] h is = absurd is
first_in most place (cell ∷ rest) h is = let under = head_below most cell rest h in omega (arith, is)

pub first_within : (row shares : List Fraction) (k : ℕ) (pivot : Fraction) (left right new : List Kept) (place : ℕ) → RowUpTo row shares k pivot left right new → IsFirstColumn place left right → place < length row
first_within row shares k pivot left right new place h first = elim first.there [
  | inl is ↦ first_in (length row) place left h.left_below is
  | inr is ↦ first_in (length row) place right h.right_below is
]

-- what is taken from one of the two rows
pub record TakenAt (kept rest : List Kept) (place : ℕ) (value : Fraction) : Type 0 where
  pub value_is : value ≡ value_of kept place
  pub rising : IsRising (suc place) rest
  pub later : (c : ℕ) → place < c → value_of rest c ≡ value_of kept c
  pub below : (most : ℕ) → AreBelow most kept → AreBelow most rest

pub row_next : (row shares : List Fraction) (k : ℕ) (pivot : Fraction) (left right new left_rest right_rest newer : List Kept) (place : ℕ) (old share cell : Fraction) → RowUpTo row shares k pivot left right new → IsFirstColumn place left right → TakenAt left left_rest place old → TakenAt right right_rest place share → CellFor (place == k) cell old (cell_of row k) share pivot → KeptNext new newer place cell → RowUpTo row shares k pivot left_rest right_rest newer
row_next row shares k pivot left right new left_rest right_rest newer place old share cell h first from_left from_right is next =
    let above : h.from ≤ place = first.from h.from h.left_rises h.right_rises in
    let is_old : old ≡ cell_of row place = from_left.value_is ∙ h.left_is place above in
    let is_share : share ≡ cell_of shares place = from_right.value_is ∙ h.right_is place above in
    let own : CellFor (place == k) (value_of newer place) (cell_of row place) (cell_of row k) (cell_of shares place) pivot = cell_as (place == k) cell (value_of newer place) (cell_of row place) (cell_of row k) (cell_of shares place) pivot next.num next.den (subst (λ (f : Fraction). CellFor (place == k) cell f (cell_of row k) (cell_of shares place) pivot) is_old (subst (λ (f : Fraction). CellFor (place == k) cell old (cell_of row k) f pivot) is_share is)) in
    record {
      above = h.above;
      from = suc place;
      within = first_within row shares k pivot left right new place h first;
      left_rises = from_left.rising;
      right_rises = from_right.rising;
      left_below = from_left.below (length row) h.left_below;
      right_below = from_right.below (length row) h.right_below;
      left_is = λ c p. from_left.later c (omega arith) ∙ h.left_is c (omega arith);
      right_is = λ c p. from_right.later c (omega arith) ∙ h.right_is c (omega arith);
      rising = next.rising;
      below = next.below;
      done = λ c p. elim (cases_eq c place) [
        | inl here ↦ subst (λ (m : ℕ). CellFor (m == k) (value_of newer m) (cell_of row m) (cell_of row k) (cell_of shares m) pivot) (sym here) own
        | inr other ↦ subst (λ (f : Fraction). CellFor (c == k) f (cell_of row c) (cell_of row k) (cell_of shares c) pivot) (sym (next.others c other)) (elim (cases_lt c h.from) [
          | inl before ↦ h.done c before
          | inr after ↦ no_cell row shares k pivot new c h.above (none_above h.from new h.below c (omega arith)) (sym (h.left_is c (omega arith)) ∙ none_before place left (first.left_rises h.from h.left_rises) c (omega arith)) (sym (h.right_is c (omega arith)) ∙ none_before place right (first.right_rises h.from h.right_rises) c (omega arith))
        ])
      ];
    }

pub row_stuck : (row shares : List Fraction) (k : ℕ) (pivot : Fraction) (left right new : List Kept) (place : ℕ) (old share : Fraction) → RowUpTo row shares k pivot left right new → IsFirstColumn place left right → old ≡ value_of left place → share ≡ value_of right place → (CellForFits (place == k) old (cell_of row k) share pivot → ⊥) → RowAfterFits row shares k pivot → ⊥
row_stuck row shares k pivot left right new place old share h first old_is share_is never fit =
    let above : h.from ≤ place = first.from h.from h.left_rises h.right_rises in
    let is_old : cell_of row place ≡ old = sym (old_is ∙ h.left_is place above) in
    let is_share : cell_of shares place ≡ share = sym (share_is ∙ h.right_is place above) in
    never (subst (λ (f : Fraction). CellForFits (place == k) f (cell_of row k) share pivot) is_old (subst (λ (f : Fraction). CellForFits (place == k) (cell_of row place) (cell_of row k) f pivot) is_share (fit.at place (first_within row shares k pivot left right new place h first))))

pub row_kept : (row shares : List Fraction) (k : ℕ) (pivot : Fraction) (left right new : List Kept) → RowUpTo row shares k pivot left right new → AreKept (length row) new
row_kept row shares k pivot left right new h = record { rising = h.rising; below = below_more h.from (length row) new h.within h.below }

pub row_end : (row shares : List Fraction) (k : ℕ) (pivot : Fraction) (new : List Kept) (size : ℕ) → size ≡ length row → RowUpTo row shares k pivot [] [] new → IsRowAfter (all_cells size new) row shares k pivot
row_end row shares k pivot new size same h =
    let below : AreBelow size new = below_more h.from size new (let w = h.within in omega arith) h.below in
    record {
      size = size_is size new ∙ same;
      at = λ c p. subst (λ (f : Fraction). CellFor (c == k) f (cell_of row c) (cell_of row k) (cell_of shares c) pivot) (cell_is size new below c) (elim (cases_lt c h.from) [
        | inl before ↦ h.done c before
        | inr after ↦ no_cell row shares k pivot new c h.above (none_above h.from new h.below c (omega arith)) (sym (h.left_is c (omega arith))) (sym (h.right_is c (omega arith)))
      ]);
    }

-- the row that keeps one cell
pub unit_made : (size column : ℕ) (kept : List Kept) (value : Fraction) → value.num ≡ pos 1 → value.den ≡ pos 1 → column < size → KeptNext [] kept column value → IsUnitRow (all_cells size kept) column size
unit_made size column kept value num den there next =
    let below : AreBelow size kept = below_more (suc column) size kept (omega arith) next.below in
    record {
      sized = size_is size kept;
      nums = λ c p. ap (λ (f : Fraction). f.num) (sym (cell_is size kept below c)) ∙ (elim (cases_eq c column) [
        | inl here ↦ rw (eq-eqb c column here) (subst (λ (m : ℕ). (value_of kept m).num ≡ pos 1) (sym here) (next.num ∙ num))
        | inr other ↦ rw (ne_eqb c column other) (ap (λ (f : Fraction). f.num) (next.others c other))
      ]);
      dens = λ c p. ap (λ (f : Fraction). f.den) (sym (cell_is size kept below c)) ∙ (elim (cases_eq c column) [
        | inl here ↦ subst (λ (m : ℕ). (value_of kept m).den ≡ pos 1) (sym here) (next.den ∙ den)
        | inr other ↦ ap (λ (f : Fraction). f.den) (next.others c other)
      ]);
    }
