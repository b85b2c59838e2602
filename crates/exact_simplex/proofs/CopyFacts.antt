-- A row with another value, and the rows that are made one by one.
use Rattle.std.proofs.Common.{◌≡◌, ℕ, zero, suc, ◌+◌, ◌<◌, ◌≤◌, ◌∙◌, ap, refl, sym, subst, arith, List, [], ◌∷◌, length, get_or, drop, inl, inr}
use Rattle.std.proofs.Math.Seq.{drop-length}
use Rattle.std.proofs.lemmas.Bool.{cases_eq, cases_lt}
use Rattle.exact_fraction.specs.declared.fraction.Fraction.{Fraction}
use Rattle.exact_simplex.specs.Cells.{cell_of, row_of}
use Rattle.exact_simplex.specs.Kept.{AreBelow, AreKept, IsRising, all_cells, value_of}
use Rattle.exact_simplex.specs.declared.tableau_row.Kept.{Kept}
use Rattle.exact_simplex.specs.Rebounds.{HasValue, IsSame}
use Rattle.exact_simplex.proofs.KeptFacts.{below_more, cell_is, head_below, none_above, none_before, size_is, tail_below, value_here, value_later}
use Rattle.exact_simplex.proofs.MergeFacts.{KeptNext}

-- the value and the cells before a column were kept, and the rest follow
pub record CopyUpTo (row : List Fraction) (value : Fraction) (new rest : List Kept) : Type 0 where
  pub from : ℕ
  pub some : 1 ≤ from
  pub within : from ≤ length row
  pub rest_rises : IsRising from rest
  pub rest_below : AreBelow (length row) rest
  pub rest_is : (c : ℕ) → from ≤ c → value_of rest c ≡ cell_of row c
  pub rising : IsRising 0 new
  pub below : AreBelow from new
  pub first : IsSame (value_of new 0) value
  pub done : (c : ℕ) → 1 ≤ c → c < from → IsSame (value_of new c) (cell_of row c)

pub copy_start : (row : List Fraction) (value : Fraction) (kept rest new : List Kept) → 1 ≤ length row → AreKept (length row) kept → ((c : ℕ) → value_of kept c ≡ cell_of row c) → IsRising 1 rest → ((c : ℕ) → 0 < c → value_of rest c ≡ value_of kept c) → ((most : ℕ) → AreBelow most kept → AreBelow most rest) → KeptNext [] new 0 value → CopyUpTo row value new rest
copy_start row value kept rest new some are same rises later below next = record {
  from = 1;
  some = omega arith;
  within = some;
  rest_rises = rises;
  rest_below = below (length row) are.below;
  rest_is = λ c p. later c (omega arith) ∙ same c;
  rising = next.rising;
  below = next.below;
  first = (next.num, next.den);
  done = λ c p q. absurd (omega arith);
}

same_of : (f g : Fraction) → f ≡ g → IsSame f g
same_of f g h = (ap (λ (x : Fraction). x.num) h, ap (λ (x : Fraction). x.den) h)

pub copy_next : (row : List Fraction) (value : Fraction) (new newer : List Kept) (cell : Kept) (rest : List Kept) → CopyUpTo row value new (cell ∷ rest) → KeptNext new newer cell.column cell.value → CopyUpTo row value newer rest
copy_next row value new newer cell rest h next =
    let first : h.from ≤ cell.column = h.rest_rises.0 in
    let above = h.some in
    let is : cell.value ≡ cell_of row cell.column = sym (value_here cell rest) ∙ h.rest_is cell.column first in
    record {
      from = suc cell.column;
      some = omega arith;
      within = head_below (length row) cell rest h.rest_below;
      rest_rises = h.rest_rises.2;
      rest_below = tail_below (length row) cell rest h.rest_below;
      rest_is = λ c p. sym (value_later cell rest c (λ e. omega arith)) ∙ h.rest_is c (omega arith);
      rising = next.rising;
      below = next.below;
      first = subst (λ (f : Fraction). IsSame f value) (sym (next.others 0 (λ e. omega arith))) h.first;
      done = λ c one p. elim (cases_eq c cell.column) [
        | inl here ↦ subst (λ (m : ℕ). IsSame (value_of newer m) (cell_of row m)) (sym here) (subst (λ (f : Fraction). IsSame (value_of newer cell.column) f) is (next.num, next.den))
        | inr other ↦ subst (λ (f : Fraction). IsSame f (cell_of row c)) (sym (next.others c other)) (elim (cases_lt c h.from) [
          | inl before ↦ h.done c one before
          | inr after ↦ same_of _ _ (none_above h.from new h.below c (omega arith) ∙ sym (sym (h.rest_is c (omega arith)) ∙ none_before cell.column (cell ∷ rest) (omega arith, h.rest_rises.1, h.rest_rises.2) c (omega arith)))
        ])
      ];
    }

pub copy_kept : (row : List Fraction) (value : Fraction) (new : List Kept) (size : ℕ) → size ≡ length row → CopyUpTo row value new [] → AreKept size new
copy_kept row value new size same h = record { rising = h.rising; below = below_more h.from size new (let w = h.within in omega arith) h.below }

pub copy_end : (row : List Fraction) (value : Fraction) (new : List Kept) (size : ℕ) → size ≡ length row → CopyUpTo row value new [] → HasValue (all_cells size new) row value
copy_end row value new size same h =
    let below : AreBelow size new = below_more h.from size new (let w = h.within in omega arith) h.below in
    record {
      size = size_is size new ∙ same;
      first = subst (λ (f : Fraction). IsSame f value) (cell_is size new below 0) h.first;
      others = λ k p. subst (λ (f : Fraction). IsSame f (cell_of row (suc k))) (cell_is size new below (suc k)) (elim (cases_lt (suc k) h.from) [
        | inl before ↦ h.done (suc k) (omega arith) before
        | inr after ↦ same_of _ _ (none_above h.from new h.below (suc k) (omega arith) ∙ sym (sym (h.rest_is (suc k) (omega arith)) ∙ refl))
      ]);
    }

-- the item of a list of rows
pub row_there : (cells : List (List Fraction)) (i : ℕ) (row : List Fraction) → i < length cells → row ≡ get_or cells i row → row ≡ row_of cells i
row_there [] i row p is = absurd (omega arith)
row_there (x ∷ cells) zero row p is = is
row_there (x ∷ cells) (suc i) row p is = row_there cells i row (omega arith) is

-- what holds of each number below n, and of n, holds of each below n + 1
pub each_more : (P : ℕ → Type 0) (n : ℕ) → ((i : ℕ) → i < n → P i) → P n → (i : ℕ) → i < n + 1 → P i
each_more P n before here i p = elim (cases_eq i n) [
  | inl same ↦ subst P (sym same) here
  | inr other ↦ before i (omega arith)
]

pub copy_below : (row : List Fraction) (value : Fraction) (new : List Kept) (cell : Kept) (rest : List Kept) → CopyUpTo row value new (cell ∷ rest) → AreBelow cell.column new
copy_below row value new cell rest h = below_more h.from cell.column new h.rest_rises.0 h.below

pub copy_done : (row : List Fraction) (value : Fraction) (new cells : List Kept) (k : ℕ) → k ≡ length cells → CopyUpTo row value new (drop k cells) → CopyUpTo row value new []
copy_done row value new cells k same h = subst (λ (xs : List Kept). CopyUpTo row value new xs) (subst (λ (n : ℕ). drop n cells ≡ []) (sym same) (drop-length cells)) h
