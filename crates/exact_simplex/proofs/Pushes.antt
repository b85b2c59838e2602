-- A list that a loop makes by pushes.
use Rattle.std.proofs.Common.{◌≡◌, ℕ, suc, ◌+◌, ◌<◌, ℤ, pos, sym, ap, subst, ◌∙◌, arith, List, [], ◌∷◌, ◌++◌, length, get_or, length-append, ◌⊎◌, inl, inr}
use Rattle.std.proofs.lemmas.List.{get_or_append_left, get_or_push}
use Rattle.exact_fraction.specs.declared.fraction.Fraction.{Fraction}
use Rattle.exact_simplex.specs.Cells.{cell_of, row_of, no_fraction}
use Rattle.std.proofs.lemmas.Bool.{cases_eq}
use Rattle.exact_simplex.specs.Beginning.{IsWhole, IsWholeRow}
use Rattle.exact_simplex.specs.Kept.{AreBelow, IsRising, all_cells, value_of}
use Rattle.exact_simplex.specs.declared.tableau_row.Kept.{Kept}
use Rattle.exact_simplex.proofs.KeptFacts.{cell_is, size_is}
use Rattle.exact_simplex.proofs.MergeFacts.{KeptNext}

either : (k n : ℕ) → k < n + 1 → (k < n) ⊎ (k ≡ n)
either k n h = grind arith

-- what holds at each place, and of the new cell at the next, holds at each place of the longer list
pub pushed : (P : ℕ → Fraction → Type 0) (xs : List Fraction) (x : Fraction) (n : ℕ) → length xs ≡ n → ((c : ℕ) → c < n → P c (cell_of xs c)) → P n x → (c : ℕ) → c < n + 1 → P c (cell_of (xs ++ x ∷ []) c)
pushed P xs x n size before here c h =
    elim (either c n h) [
      | inl p ↦ subst (λ f. P c f) (sym (get_or_append_left xs (x ∷ []) no_fraction c (omega arith))) (before c p)
      | inr p ↦ subst (λ m. P m (cell_of (xs ++ x ∷ []) m)) (sym p) (subst (λ f. P n f) (sym (get_or_push xs x no_fraction n size)) here)
    ]

-- the first rows of a list each have what their place asks
pub record Listed (P : ℕ → List Fraction → Type 0) (rows : List (List Fraction)) (n : ℕ) : Type 0 where
  pub size : length rows ≡ n
  pub at : (i : ℕ) → i < n → P i (row_of rows i)

pub row_pushed : (P : ℕ → List Fraction → Type 0) (rows : List (List Fraction)) (row : List Fraction) (n : ℕ) → Listed P rows n → P n row → Listed P (rows ++ row ∷ []) (n + 1)
row_pushed P rows row n before here = record {
  size = length-append rows (row ∷ []) ∙ ap (λ (k : ℕ). k + 1) before.size;
  at = λ i h.
      elim (either i n h) [
        | inl p ↦ subst (λ r. P i r) (sym (get_or_append_left rows (row ∷ []) [] i (let e = before.size in omega arith))) (before.at i p)
        | inr p ↦ subst (λ (m : ℕ). P m (row_of (rows ++ row ∷ []) m)) (sym p) (subst (λ r. P n r) (sym (get_or_push rows row [] n before.size)) here)
      ];
}

-- a row of whole numbers so far
pub record WholeUpTo (value : ℤ) (slopes : List ℤ) (kept : List Kept) (n : ℕ) : Type 0 where
  pub rising : IsRising 0 kept
  pub below : AreBelow (suc n) kept
  pub first : IsWhole (value_of kept 0) value
  pub others : (k : ℕ) → k < n → IsWhole (value_of kept (suc k)) (get_or slopes k (pos 0))

pub whole_start : (value : ℤ) (slopes : List ℤ) (kept : List Kept) (cell : Fraction) → IsWhole cell value → KeptNext [] kept 0 cell → WholeUpTo value slopes kept 0
whole_start value slopes kept cell is next = record {
  rising = next.rising;
  below = next.below;
  first = (next.num ∙ is.0, next.den ∙ is.1);
  others = λ k p. absurd (omega arith);
}

pub whole_next : (value : ℤ) (slopes : List ℤ) (old new : List Kept) (cell : Fraction) (n m : ℕ) → m ≡ suc n → WholeUpTo value slopes old n → IsWhole cell (get_or slopes n (pos 0)) → KeptNext old new m cell → WholeUpTo value slopes new m
whole_next value slopes old new cell n m up before is next = record {
  rising = next.rising;
  below = next.below;
  first = subst (λ (f : Fraction). IsWhole f value) (sym (next.others 0 (λ e. omega arith))) before.first;
  others = λ k p. elim (cases_eq k n) [
    | inl here ↦
        (let there : m ≡ suc k = omega arith in
        let own : IsWhole (value_of new m) (get_or slopes n (pos 0)) = (next.num ∙ is.0, next.den ∙ is.1) in
        subst (λ (j : ℕ). IsWhole (value_of new (suc k)) (get_or slopes j (pos 0))) (sym here) (subst (λ (j : ℕ). IsWhole (value_of new j) (get_or slopes n (pos 0))) there own))
    | inr other ↦ subst (λ (f : Fraction). IsWhole f (get_or slopes k (pos 0))) (sym (next.others (suc k) (λ e. other (omega arith)))) (before.others k (omega arith))
  ];
}

pub whole_end : (value : ℤ) (slopes : List ℤ) (kept : List Kept) (size n : ℕ) → n ≡ length slopes → size ≡ suc n → WholeUpTo value slopes kept n → IsWholeRow (all_cells size kept) value slopes
whole_end value slopes kept size n is_n is_size h =
    let below : AreBelow size kept = subst (λ (m : ℕ). AreBelow m kept) (sym is_size) h.below in
    record {
      size = size_is size kept ∙ is_size ∙ ap suc is_n;
      first = subst (λ (f : Fraction). IsWhole f value) (cell_is size kept below 0) h.first;
      others = λ k p. subst (λ (f : Fraction). IsWhole f (get_or slopes k (pos 0))) (cell_is size kept below (suc k)) (h.others k (omega arith));
    }
