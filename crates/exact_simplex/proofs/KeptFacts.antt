-- The cells that a row keeps, and what stands in its columns.
use Rattle.std.proofs.Common.{◌≡◌, ◌≢◌, ℕ, zero, suc, ◌+◌, ◌<◌, ◌≤◌, ◌∙◌, ap, refl, sym, subst, arith, ◌==◌, if◌then◌else◌, List, [], ◌∷◌, ◌++◌, length, slice_get, Some, None, inl, inr, ℤ, pos, unsigned_abs}
use Rattle.std.specs.Int.{IsGcd}
use Rattle.std.proofs.Math.Nat.{eq-one_of_dvd-one}
use Rattle.std.proofs.lemmas.Nat.Gcd.{dvd-zero, dvd_refl}
use Rattle.exact_fraction.specs.Sizes.{IsLowest}
use Rattle.std.proofs.lemmas.Bool.{cases_eq, cases_lt, eq-eqb, ne_eqb}
use Rattle.std.proofs.lemmas.List.{get_or_past}
use Rattle.std.proofs.lemmas.List.Elements.{All-tail, All-push}
use Rattle.std.proofs.lemmas.List.FromFn.{get_or-map-range_with_len, length-map-range_with_len}
use Rattle.std.proofs.lemmas.Option.{same_Some}
use Rattle.exact_fraction.specs.declared.fraction.Fraction.{Fraction}
use Rattle.exact_simplex.specs.Cells.{cell_of, no_fraction}
use Rattle.exact_simplex.specs.Kept.{AreBelow, IsFirstFrom, IsRising, all_cells, value_of}
use Rattle.exact_simplex.specs.declared.tableau_row.Kept.{Kept}

-- ---- what stands in a column

pub none_before : (from : ℕ) (kept : List Kept) → IsRising from kept → (c : ℕ) → c < from → value_of kept c ≡ no_fraction
none_before from [] h c p = refl
none_before from (cell ∷ rest) h c p =
    let above : from ≤ cell.column = h.0 in
    rw (ne_eqb c cell.column (λ e. omega arith)) (none_before (suc cell.column) rest h.2 c (omega arith))

pub value_here : (cell : Kept) (rest : List Kept) → value_of (cell ∷ rest) cell.column ≡ cell.value
value_here cell rest = rw (eq-eqb cell.column cell.column refl) refl

pub value_later : (cell : Kept) (rest : List Kept) (c : ℕ) → c ≢ cell.column → value_of (cell ∷ rest) c ≡ value_of rest c
value_later cell rest c h = rw (ne_eqb c cell.column h) refl

pub head_below : (most : ℕ) (cell : Kept) (rest : List Kept) → AreBelow most (cell ∷ rest) → cell.column < most
head_below most cell rest h = h 0 cell (omega arith)

pub tail_below : (most : ℕ) (cell : Kept) (rest : List Kept) → AreBelow most (cell ∷ rest) → AreBelow most rest
tail_below most cell rest h = All-tail (λ (k : Kept). k.column < most) cell rest h

pub none_above : (most : ℕ) (kept : List Kept) → AreBelow most kept → (c : ℕ) → most ≤ c → value_of kept c ≡ no_fraction
none_above most [] h c p = refl
none_above most (cell ∷ rest) h c p =
    let under = head_below most cell rest h in
    rw (ne_eqb c cell.column (λ e. omega arith)) (none_above most rest (tail_below most cell rest h) c p)

-- ---- a cell more at the end

pub value_pushed_here : (kept : List Kept) (cell : Kept) → AreBelow cell.column kept → value_of (kept ++ cell ∷ []) cell.column ≡ cell.value
value_pushed_here [] cell h = value_here cell []
value_pushed_here (k ∷ rest) cell h =
    let under = head_below cell.column k rest h in
    value_later k (rest ++ cell ∷ []) cell.column (λ e. omega arith) ∙ value_pushed_here rest cell (tail_below cell.column k rest h)

pub value_pushed_other : (kept : List Kept) (cell : Kept) (c : ℕ) → c ≢ cell.column → value_of (kept ++ cell ∷ []) c ≡ value_of kept c
value_pushed_other [] cell c h = value_later cell [] c h
value_pushed_other (k ∷ rest) cell c h = ap (λ (v : Fraction). if c == k.column then k.value else v) (value_pushed_other rest cell c h)

pub rising_pushed : (from : ℕ) (kept : List Kept) (cell : Kept) → IsRising from kept → AreBelow cell.column kept → from ≤ cell.column → cell.value.num ≢ pos 0 → IsRising from (kept ++ cell ∷ [])
rising_pushed from [] cell h below q some = (q, some, tt)
rising_pushed from (k ∷ rest) cell h below q some =
    let under = head_below cell.column k rest below in
    (h.0, h.1, rising_pushed (suc k.column) rest cell h.2 (tail_below cell.column k rest below) (omega arith) some)

pub below_pushed : (most : ℕ) (kept : List Kept) (cell : Kept) → AreBelow most kept → cell.column < most → AreBelow most (kept ++ cell ∷ [])
below_pushed most kept cell h p = All-push (λ (k : Kept). k.column < most) kept cell h p

pub below_more : (most more : ℕ) (kept : List Kept) → most ≤ more → AreBelow most kept → AreBelow more kept
below_more most more kept q h = λ k d p. (let under = h k d p in omega arith)

pub few_kept : (from : ℕ) (kept : List Kept) (most : ℕ) → IsRising from kept → AreBelow most kept → from ≤ most → from + length kept ≤ most
few_kept from [] most h below q = omega arith
few_kept from (cell ∷ rest) most h below q =
    let above : from ≤ cell.column = h.0 in
    let under = head_below most cell rest below in
    let later = few_kept (suc cell.column) rest most h.2 (tail_below most cell rest below) (omega arith) in
    omega arith

-- ---- the row that the kept cells show

pub size_is : (size : ℕ) (kept : List Kept) → length (all_cells size kept) ≡ size
size_is size kept = length-map-range_with_len (value_of kept) 0 size

pub cell_is : (size : ℕ) (kept : List Kept) → AreBelow size kept → (c : ℕ) → value_of kept c ≡ cell_of (all_cells size kept) c
cell_is size kept h c = elim (cases_lt c size) [
  | inl p ↦ (let plain : 0 + c ≡ c = omega arith in sym (get_or-map-range_with_len (value_of kept) 0 size c c no_fraction p plain))
  | inr q ↦ none_above size kept h c (omega arith) ∙ sym (get_or_past (all_cells size kept) c no_fraction (omega (arith, size_is size kept)))
]

-- ---- the place of a column

pub value_at : (from : ℕ) (kept : List Kept) (i : ℕ) (cell : Kept) → IsRising from kept → slice_get kept i ≡ Some cell → (value_of kept cell.column ≡ cell.value) × (from ≤ cell.column)
value_at from [] i cell h is = absurd (cc)
value_at from (k ∷ rest) zero cell h is =
    let same : k ≡ cell = same_Some k cell is in
    subst (λ (x : Kept). (value_of (k ∷ rest) x.column ≡ x.value) × (from ≤ x.column)) same (value_here k rest, h.0)
value_at from (k ∷ rest) (suc i) cell h is =
    let later = value_at (suc k.column) rest i cell h.2 is in
    let above : suc k.column ≤ cell.column = later.1 in
    let first : from ≤ k.column = h.0 in
    (value_later k rest cell.column (λ e. omega arith) ∙ later.0, omega arith)

pub rises : (from : ℕ) (kept : List Kept) (i j : ℕ) (a b : Kept) → IsRising from kept → i < j → slice_get kept i ≡ Some a → slice_get kept j ≡ Some b → a.column < b.column
rises from [] i j a b h p is_a is_b = absurd (cc)
rises from (k ∷ rest) zero zero a b h p is_a is_b = absurd (omega arith)
rises from (k ∷ rest) zero (suc j) a b h p is_a is_b =
    let same : k ≡ a = same_Some k a is_a in
    let above : suc k.column ≤ b.column = (value_at (suc k.column) rest j b h.2 is_b).1 in
    subst (λ (x : Kept). x.column < b.column) same (omega arith)
rises from (k ∷ rest) (suc i) zero a b h p is_a is_b = absurd (omega arith)
rises from (k ∷ rest) (suc i) (suc j) a b h p is_a is_b = rises (suc k.column) rest i j a b h.2 (omega arith) is_a is_b

none_where : (kept : List Kept) (c : ℕ) → ((i : ℕ) (cell : Kept) → slice_get kept i ≡ Some cell → c ≢ cell.column) → value_of kept c ≡ no_fraction
none_where [] c h = refl
none_where (k ∷ rest) c h = value_later k rest c (h 0 k refl) ∙ none_where rest c (λ i cell is. h (suc i) cell is)

pub found_there : (kept : List Kept) (column count : ℕ) (cell : Kept) → IsRising 0 kept → slice_get kept count ≡ Some cell → cell.column ≡ column → cell.value ≡ value_of kept column
found_there kept column count cell h is same = sym (subst (λ (m : ℕ). value_of kept m ≡ cell.value) same (value_at 0 kept count cell h is).0)

pub found_other : (kept : List Kept) (column count : ℕ) (cell : Kept) → IsRising 0 kept → IsFirstFrom column kept count → slice_get kept count ≡ Some cell → cell.column ≢ column → no_fraction ≡ value_of kept column
found_other kept column count cell h place is other =
    let above = place.after count cell (omega arith) is in
    sym (none_where kept column (λ i found at. elim (cases_lt i count) [
      | inl p ↦ λ e. (let under = place.before i found p at in omega arith)
      | inr q ↦ elim (cases_eq i count) [
        | inl same ↦ λ e. other (ap (λ (k : Kept). k.column) (same_Some cell found (sym is ∙ subst (λ (m : ℕ). slice_get kept m ≡ Some found) same at)) ∙ sym e)
        | inr later ↦ λ e. (let up = rises 0 kept count i cell found h (omega arith) is at in omega arith)
      ]
    ]))

pub found_none : (kept : List Kept) (column count : ℕ) → IsFirstFrom column kept count → slice_get kept count ≡ None → no_fraction ≡ value_of kept column
found_none kept column count place is = sym (none_where kept column (λ i found at. elim (cases_lt i count) [
  | inl p ↦ λ e. (let under = place.before i found p at in omega arith)
  | inr q ↦ absurd (past kept count i found (omega arith) is at)
]))
  where
    past : (xs : List Kept) (n i : ℕ) (x : Kept) → n ≤ i → slice_get xs n ≡ None → slice_get xs i ≡ Some x → ⊥
    past [] n i x p is at = cc
    past (y ∷ ys) zero i x p is at = cc
    past (y ∷ ys) (suc n) zero x p is at = omega arith
    past (y ∷ ys) (suc n) (suc i) x p is at = past ys n i x (omega arith) is at

-- ---- halving

pub before_middle : (kept : List Kept) (column m : ℕ) (x : Kept) → IsRising 0 kept → slice_get kept m ≡ Some x → x.column < column → (i : ℕ) (cell : Kept) → i < m + 1 → slice_get kept i ≡ Some cell → cell.column < column
before_middle kept column m x h is under i cell p at = elim (cases_eq i m) [
  | inl same ↦ subst (λ (k : Kept). k.column < column) (same_Some x cell (sym is ∙ subst (λ (j : ℕ). slice_get kept j ≡ Some cell) same at)) under
  | inr other ↦ (let up = rises 0 kept i m cell x h (omega arith) at is in omega arith)
]

pub after_middle : (kept : List Kept) (column m : ℕ) (x : Kept) → IsRising 0 kept → slice_get kept m ≡ Some x → column ≤ x.column → (i : ℕ) (cell : Kept) → m ≤ i → slice_get kept i ≡ Some cell → column ≤ cell.column
after_middle kept column m x h is above i cell p at = elim (cases_eq i m) [
  | inl same ↦ subst (λ (k : Kept). column ≤ k.column) (same_Some x cell (sym is ∙ subst (λ (j : ℕ). slice_get kept j ≡ Some cell) same at)) above
  | inr other ↦ (let up = rises 0 kept m i x cell h (omega arith) is at in omega arith)
]

-- ---- what is taken at a column, and what is kept

pub first_other : (column : ℕ) (kept : List Kept) (x : Kept) → IsRising column kept → slice_get kept 0 ≡ Some x → x.column ≢ column → no_fraction ≡ value_of kept column
first_other column [] x h is other = refl
first_other column (cell ∷ rest) x h is other =
    let above : column ≤ cell.column = h.0 in
    let apart : column ≢ cell.column = (λ e. other (sym (ap (λ (k : Kept). k.column) (same_Some cell x is)) ∙ sym e)) in
    sym (value_later cell rest column apart ∙ none_before (suc cell.column) rest h.2 column (omega arith))

pub first_none : (column : ℕ) (kept : List Kept) → slice_get kept 0 ≡ None → no_fraction ≡ value_of kept column
first_none column [] is = refl
first_none column (cell ∷ rest) is = absurd (cc)

den_of_none : (num den : ℤ) → IsLowest num den → num ≡ pos 0 → pos 1 ≡ den
den_of_none num den h none =
    let common : IsGcd 0 (unsigned_abs den) 1 = subst (λ (z : ℤ). IsGcd (unsigned_abs z) (unsigned_abs den) 1) none h.lowest in
    let one : unsigned_abs den ≡ 1 = eq-one_of_dvd-one (common.2 (unsigned_abs den) (dvd-zero (unsigned_abs den)) (dvd_refl (unsigned_abs den))) in
    sym (h.den_is ∙ ap pos one)

pub none_num : (column : ℕ) (kept : List Kept) (value : Fraction) → AreBelow column kept → value.num ≡ pos 0 → (value_of kept column).num ≡ value.num
none_num column kept value h none = ap (λ (f : Fraction). f.num) (none_above column kept h column (omega arith)) ∙ sym none

pub none_den : (column : ℕ) (kept : List Kept) (value : Fraction) → AreBelow column kept → value.num ≡ pos 0 → (value_of kept column).den ≡ value.den
none_den column kept value h none = ap (λ (f : Fraction). f.den) (none_above column kept h column (omega arith)) ∙ den_of_none value.num value.den value.lowest none
