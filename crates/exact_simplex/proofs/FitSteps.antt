-- Where a part of a pivot does not fit, the pivot does not.
use Rattle.std.proofs.Common.{◌≡◌, ◌≢◌, ℕ, ◌<◌, refl, sym, subst, ◌∙◌, arith, Bool, true, false, ◌==◌, List, length, Option, Some, None, Result, Ok, Err, IfOk, IfNone, ap, inl, inr, pos, ◌*ℤ◌, ◌<ℤ◌}
use Rattle.std.proofs.lemmas.Bool.{ne_eqb}
use Rattle.std.proofs.lemmas.Bool.Decides.{eqb_tells}
use Rattle.exact_fraction.specs.declared.fraction.Fraction.{Fraction}
use Rattle.exact_simplex.specs.Cells.{cell_of, row_of}
use Rattle.exact_simplex.specs.Pivots.{CellFits, IsQuotient, QuotientFits, RowFits, PivotFits}
use Rattle.exact_simplex.specs.Changes.{ShareFor, AreShares, SharesFit, CellFor, CellForFits, IsRowAfter, RowAfterFits, ChangeFor, ChangeFits, ChangesFit, ArePivotChanges, change_at}
use Rattle.exact_simplex.proofs.CellSteps.{own_column, quotient_above}
use Rattle.exact_simplex.proofs.FitFacts.{fits_as}
use Rattle.exact_simplex.proofs.StepFacts.{same_ratio}

pub other_number : (c k : ℕ) → (c == k) ≡ false → c ≢ k
other_number c k h same =
    elim (eqb_tells c k) [
      | inl x ↦ (let e = sym h ∙ x.0 in cc)
      | inr x ↦ x.1 same
    ]

pub shares_fit : (cells : List (List Fraction)) (r k : ℕ) → PivotFits cells r k → SharesFit (row_of cells r) k (cell_of (row_of cells r) k)
shares_fit cells r k h = record { at = λ c p other. h.shares c p (other_number c k other) }

cell_fits : (row pivot_row shares : List Fraction) (k c : ℕ) (own : Bool) → (c == k) ≡ own → c < length row → RowFits row pivot_row k → ShareFor own (cell_of shares c) (cell_of pivot_row c) (cell_of pivot_row k) → CellForFits own (cell_of row c) (cell_of row k) (cell_of shares c) (cell_of pivot_row k)
cell_fits row pivot_row shares k c true own p h is = h.own
cell_fits row pivot_row shares k c false own p h is = h.others c (cell_of shares c) p (other_number c k own) is.0

row_fits : (row pivot_row shares : List Fraction) (k : ℕ) → length row ≡ length pivot_row → AreShares shares pivot_row k (cell_of pivot_row k) → RowFits row pivot_row k → RowAfterFits row shares k (cell_of pivot_row k)
row_fits row pivot_row shares k size are h = record { at = λ c p. cell_fits row pivot_row shares k c (c == k) refl p h (are.at c (omega arith)) }

change_fits : (cells : List (List Fraction)) (shares : List Fraction) (r k i : ℕ) (own : Bool) → (i == r) ≡ own → i < length cells → length (row_of cells i) ≡ length (row_of cells r) → AreShares shares (row_of cells r) k (cell_of (row_of cells r) k) → PivotFits cells r k → ChangeFits own (row_of cells i) shares k (cell_of (row_of cells r) k)
change_fits cells shares r k i true own p size are h = tt
change_fits cells shares r k i false own p size are h = λ some. row_fits (row_of cells i) (row_of cells r) shares k size are (h.rows i p (other_number i r own) some)

pub changes_fit : (cells : List (List Fraction)) (shares : List Fraction) (r k : ℕ) → ((i : ℕ) → i < length cells → length (row_of cells i) ≡ length (row_of cells r)) → AreShares shares (row_of cells r) k (cell_of (row_of cells r) k) → PivotFits cells r k → ChangesFit cells r shares k (cell_of (row_of cells r) k)
changes_fit cells shares r k sizes are h = record { at = λ i p. change_fits cells shares r k i (i == r) refl p (sizes i p) are h }

pub changes_at : (cells : List (List Fraction)) (shares row : List Fraction) (pivot : Fraction) (r k : ℕ) → row ≡ row_of cells r → pivot ≡ cell_of row k → ((i : ℕ) → i < length cells → length (row_of cells i) ≡ length (row_of cells r)) → AreShares shares row k pivot → PivotFits cells r k → ChangesFit cells r shares k pivot
changes_at cells shares row pivot r k is_row is_pivot sizes are h =
    let same : pivot ≡ cell_of (row_of cells r) k = is_pivot ∙ ap (λ xs. cell_of xs k) is_row in
    subst (λ p. ChangesFit cells r shares k p) (sym same) (changes_fit cells shares r k sizes (subst (λ xs. AreShares shares xs k (cell_of (row_of cells r) k)) is_row (subst (λ p. AreShares shares row k p) same are)) h)

pub none_of : {X E : Type 0} (A B : Type 0) (found : Result (Option X) E) → (A → B) → IfOk found (λ f. IfNone f (B → ⊥)) → IfOk found (λ f. IfNone f (A → ⊥))
none_of A B (Ok None) f h = λ a. h (f a)
none_of A B (Ok (Some x)) f h = h
none_of A B (Err e) f h = h

-- a pivot that was made fits

share_fits : (row shares : List Fraction) (k c : ℕ) (pivot : Fraction) (own : Bool) → own ≡ false → ShareFor own (cell_of shares c) (cell_of row c) pivot → IsQuotient (cell_of shares c) (cell_of row c) pivot × QuotientFits (cell_of row c) pivot
share_fits row shares k c pivot true own h = absurd (let e = own in cc)
share_fits row shares k c pivot false own h = h

own_fits : (own : Bool) (new old factor share pivot : Fraction) → own ≡ true → CellFor own new old factor share pivot → QuotientFits factor pivot
own_fits true new old factor share pivot own h = h.1
own_fits false new old factor share pivot own h = absurd (let e = own in cc)

other_fits : (own : Bool) (new old factor share pivot : Fraction) → own ≡ false → CellFor own new old factor share pivot → CellFits old factor share
other_fits true new old factor share pivot own h = absurd (let e = own in cc)
other_fits false new old factor share pivot own h = h.fits

row_made : (new row pivot_row shares : List Fraction) (k : ℕ) → k < length row → length row ≡ length pivot_row → pos 0 <ℤ (cell_of pivot_row k).num → AreShares shares pivot_row k (cell_of pivot_row k) → IsRowAfter new row shares k (cell_of pivot_row k) → RowFits row pivot_row k
row_made new row pivot_row shares k there size above are is = record {
  own = own_fits (k == k) (cell_of new k) (cell_of row k) (cell_of row k) (cell_of shares k) (cell_of pivot_row k) (own_column k) (is.at k there);
  others = λ c g p other is_g.
      (let off : (c == k) ≡ false = ne_eqb c k other in
      let share = share_fits pivot_row shares k c (cell_of pivot_row k) (c == k) off (are.at c (omega arith)) in
      let same = same_ratio (cell_of shares c) g ((cell_of pivot_row c).num *ℤ (cell_of pivot_row k).den) ((cell_of pivot_row c).den *ℤ (cell_of pivot_row k).num) (quotient_above (cell_of pivot_row c) (cell_of pivot_row k) above) share.0 is_g in
      fits_as (cell_of row c) (cell_of row k) (cell_of shares c) g same.0 same.1 (other_fits (c == k) (cell_of new c) (cell_of row c) (cell_of row k) (cell_of shares c) (cell_of pivot_row k) off (is.at c p)));
}

change_made : (own : Bool) (change : Option (List Fraction)) (row pivot_row shares : List Fraction) (k : ℕ) → own ≡ false → k < length row → length row ≡ length pivot_row → pos 0 <ℤ (cell_of pivot_row k).num → AreShares shares pivot_row k (cell_of pivot_row k) → ChangeFor own change row shares k (cell_of pivot_row k) → (cell_of row k).num ≢ pos 0 → RowFits row pivot_row k
change_made true change row pivot_row shares k own there size above are h some = absurd (let e = own in cc)
change_made false None row pivot_row shares k own there size above are h some = absurd (some h)
change_made false (Some new) row pivot_row shares k own there size above are h some = row_made new row pivot_row shares k there size above are h

pub pivot_fits : (changes : List (Option (List Fraction))) (cells : List (List Fraction)) (r k : ℕ) → k < length (row_of cells r) → ((i : ℕ) → i < length cells → length (row_of cells i) ≡ length (row_of cells r)) → pos 0 <ℤ (cell_of (row_of cells r) k).num → ArePivotChanges changes cells r k → PivotFits cells r k
pivot_fits changes cells r k there sizes above is = record {
  shares = λ c p other. (share_fits (row_of cells r) is.shares k c (cell_of (row_of cells r) k) (c == k) (ne_eqb c k other) (is.are.at c p)).1;
  rows = λ i p other some. change_made (i == r) (change_at changes i) (row_of cells i) (row_of cells r) is.shares k (ne_eqb i r other) (let s = sizes i p in omega arith) (sizes i p) above is.are (is.made.at i p) some;
}
