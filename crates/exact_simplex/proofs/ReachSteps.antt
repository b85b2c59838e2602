-- A written pivot keeps what is reached.
use Rattle.std.proofs.Common.{◌≡◌, ℕ, suc, ◌+◌, ◌<◌, ◌≤◌, ℤ, pos, negsuc, ◌-ℤ◌, ◌*ℤ◌, ◌<ℤ◌, ◌≤ℤ◌, sym, ap, subst, ◌∙◌, arith, length, ◌⊎◌, inl, inr, if◌then◌else◌, ◌==◌}
use Rattle.std.proofs.lemmas.Int.{ints}
use Rattle.std.proofs.lemmas.Bool.Decides.{eqb_tells}
use Rattle.exact_fraction.specs.declared.fraction.Fraction.{Fraction}
use Rattle.exact_fraction.specs.Exact.{IsRatio}
use Rattle.exact_simplex.specs.declared.table.Tableau.{Tableau}
use Rattle.exact_simplex.specs.Tableaus.{Scaled, IsPivotPlace, pivot_of}
use Rattle.exact_simplex.specs.Forms.{Parts, forms_of}
use Rattle.exact_simplex.specs.Start.{start_of, none, more}
use Rattle.exact_simplex.specs.Cells.{cell_of, row_of, Shows}
use Rattle.exact_simplex.specs.Choices.{ChoiceFits, IsHeld, IsSetting}
use Rattle.exact_simplex.specs.Pivots.{PivotFits}
use Rattle.exact_simplex.specs.Relaxing.{Stands, IsReached, IsFirstBelow, IsBelowNone, begun, pivoted}
use Rattle.exact_simplex.proofs.Ring.{neg-mul}
use Rattle.exact_simplex.proofs.Order.{above_product}
use Rattle.exact_simplex.proofs.Choice.{factor_above}
use Rattle.exact_simplex.proofs.CellSteps.{den_above}
use Rattle.exact_simplex.proofs.Keeps.{keeps_stands_for, keeps_positive}
use Rattle.exact_simplex.proofs.Begin.{start_stands_for, start_positive}
use Rattle.exact_simplex.proofs.HeldSteps.{pivot_place}

pub setting_of : (p : Parts) (at : Tableau) (t : Scaled) → Stands p at t → IsSetting p.columns at.cells t
setting_of p at t h = record {
  scale = h.stands.scale_above_none;
  rows = h.shows.rows;
  units_in = λ k q. subst (λ (m : ℕ). m < length at.cells) (h.shows.units_are k q) (at.shape.units_in k (let e = h.shows.units_size in omega arith));
  unit_factor = h.stands.unit_factor;
}

-- signs of a fraction and of the number that it shows
turned : (z : ℤ) → z <ℤ pos 0 → pos 0 <ℤ (pos 0 -ℤ z)
turned z h = omega (arith, ints)

turned_back : (z : ℤ) → pos 0 <ℤ (pos 0 -ℤ z) → z <ℤ pos 0
turned_back z h = omega (arith, ints)

pub number_below : (f : Fraction) (z : ℤ) (d : ℕ) → 1 ≤ d → IsRatio f.num f.den z (pos d) → f.num <ℤ pos 0 → z <ℤ pos 0
number_below f z d some is below =
    let product : pos 0 <ℤ ((pos 0 -ℤ f.num) *ℤ pos d) = above_product (pos 0 -ℤ f.num) (pos d) (turned f.num below) (omega (arith, ints)) in
    let same : (pos 0 -ℤ f.num) *ℤ pos d ≡ (pos 0 -ℤ z) *ℤ f.den = neg-mul f.num (pos d) ∙ ap (λ y. pos 0 -ℤ y) is ∙ sym (neg-mul z f.den) in
    turned_back z (factor_above (pos 0 -ℤ z) f.den (den_above f.num f.den f.lowest) (subst (λ y. pos 0 <ℤ y) same product))

pub fraction_below : (f : Fraction) (z : ℤ) (d : ℕ) → 1 ≤ d → IsRatio f.num f.den z (pos d) → z <ℤ pos 0 → f.num <ℤ pos 0
fraction_below f z d some is below =
    let product : pos 0 <ℤ ((pos 0 -ℤ z) *ℤ f.den) = above_product (pos 0 -ℤ z) f.den (turned z below) (den_above f.num f.den f.lowest) in
    let same : (pos 0 -ℤ z) *ℤ f.den ≡ (pos 0 -ℤ f.num) *ℤ pos d = neg-mul z f.den ∙ ap (λ y. pos 0 -ℤ y) (sym is) ∙ sym (neg-mul f.num (pos d)) in
    turned_back f.num (factor_above (pos 0 -ℤ f.num) (pos d) (omega (arith, ints)) (subst (λ y. pos 0 <ℤ y) same product))

sign : (z : ℤ) → (z <ℤ pos 0) ⊎ (pos 0 ≤ℤ z)
sign (pos n) = inr (omega (arith, ints))
sign (negsuc n) = inl (omega (arith, ints))

pub value_not_below : (p : Parts) (at : Tableau) (t : Scaled) (i : ℕ) → Stands p at t → i < length at.cells → (IsBelowNone at.cells i → ⊥) → pos 0 ≤ℤ t.value i
value_not_below p at t i h there no_fraction_below =
    elim (sign (t.value i)) [
      | inl low ↦ absurd (no_fraction_below (fraction_below (cell_of (row_of at.cells i) 0) (t.value i) t.scale h.stands.scale_above_none ((h.shows.rows i there).numbers 0 (omega arith)) low))
      | inr high ↦ high
    ]

pub reached_place : (p : Parts) (at : Tableau) (t : Scaled) (r k : ℕ) → Stands p at t → IsFirstBelow at.cells r → IsHeld at.cells t r p.columns k → IsPivotPlace p.columns t r k
reached_place p at t r k h first held =
    pivot_place p.columns at.cells t r k (setting_of p at t h) first.within held first.some
    (number_below (cell_of (row_of at.cells r) 0) (t.value r) t.scale h.stands.scale_above_none ((h.shows.rows r first.within).numbers 0 (omega arith)) first.below)
    (λ i one before. value_not_below p at t i h (let w = first.within in omega arith) (first.first i one before))

unit_after : (t : Scaled) (r k n : ℕ) → 1 ≤ r → ((l : ℕ) → l < n → 1 ≤ t.unit l) → (l : ℕ) → l < n → 1 ≤ (if l == k then r else t.unit l)
unit_after t r k n one h l q =
    elim (eqb_tells l k) [
      | inl x ↦ rw x.0 one
      | inr x ↦ rw x.0 (h l q)
    ]

pub reached_more : (p : Parts) (from : Scaled) (made : ℕ) (at new : Tableau) (t : Scaled) (r k : ℕ) → IsReached p from made at t → IsFirstBelow at.cells r → IsHeld at.cells t r p.columns k → ChoiceFits p.columns at.cells t r → PivotFits at.cells r (suc k) → length new.cells ≡ length at.cells → ((n : ℕ) (s : Scaled) → 1 ≤ s.scale → pos 0 <ℤ s.factor r k → Shows n at.cells at.units s → Shows n new.cells new.units (pivot_of s r k)) → IsReached p from (suc made) new (pivot_of t r k)
reached_more p from made at new t r k reached first held choice pivot size shows =
    let h = reached.stands in
    let place = reached_place p at t r k h first held in
    let next : Stands p new (pivot_of t r k) = record {
      rows = size ∙ h.rows;
      shows = shows p.columns t h.stands.scale_above_none place.candidate h.shows;
      stands = keeps_stands_for p.columns (forms_of p) t r k h.stands place.column place.candidate;
      positive = keeps_positive p.columns t r k h.positive h.stands.scale_above_none place;
      units = unit_after t r k p.columns first.some h.units;
    } in
    record {
      reaches = more made from t r k reached.reaches place;
      stands = next;
      written = pivoted made at new t r k reached.written (record { below = first; choice = choice; held = held; pivot = pivot }) next;
    }

-- the start tableau stands for the program
pub start_stands : (p : Parts) (at : Tableau) → length at.cells ≡ suc (p.columns + p.rows + p.columns) → Shows p.columns at.cells at.units (start_of p) → Stands p at (start_of p)
start_stands p at size shows = record {
  rows = size;
  shows = shows;
  stands = start_stands_for p;
  positive = start_positive p;
  units = λ k q. omega arith;
}

-- no pivot yet
pub reached_none : (p : Parts) (at : Tableau) (t : Scaled) → Stands p at t → IsReached p t 0 at t
reached_none p at t h = record { reaches = none t; stands = h; written = begun at h }
