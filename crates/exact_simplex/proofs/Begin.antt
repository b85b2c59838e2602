-- The start tableau stands for the program and is lexicographically positive, and written pivots keep both.
use Rattle.std.proofs.Common.{◌≡◌, ℕ, zero, suc, ◌+◌, ◌-◌, ◌<◌, ◌≤◌, ℤ, pos, ◌+ℤ◌, ◌*ℤ◌, ◌<ℤ◌, refl, sym, ap, subst, ◌∙◌, arith, if◌then◌else◌, ◌==◌, inl, inr, ◌⊎◌}
use Rattle.std.proofs.lemmas.Int.{ints}
use Rattle.std.proofs.lemmas.Bool.{ne_eqb}
use Rattle.std.proofs.lemmas.Bool.Decides.{eqb_tells}
use Rattle.ip_model.specs.Sums.{sum_below}
use Rattle.exact_simplex.specs.Tableaus.{Form, value_at, Scaled, StandsFor, IsPositive, IsFirstAbove, pivot_of}
use Rattle.exact_simplex.specs.Forms.{Parts, place_of, forms_of}
use Rattle.exact_simplex.specs.Start.{start_of, Reaches, none, more}
use Rattle.exact_simplex.proofs.Ring.{mul_comm, none_times}
use Rattle.exact_simplex.proofs.SumBelow.{sum_below-same}
use Rattle.exact_simplex.proofs.Places.{pick, none_picked, IsProper}
use Rattle.exact_simplex.proofs.Least.{step_place, surplus_place, room_place}
use Rattle.exact_simplex.proofs.Order.{order}
use Rattle.exact_simplex.proofs.Keeps.{keeps_stands_for, keeps_positive}
use Rattle.exact_simplex.proofs.Ends.{UnitsProper}

-- the value of a step
step_value : (p : Parts) (j : ℕ) (e : ℤ) (steps : ℕ → ℤ) → j < p.columns → value_at p.columns (forms_of p (suc j)) e steps ≡ steps j
step_value p j e steps h =
    rw (step_place p.columns p.rows j h) (ap (λ z. z +ℤ pos 0 *ℤ e) (pick p.columns j (pos 1) steps h) ∙ omega (arith, ints, none_times e))

by_units : (p : Parts) (i : ℕ) (e : ℤ) (steps : ℕ → ℤ) → pos 1 *ℤ value_at p.columns (forms_of p i) e steps ≡ (forms_of p i).constant *ℤ e +ℤ sum_below p.columns (λ k. (forms_of p i).slope k *ℤ value_at p.columns (forms_of p (suc k)) e steps)
by_units p i e steps =
    let same = sum_below-same p.columns (λ k. (forms_of p i).slope k *ℤ value_at p.columns (forms_of p (suc k)) e steps) (λ k. (forms_of p i).slope k *ℤ steps k) (λ k h. ap (λ z. (forms_of p i).slope k *ℤ z) (step_value p k e steps h)) in
    omega (arith, ints)

at_steps : (p : Parts) (i : ℕ) (e : ℤ) (f : Form) (steps : ℕ → ℤ) → ((j : ℕ) → j < p.columns → steps j ≡ pos 0) → value_at p.columns f (pos 1) steps ≡ f.constant
at_steps p i e f steps zero_there =
    let gone = sum_below-same p.columns (λ j. f.slope j *ℤ steps j) (λ j. pos 0 *ℤ f.slope j) (λ j h. mul_comm (f.slope j) (steps j) ∙ ap (λ z. z *ℤ f.slope j) (zero_there j h)) in
    let nothing = none_picked p.columns f.slope in
    omega (arith, ints)

step_constant : (p : Parts) (j : ℕ) → j < p.columns → (forms_of p (suc j)).constant ≡ pos 0
step_constant p j h = rw (step_place p.columns p.rows j h) refl

step_slope : (p : Parts) (j l : ℕ) → j < p.columns → (forms_of p (suc j)).slope l ≡ (if l == j then pos 1 else pos 0)
step_slope p j l h = rw (step_place p.columns p.rows j h) refl

turn_choice : (j k : ℕ) → (if k == j then pos 1 else pos 0) ≡ (if j == k then pos 1 else pos 0)
turn_choice j k =
    elim (eqb_tells j k) [
      | inl x ↦ subst (λ (m : ℕ). (if m == j then pos 1 else pos 0) ≡ (if j == m then pos 1 else pos 0)) x.1 refl
      | inr x ↦ rw (x.0, ne_eqb k j (λ e. x.1 (sym e))) refl
    ]

at_column : (p : Parts) (i k : ℕ) → k < p.columns → value_at p.columns (forms_of p i) (pos 0) (λ j. (forms_of p (suc j)).slope k) ≡ (forms_of p i).slope k
at_column p i k h =
    let f = forms_of p i in
    let same = sum_below-same p.columns (λ j. f.slope j *ℤ (forms_of p (suc j)).slope k) (λ j. (if j == k then pos 1 else pos 0) *ℤ f.slope j) (λ j q. ap (λ z. f.slope j *ℤ z) (step_slope p j k q ∙ turn_choice j k) ∙ mul_comm (f.slope j) (if j == k then pos 1 else pos 0)) in
    let one = pick p.columns k (pos 1) f.slope h in
    omega (arith, ints)

pub start_stands_for : (p : Parts) → StandsFor p.columns (forms_of p) (start_of p)
start_stands_for p = record {
  scale_above_none = omega arith;
  by_units = by_units p;
  unit_value = λ k h. step_constant p k h;
  unit_factor = λ k l h q. step_slope p k l h;
  at_value = λ i. at_steps p i (pos 1) (forms_of p i) (λ j. (forms_of p (suc j)).constant) (λ j h. step_constant p j h);
  at_factor = λ i k h. at_column p i k h;
}

some_cost : (c : ℕ) → (c ≡ 0) ⊎ (1 ≤ c)
some_cost c = grind arith

steps_before : (p : Parts) (k i : ℕ) → k < p.columns → p.cost k ≡ 0 → i < suc k → (forms_of p i).slope k ≡ pos 0
steps_before p k zero h free q = ap pos free
steps_before p k (suc i) h free q = step_slope p i k (omega arith) ∙ rw (ne_eqb k i (λ e. omega arith)) refl

own : (k : ℕ) → (if k == k then pos 1 else pos 0) ≡ pos 1
own k =
    elim (eqb_tells k k) [
      | inl x ↦ rw x.0 refl
      | inr x ↦ absurd (x.1 refl)
    ]

first_above : (p : Parts) (k : ℕ) → k < p.columns → IsFirstAbove (λ i. (forms_of p i).slope k)
first_above p k h =
    elim (some_cost (p.cost k)) [
      | inl free ↦ record {
        first = suc k;
        above = subst (λ z. pos 0 <ℤ z) (sym (step_slope p k k h ∙ own k)) (omega (arith, ints));
        before = λ i q. steps_before p k i h free q;
      }
      | inr some ↦ record {
        first = 0;
        above = omega (arith, ints);
        before = λ i q. absurd (omega arith);
      }
    ]

pub start_positive : (p : Parts) → IsPositive p.columns (start_of p)
start_positive p = record { columns = λ k h. first_above p k h }

-- what every reached tableau keeps
pub record Keeps (p : Parts) (t : Scaled) : Type 0 where
  pub stands : StandsFor p.columns (forms_of p) t
  pub positive : IsPositive p.columns t

pub reached_keeps : (p : Parts) (made : ℕ) (t s : Scaled) → Keeps p t → Reaches p.columns made t s → Keeps p s
reached_keeps p zero t s h (none t') = h
reached_keeps p (suc made) t s h (more made' t' s' r k before place) =
    let at = reached_keeps p made t s' h before in
    record {
      stands = keeps_stands_for p.columns (forms_of p) s' r k at.stands place.column place.candidate;
      positive = keeps_positive p.columns s' r k at.positive at.stands.scale_above_none place;
    }

-- units keep to the rows from 1 on

pub proper_place : (p : Parts) (r : ℕ) → 1 ≤ r → r ≤ p.columns + p.rows + p.columns → IsProper p (place_of p.columns p.rows r)
proper_place p zero h k = absurd (omega arith)
proper_place p (suc i) h k =
    elim (order i p.columns) [
      | inl q ↦ rw (step_place p.columns p.rows i q) q
      | inr q ↦ elim (order i (p.columns + p.rows)) [
        | inl w ↦
            let is : p.columns + (i - p.columns) ≡ i = omega arith in
            let there : i - p.columns < p.rows = omega arith in
            subst (λ m. IsProper p (place_of p.columns p.rows (suc m))) is (rw (surplus_place p.columns p.rows (i - p.columns) there) there)
        | inr w ↦
            let is : p.columns + p.rows + (i - (p.columns + p.rows)) ≡ i = omega arith in
            let there : i - (p.columns + p.rows) < p.columns = omega arith in
            subst (λ m. IsProper p (place_of p.columns p.rows (suc m))) is (rw (room_place p.columns p.rows (i - (p.columns + p.rows))) there)
      ]
    ]

pub start_units : (p : Parts) → UnitsProper p (start_of p)
start_units p k h = rw (step_place p.columns p.rows k h) h

pub keeps_units : (p : Parts) (t : Scaled) (r k : ℕ) → UnitsProper p t → 1 ≤ r → r ≤ p.columns + p.rows + p.columns → UnitsProper p (pivot_of t r k)
keeps_units p t r k h one there l q =
    elim (eqb_tells l k) [
      | inl x ↦ rw x.0 (proper_place p r one there)
      | inr x ↦ rw x.0 (h l q)
    ]
