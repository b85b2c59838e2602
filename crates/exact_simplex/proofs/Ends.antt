-- What a tableau that is over shows.
use Rattle.std.proofs.Common.{◌≡◌, ℕ, zero, suc, ◌<◌, ◌≤◌, ℤ, pos, ◌+ℤ◌, ◌-ℤ◌, ◌*ℤ◌, ◌≤ℤ◌, ◌<ℤ◌, ap, ◌∙◌, arith, if◌then◌else◌, ◌==◌, inl, inr}
use Rattle.std.proofs.lemmas.Int.{ints}
use Rattle.std.proofs.lemmas.Bool.Decides.{eqb_tells}
use Rattle.ip_model.specs.Sums.{sum_below}
use Rattle.exact_simplex.specs.Tableaus.{Scaled, StandsFor, IsPositive}
use Rattle.exact_simplex.specs.Forms.{Parts, Place, costs, step, surplus, room, place_of, form_at, forms_of}
use Rattle.exact_simplex.proofs.Ring.{none_times, neg-mul}
use Rattle.exact_simplex.proofs.Order.{at_or_before}
use Rattle.exact_simplex.proofs.SumBelow.{sum_below-same}
use Rattle.exact_simplex.proofs.Pivot.{sum_below-sub}
use Rattle.exact_simplex.proofs.Weights.{no_sum, shown_by, Gives, shows_at_least}
use Rattle.exact_simplex.proofs.Places.{IsProper, surplus_share, step_share, room_share, total_share, term_slope, term_constant, sum_slopes, sum_constants, slopes_of_row, constants_of_row, taken_off-add, constants_of-add}

share_choice : (i k : ℕ) (z : ℤ) → pos 0 ≤ℤ z → pos 0 ≤ℤ (if i == k then z else pos 0)
share_choice i k z h =
    elim (eqb_tells i k) [
      | inl x ↦ rw x.0 h
      | inr x ↦ rw x.0 (omega (arith, ints))
    ]

pub step_share_above : (place : Place) (z : ℤ) (j : ℕ) → pos 0 ≤ℤ z → pos 0 ≤ℤ step_share place z j
step_share_above costs z j h = omega (arith, ints)
step_share_above (step c) z j h = share_choice j c z h
step_share_above (surplus k) z j h = omega (arith, ints)
step_share_above (room c) z j h = omega (arith, ints)

pub room_share_above : (place : Place) (z : ℤ) (j : ℕ) → pos 0 ≤ℤ z → pos 0 ≤ℤ room_share place z j
room_share_above costs z j h = omega (arith, ints)
room_share_above (step c) z j h = omega (arith, ints)
room_share_above (surplus k) z j h = omega (arith, ints)
room_share_above (room c) z j h = share_choice j c z h

pub surplus_share_above : (place : Place) (z : ℤ) (j : ℕ) → pos 0 ≤ℤ z → pos 0 ≤ℤ surplus_share place z j
surplus_share_above costs z j h = omega (arith, ints)
surplus_share_above (step c) z j h = omega (arith, ints)
surplus_share_above (surplus k) z j h = share_choice j k z h
surplus_share_above (room c) z j h = omega (arith, ints)

pub sum_above : (n : ℕ) (f : ℕ → ℤ) → ((k : ℕ) → k < n → pos 0 ≤ℤ f k) → pos 0 ≤ℤ sum_below n f
sum_above zero f h = omega (arith, ints)
sum_above (suc n) f h = let before = sum_above n f (λ k q. h k (omega arith)) in let last = h n (omega arith) in omega (arith, ints)

-- what each unit measures
abbrev pub unit_places : Parts → Scaled → ℕ → Place
unit_places p t k = place_of p.columns p.rows (t.unit k)

abbrev pub UnitsProper : Parts → Scaled → Type 0
UnitsProper p t = (k : ℕ) → k < p.columns → IsProper p (unit_places p t k)

-- the duals: the factors of row 0, over the tableau's scale
abbrev pub duals_of : Parts → Scaled → ℕ → ℤ
duals_of p t = total_share surplus_share p.columns (unit_places p t) (t.factor 0)

duals_give : (p : Parts) (t : Scaled) → StandsFor p.columns (forms_of p) t → UnitsProper p t → ((k : ℕ) → k < p.columns → pos 0 ≤ℤ t.factor 0 k) → Gives p (pos t.scale) (t.value 0) (duals_of p t) (total_share step_share p.columns (unit_places p t) (t.factor 0)) (total_share room_share p.columns (unit_places p t) (t.factor 0))
duals_give p t h proper above = record {
  steps = λ j. sum_above p.columns _ (λ k q. step_share_above (unit_places p t k) (t.factor 0 k) j (above k q));
  rooms = λ j. sum_above p.columns _ (λ k q. room_share_above (unit_places p t k) (t.factor 0 k) j (above k q));
  slopes = λ j q. (let a = slopes_of_row p.columns (forms_of p) t 0 j h q in let b = sum_slopes p p.columns (unit_places p t) (t.factor 0) j proper in omega (arith, ints));
  constants = constants_of_row p.columns (forms_of p) t 0 h ∙ ap (λ z. t.value 0 +ℤ z) (sum_constants p p.columns (unit_places p t) (t.factor 0) proper);
}

-- the duals show at least the value of row 0
pub duals_show : (p : Parts) (t : Scaled) → ((j : ℕ) → p.low j ≤ p.high j) → StandsFor p.columns (forms_of p) t → UnitsProper p t → IsPositive p.columns t → t.value 0 ≤ℤ shown_by p (pos t.scale) (duals_of p t)
duals_show p t ordered h proper positive =
    shows_at_least p (pos t.scale) (t.value 0) _ _ _ ordered (duals_give p t h proper (λ k q. at_or_before (λ i. t.factor i k) (positive.columns k q) 0 (omega arith)))

-- the refutation: the factors of row r with their signs turned, and the scale for row r itself
abbrev pub turned_row : Scaled → ℕ → ℕ → ℤ
turned_row t r k = pos 0 -ℤ t.factor r k

abbrev pub refuting : (Place → ℤ → ℕ → ℤ) → Parts → Scaled → ℕ → ℕ → ℤ
refuting share p t r i = total_share share p.columns (unit_places p t) (turned_row t r) i +ℤ share (place_of p.columns p.rows r) (pos t.scale) i

turned_sum : (n : ℕ) (f w : ℕ → ℤ) → sum_below n (λ k. (pos 0 -ℤ f k) *ℤ w k) ≡ pos 0 -ℤ sum_below n (λ k. f k *ℤ w k)
turned_sum n f w = sum_below-same n _ _ (λ k h. neg-mul (f k) (w k)) ∙ sum_below-sub n (λ k. pos 0) (λ k. f k *ℤ w k) ∙ ap (λ z. z -ℤ sum_below n (λ k. f k *ℤ w k)) (no_sum n)

refuting_gives : (p : Parts) (t : Scaled) (r : ℕ) → StandsFor p.columns (forms_of p) t → UnitsProper p t → IsProper p (place_of p.columns p.rows r) → ((k : ℕ) → k < p.columns → t.factor r k ≤ℤ pos 0) → Gives p (pos 0) (pos 0 -ℤ t.value r) (refuting surplus_share p t r) (refuting step_share p t r) (refuting room_share p t r)
refuting_gives p t r h proper there below =
    let n = p.columns in
    let u = unit_places p t in
    let z = turned_row t r in
    let place = place_of p.columns p.rows r in
    record {
      steps = λ j. (let a = sum_above n _ (λ k q. step_share_above (u k) (z k) j (let b = below k q in omega (arith, ints))) in let b = step_share_above place (pos t.scale) j (omega (arith, ints)) in omega (arith, ints));
      rooms = λ j. (let a = sum_above n _ (λ k q. room_share_above (u k) (z k) j (let b = below k q in omega (arith, ints))) in let b = room_share_above place (pos t.scale) j (omega (arith, ints)) in omega (arith, ints));
      slopes = λ j q. (
          let a = slopes_of_row n (forms_of p) t r j h q in
          let b = sum_slopes p n u z j proper in
          let d = turned_sum n (t.factor r) (λ k. (form_at p (u k)).slope j) in
          let e = term_slope p place (pos t.scale) j there in
          let f = taken_off-add p (total_share surplus_share n u z) (surplus_share place (pos t.scale)) j in
          let g = none_times (pos (p.cost j)) in
          omega (arith, ints));
      constants = (
          let a = constants_of_row n (forms_of p) t r h in
          let b = sum_constants p n u z proper in
          let d = turned_sum n (t.factor r) (λ k. (form_at p (u k)).constant) in
          let e = term_constant p place (pos t.scale) there in
          let f = constants_of-add p (total_share surplus_share n u z) (surplus_share place (pos t.scale)) (total_share room_share n u z) (room_share place (pos t.scale)) in
          let g = none_times (sum_below n (λ j. pos (p.cost j) *ℤ pos (p.low j))) in
          omega (arith, ints));
    }

-- an empty tableau's refutation shows more than 0 with all costs taken as 0
pub refuting_shows : (p : Parts) (t : Scaled) (r : ℕ) → ((j : ℕ) → p.low j ≤ p.high j) → StandsFor p.columns (forms_of p) t → UnitsProper p t → IsProper p (place_of p.columns p.rows r) → t.value r <ℤ pos 0 → ((k : ℕ) → k < p.columns → t.factor r k ≤ℤ pos 0) → pos 0 <ℤ shown_by p (pos 0) (refuting surplus_share p t r)
refuting_shows p t r ordered h proper there low below =
    let a = shows_at_least p (pos 0) (pos 0 -ℤ t.value r) _ _ _ ordered (refuting_gives p t r h proper there below) in
    omega (arith, ints)
