-- The sum of the changes in a row: what the row's own number changes by, less its factors times what the unit rows change by.
use Rattle.std.proofs.Common.{◌≡◌, ℕ, zero, suc, ◌+◌, ◌<◌, refl, sym, ap, subst, ◌∙◌, arith, Bool, true, false, not, ◌==◌, if◌then◌else◌, Option, Some, None, List, [], ◌∷◌, ◌++◌, length, slice_index, ℤ, pos, negsuc, ◌+ℤ◌, ◌-ℤ◌, ◌*ℤ◌, inl, inr}
use Rattle.std.proofs.lemmas.Int.{ints}
use Rattle.std.proofs.lemmas.Bool.{eq-eqb, ne_eqb}
use Rattle.std.proofs.lemmas.Bool.Decides.{eqb_tells}
use Rattle.ip_model.specs.Sums.{sum_below}
use Rattle.ip_model.specs.declared.parts.Bounds.{Bounds}
use Rattle.exact_simplex.proofs.Ring.{mul-add, mul-sub}
use Rattle.exact_simplex.proofs.SumBelow.{sum_below-add, sum_below-same}
use Rattle.exact_simplex.proofs.Pivot.{one_there}
use Rattle.exact_simplex.proofs.Weights.{no_sum}
use Rattle.exact_simplex.specs.declared.shifts.Shift.{Shift}
use Rattle.exact_simplex.specs.Rebounds.{change_of, shifts_at, shifts_below, signed, total_change, unit_from}
use Rattle.exact_simplex.proofs.ShiftSteps.{AreUnits, unit_there, unit_none}

-- what a change adds to the number of its own row
abbrev pub part_of : ℕ → Bool → ℤ → ℕ → ℤ
part_of row low by r = if r == row then signed (not low) by else pos 0

abbrev pub all_parts : List Shift → ℕ → ℤ
all_parts [] r = pos 0
all_parts (s ∷ shifts) r = part_of s.row s.low s.by r +ℤ all_parts shifts r

-- the units of the columns, and a row's factors over d: a unit row has d in its own column
pub record AreRowOf (n : ℕ) (units : List ℕ) (d : ℤ) (factor : ℕ → ℤ) (i : ℕ) : Type 0 where
  pub size : length units ≡ n
  pub differ : (k l : ℕ) → k < n → l < n → slice_index units k ≡ slice_index units l → k ≡ l
  pub own : (k : ℕ) → k < n → i ≡ slice_index units k → factor k ≡ d

gone_times : (z : ℤ) → z *ℤ pos 0 ≡ pos 0
gone_times z = omega (arith, ints)

-- the sum of the factors times what the unit rows change by
taken_none : (n : ℕ) (u : ℕ → ℕ) (factor : ℕ → ℤ) (row : ℕ) (low : Bool) (by : ℤ) → ((k : ℕ) → k < n → u k ≡ row → ⊥) → sum_below n (λ k. factor k *ℤ part_of row low by (u k)) ≡ pos 0
taken_none n u factor row low by none = sum_below-same n _ (λ k. pos 0) (λ k q. rw (ne_eqb (u k) row (none k q)) (gone_times (factor k))) ∙ no_sum n

taken_one : (n : ℕ) (u : ℕ → ℕ) (factor : ℕ → ℤ) (row : ℕ) (low : Bool) (by : ℤ) (place : ℕ) → place < n → u place ≡ row → ((k l : ℕ) → k < n → l < n → u k ≡ u l → k ≡ l) → sum_below n (λ k. factor k *ℤ part_of row low by (u k)) ≡ factor place *ℤ signed (not low) by
taken_one n u factor row low by place there is differ =
    sum_below-same n _ (λ k. if k == place then factor place *ℤ signed (not low) by else pos 0) (λ k q. elim (eqb_tells k place) [
      | inl x ↦ rw (x.0, eq-eqb (u k) row (ap u x.1 ∙ is)) (ap (λ (m : ℕ). factor m *ℤ signed (not low) by) x.1)
      | inr x ↦ rw (x.0, ne_eqb (u k) row (λ e. x.1 (differ k place q there (e ∙ sym is)))) (gone_times (factor k))
    ])
    ∙ one_there n place (factor place *ℤ signed (not low) by) there

signed_times : (b : Bool) (d by : ℤ) → signed b (d *ℤ by) ≡ d *ℤ signed b by
signed_times true d by = refl
signed_times false d by = let m = mul-sub d (pos 0) by in let g = gone_times d in omega (arith, ints)

turned_sign : (low : Bool) (d f by : ℤ) → signed low (f *ℤ by) ≡ d *ℤ pos 0 -ℤ f *ℤ signed (not low) by
turned_sign true d f by = let m = mul-sub f (pos 0) by in let g = gone_times f in let h = gone_times d in omega (arith, ints)
turned_sign false d f by = let h = gone_times d in omega (arith, ints)

change_none : (d : ℤ) (factor : ℕ → ℤ) (i row : ℕ) (low : Bool) (by total : ℤ) → total ≡ pos 0 → change_of d factor None (i == row) low by ≡ d *ℤ part_of row low by i -ℤ total
change_none d factor i row low by total none = elim (eqb_tells i row) [
  | inl x ↦ rw x.0 (let s = signed_times (not low) d by in omega (arith, ints))
  | inr x ↦ rw x.0 (let g = gone_times d in omega (arith, ints))
]

change_some : (d : ℤ) (factor : ℕ → ℤ) (i row place : ℕ) (low : Bool) (by total : ℤ) → total ≡ factor place *ℤ signed (not low) by → (i ≡ row → factor place ≡ d) → change_of d factor (Some place) (i == row) low by ≡ d *ℤ part_of row low by i -ℤ total
change_some d factor i row place low by total is own = elim (eqb_tells i row) [
  | inl x ↦ rw x.0 (let same : factor place *ℤ signed (not low) by ≡ d *ℤ signed (not low) by = ap (λ z. z *ℤ signed (not low) by) (own x.1) in omega (arith, ints))
  | inr x ↦ rw x.0 (let t = turned_sign low d (factor place) by in omega (arith, ints))
]

change_is : (n : ℕ) (units : List ℕ) (d : ℤ) (factor : ℕ → ℤ) (i row : ℕ) (low : Bool) (by : ℤ) (unit : Option ℕ) → AreRowOf n units d factor i → unit ≡ unit_from 0 units row → change_of d factor unit (i == row) low by ≡ d *ℤ part_of row low by i -ℤ sum_below n (λ k. factor k *ℤ part_of row low by (slice_index units k))
change_is n units d factor i row low by None h is =
    change_none d factor i row low by _ (taken_none n (slice_index units) factor row low by (λ k q e. unit_none 0 units row (sym is) k (let s = h.size in omega arith) e))
change_is n units d factor i row low by (Some m) h is =
    let found = unit_there 0 units row m (sym is) in
    let same : m ≡ found.place = found.is ∙ omega arith in
    let there : m < n = (let s = h.size in let w = found.within in omega arith) in
    let at : slice_index units m ≡ row = subst (λ (k : ℕ). slice_index units k ≡ row) (sym same) found.there in
    change_some d factor i row m low by _ (taken_one n (slice_index units) factor row low by m there at h.differ) (λ e. h.own m there (e ∙ sym at))

split : (d p r x y : ℤ) → (d *ℤ p -ℤ x) +ℤ (d *ℤ r -ℤ y) ≡ d *ℤ (p +ℤ r) -ℤ (x +ℤ y)
split d p r x y = let m = mul-add d p r in omega (arith, ints)

pub total_is : (n : ℕ) (units : List ℕ) (d : ℤ) (factor : ℕ → ℤ) (i : ℕ) (shifts : List Shift) → AreRowOf n units d factor i → AreUnits units shifts → total_change d factor i shifts ≡ d *ℤ all_parts shifts i -ℤ sum_below n (λ k. factor k *ℤ all_parts shifts (slice_index units k))
total_is n units d factor i [] h are =
    let none = sum_below-same n (λ k. factor k *ℤ pos 0) (λ k. pos 0) (λ k q. gone_times (factor k)) ∙ no_sum n in
    let g = gone_times d in
    omega (arith, ints)
total_is n units d factor i (s ∷ shifts) h are =
    let first = change_is n units d factor i s.row s.low s.by s.unit h are.0 in
    let rest = total_is n units d factor i shifts h are.1 in
    let sums : sum_below n (λ k. factor k *ℤ (part_of s.row s.low s.by (slice_index units k) +ℤ all_parts shifts (slice_index units k))) ≡ sum_below n (λ k. factor k *ℤ part_of s.row s.low s.by (slice_index units k)) +ℤ sum_below n (λ k. factor k *ℤ all_parts shifts (slice_index units k)) =
    sum_below-same n _ _ (λ k q. mul-add (factor k) (part_of s.row s.low s.by (slice_index units k)) (all_parts shifts (slice_index units k))) ∙ sum_below-add n (λ k. factor k *ℤ part_of s.row s.low s.by (slice_index units k)) (λ k. factor k *ℤ all_parts shifts (slice_index units k)) in
    let both = split d (part_of s.row s.low s.by i) (all_parts shifts i) (sum_below n (λ k. factor k *ℤ part_of s.row s.low s.by (slice_index units k))) (sum_below n (λ k. factor k *ℤ all_parts shifts (slice_index units k))) in
    ap (λ z. z +ℤ total_change d factor i shifts) first ∙ ap (λ z. (d *ℤ part_of s.row s.low s.by i -ℤ sum_below n (λ k. factor k *ℤ part_of s.row s.low s.by (slice_index units k))) +ℤ z) rest ∙ both ∙ ap (λ z. d *ℤ (part_of s.row s.low s.by i +ℤ all_parts shifts i) -ℤ z) (sym sums)

-- ---- what all changes of a box add to a row's number

parts_joined : (xs ys : List Shift) (r : ℕ) → all_parts (xs ++ ys) r ≡ all_parts xs r +ℤ all_parts ys r
parts_joined [] ys r = omega (arith, ints)
parts_joined (x ∷ xs) ys r = let h = parts_joined xs ys r in omega (arith, ints)

no_part : (row r : ℕ) (low : Bool) → pos 0 ≡ part_of row low (pos 0) r
no_part row r true = elim (eqb_tells r row) [
  | inl x ↦ rw x.0 refl
  | inr x ↦ rw x.0 refl
]
no_part row r false = elim (eqb_tells r row) [
  | inl x ↦ rw x.0 refl
  | inr x ↦ rw x.0 refl
]

parts_at : (units : List ℕ) (row : ℕ) (low : Bool) (z : ℤ) (r : ℕ) → all_parts (shifts_at units row low z) r ≡ part_of row low z r
parts_at units row low (pos zero) r = no_part row r low
parts_at units row low (pos (suc n)) r = omega (arith, ints)
parts_at units row low (negsuc n) r = omega (arith, ints)

pub parts_below : (units : List ℕ) (m : ℕ) (old new : Bounds) (j r : ℕ) → all_parts (shifts_below units m old new j) r ≡ sum_below j (λ l. part_of (suc l) true (pos (slice_index new.low l) -ℤ pos (slice_index old.low l)) r +ℤ part_of (suc (length units + m + l)) false (pos (slice_index new.high l) -ℤ pos (slice_index old.high l)) r)
parts_below units m old new zero r = refl
parts_below units m old new (suc j) r =
    let low = pos (slice_index new.low j) -ℤ pos (slice_index old.low j) in
    let high = pos (slice_index new.high j) -ℤ pos (slice_index old.high j) in
    let before = parts_below units m old new j r in
    let outer = parts_joined (shifts_below units m old new j ++ shifts_at units (suc j) true low) (shifts_at units (suc (length units + m + j)) false high) r in
    let inner = parts_joined (shifts_below units m old new j) (shifts_at units (suc j) true low) r in
    let first = parts_at units (suc j) true low r in
    let second = parts_at units (suc (length units + m + j)) false high r in
    omega (arith, ints)
