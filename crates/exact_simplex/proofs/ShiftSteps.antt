-- The list of the changes of a box.
use Rattle.std.proofs.Common.{◌≡◌, ◌≢◌, ℕ, zero, suc, ◌+◌, ◌<◌, refl, sym, ap, subst, ◌∙◌, arith, Bool, true, false, Option, Some, None, List, [], ◌∷◌, ◌++◌, length, get_or, drop, drop-cons, slice_index, ℤ, pos, negsuc, ◌-ℤ◌, inl, inr, All}
use Rattle.std.proofs.Math.Seq.{drop-length}
use Rattle.std.proofs.lemmas.Bool.{eq-eqb, ne_eqb}
use Rattle.std.proofs.lemmas.Bool.Decides.{eqb_tells}
use Rattle.std.proofs.lemmas.Option.{same_Some}
use Rattle.ip_model.specs.declared.parts.Bounds.{Bounds}
use Rattle.exact_fraction.specs.declared.fraction.Fraction.{Fraction}
use Rattle.exact_simplex.specs.declared.shifts.Shift.{Shift}
use Rattle.exact_simplex.specs.Rebounds.{IsUnitWithin, shifts_at, shifts_below, unit_from}

-- ---- the first unit that is a row

pub unit_here : (units : List ℕ) (row k : ℕ) → k < length units → get_or units k 0 ≡ row → unit_from k (drop k units) row ≡ Some k
unit_here units row k p same = ap (λ (xs : List ℕ). unit_from k xs row) (drop-cons units k 0 p) ∙ rw (eq-eqb (get_or units k 0) row same) refl

pub unit_next : (units : List ℕ) (row k : ℕ) → k < length units → get_or units k 0 ≢ row → unit_from k (drop k units) row ≡ unit_from (suc k) (drop (suc k) units) row
unit_next units row k p other = ap (λ (xs : List ℕ). unit_from k xs row) (drop-cons units k 0 p) ∙ rw (ne_eqb (get_or units k 0) row other) refl

pub unit_past : (units : List ℕ) (row k : ℕ) → k ≡ length units → unit_from k (drop k units) row ≡ None
unit_past units row k same = ap (λ (xs : List ℕ). unit_from k xs row) (subst (λ (n : ℕ). drop n units ≡ []) (sym same) (drop-length units))

-- where a unit is found
pub record FoundFrom (k : ℕ) (units : List ℕ) (row m : ℕ) : Type 0 where
  pub place : ℕ
  pub is : m ≡ k + place
  pub within : place < length units
  pub there : get_or units place 0 ≡ row

pub unit_there : (k : ℕ) (units : List ℕ) (row m : ℕ) → unit_from k units row ≡ Some m → FoundFrom k units row m
unit_there k [] row m h = absurd (cc)
unit_there k (u ∷ units) row m h = elim (eqb_tells u row) [
  | inl x ↦ (let h' = rw x.0 at h in record { place = 0; is = sym (same_Some k m h') ∙ omega arith; within = omega arith; there = x.1 })
  | inr x ↦ (let h' = rw x.0 at h in let later = unit_there (suc k) units row m h' in let at = later.is in let within = later.within in record { place = suc later.place; is = omega arith; within = omega arith; there = later.there })
]

pub unit_none : (k : ℕ) (units : List ℕ) (row : ℕ) → unit_from k units row ≡ None → (l : ℕ) → l < length units → get_or units l 0 ≡ row → ⊥
unit_none k [] row h l p e = absurd (omega arith)
unit_none k (u ∷ units) row h zero p e = (let h' = rw (eq-eqb u row e) at h in cc)
unit_none k (u ∷ units) row h (suc l) p e = elim (eqb_tells u row) [
  | inl x ↦ (let h' = rw x.0 at h in cc)
  | inr x ↦ (let h' = rw x.0 at h in unit_none (suc k) units row h' l (omega arith) e)
]

-- ---- one change more

pub none_added : (xs : List Shift) → xs ++ [] ≡ xs
none_added [] = refl
none_added (x ∷ xs) = ap (λ (ys : List Shift). x ∷ ys) (none_added xs)

pub no_shift : (units : List ℕ) (row : ℕ) (low : Bool) (z : ℤ) → z ≡ pos 0 → shifts_at units row low z ≡ []
no_shift units row low z h = ap (λ (y : ℤ). shifts_at units row low y) h

pub one_shift : (units : List ℕ) (row : ℕ) (low : Bool) (z : ℤ) (unit : Option ℕ) → unit ≡ unit_from 0 units row → z ≢ pos 0 → record { row = row; unit = unit; by = z; low = low } ∷ [] ≡ shifts_at units row low z
one_shift units row low (pos zero) unit is some = absurd (some refl)
one_shift units row low (pos (suc n)) unit is some = ap (λ (u : Option ℕ). record { row = row; unit = u; by = pos (suc n); low = low } ∷ []) is
one_shift units row low (negsuc n) unit is some = ap (λ (u : Option ℕ). record { row = row; unit = u; by = negsuc n; low = low } ∷ []) is

pub shifts_next : (units : List ℕ) (rows : ℕ) (old new : Bounds) (j : ℕ) (first second third : List Shift) (step room old_low new_low old_high new_high : ℕ) → first ≡ shifts_below units rows old new j → second ≡ first ++ shifts_at units step true (pos new_low -ℤ pos old_low) → third ≡ second ++ shifts_at units room false (pos new_high -ℤ pos old_high) → step ≡ suc j → room ≡ suc (length units + rows + j) → old_low ≡ slice_index old.low j → new_low ≡ slice_index new.low j → old_high ≡ slice_index old.high j → new_high ≡ slice_index new.high j → third ≡ shifts_below units rows old new (suc j)
shifts_next units rows old new j first second third step room old_low new_low old_high new_high is_first is_second is_third is_step is_room ol nl oh nh =
    let low : shifts_at units step true (pos new_low -ℤ pos old_low) ≡ shifts_at units (suc j) true (pos (slice_index new.low j) -ℤ pos (slice_index old.low j)) =
    ap (λ (r : ℕ). shifts_at units r true (pos new_low -ℤ pos old_low)) is_step ∙ ap (λ (x : ℕ). shifts_at units (suc j) true (pos x -ℤ pos old_low)) nl ∙ ap (λ (x : ℕ). shifts_at units (suc j) true (pos (slice_index new.low j) -ℤ pos x)) ol in
    let high : shifts_at units room false (pos new_high -ℤ pos old_high) ≡ shifts_at units (suc (length units + rows + j)) false (pos (slice_index new.high j) -ℤ pos (slice_index old.high j)) =
    ap (λ (r : ℕ). shifts_at units r false (pos new_high -ℤ pos old_high)) is_room ∙ ap (λ (x : ℕ). shifts_at units (suc (length units + rows + j)) false (pos x -ℤ pos old_high)) nh ∙ ap (λ (x : ℕ). shifts_at units (suc (length units + rows + j)) false (pos (slice_index new.high j) -ℤ pos x)) oh in
    is_third ∙ ap (λ (xs : List Shift). second ++ xs) high ∙ ap (λ (xs : List Shift). xs ++ shifts_at units (suc (length units + rows + j)) false (pos (slice_index new.high j) -ℤ pos (slice_index old.high j))) (is_second ∙ ap (λ (xs : List Shift). first ++ xs) low ∙ ap (λ (xs : List Shift). xs ++ shifts_at units (suc j) true (pos (slice_index new.low j) -ℤ pos (slice_index old.low j))) is_first)

-- ---- the units of the changes

abbrev pub AreUnits : List ℕ → List Shift → Type 0
AreUnits units [] = Unit {0}
AreUnits units (shift ∷ shifts) = (shift.unit ≡ unit_from 0 units shift.row) × AreUnits units shifts

units_joined : (units : List ℕ) (xs ys : List Shift) → AreUnits units xs → AreUnits units ys → AreUnits units (xs ++ ys)
units_joined units [] ys h k = k
units_joined units (x ∷ xs) ys h k = (h.0, units_joined units xs ys h.1 k)

units_at : (units : List ℕ) (row : ℕ) (low : Bool) (z : ℤ) → AreUnits units (shifts_at units row low z)
units_at units row low (pos zero) = tt
units_at units row low (pos (suc n)) = (refl, tt)
units_at units row low (negsuc n) = (refl, tt)

pub units_below : (units : List ℕ) (rows : ℕ) (old new : Bounds) (j : ℕ) → AreUnits units (shifts_below units rows old new j)
units_below units rows old new zero = tt
units_below units rows old new (suc j) = units_joined units _ _ (units_joined units _ _ (units_below units rows old new j) (units_at units (suc j) true _)) (units_at units (suc (length units + rows + j)) false _)

pub all_within : (units : List ℕ) (row : List Fraction) (shifts : List Shift) → length row ≡ suc (length units) → AreUnits units shifts → All (λ shift. IsUnitWithin row shift) shifts
all_within units row [] size h k d p = absurd (omega arith)
all_within units row (shift ∷ shifts) size h zero d p = λ m is. (let found = unit_there 0 units shift.row m (sym h.0 ∙ is) in let at = found.is in let within = found.within in omega arith)
all_within units row (shift ∷ shifts) size h (suc k) d p = all_within units row shifts size h.1 k d (omega arith)
