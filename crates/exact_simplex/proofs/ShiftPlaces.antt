-- What the changes of a box add to each row's number, and the tableau that they make.
use Rattle.std.proofs.Common.{◌≡◌, ℕ, zero, suc, ◌+◌, ◌-◌, ◌<◌, ◌≤◌, refl, sym, ap, subst, ◌∙◌, arith, true, false, ◌==◌, if◌then◌else◌, List, length, slice_index, ℤ, pos, ◌+ℤ◌, ◌-ℤ◌, ◌*ℤ◌, ◌<ℤ◌, inl, inr}
use Rattle.std.proofs.lemmas.Int.{ints}
use Rattle.std.proofs.lemmas.Bool.{eq-eqb, ne_eqb}
use Rattle.std.proofs.lemmas.Bool.Decides.{eqb_tells}
use Rattle.ip_model.specs.Sums.{sum_below}
use Rattle.ip_model.specs.declared.parts.Bounds.{Bounds}
use Rattle.ip_model.specs.declared.program.Program.{Program}
use Rattle.exact_fraction.specs.declared.fraction.Fraction.{Fraction}
use Rattle.exact_fraction.specs.Exact.{IsRatio}
use Rattle.exact_simplex.specs.Tableaus.{value_at, Scaled, StandsFor}
use Rattle.exact_simplex.specs.Forms.{Place, costs, step, surplus, room, place_of, form_at, forms_of, parts_of}
use Rattle.exact_simplex.specs.Cells.{cell_of, ShowsRow, number_at}
use Rattle.exact_simplex.proofs.Ring.{mul-sub}
use Rattle.exact_simplex.proofs.SumBelow.{sum_below-add, sum_below-same}
use Rattle.exact_simplex.proofs.Pivot.{one_there}
use Rattle.exact_simplex.proofs.Weights.{no_sum}
use Rattle.exact_simplex.proofs.Order.{order}
use Rattle.exact_simplex.proofs.Places.{pick}
use Rattle.exact_simplex.proofs.Least.{step_place, surplus_place, room_place}
use Rattle.exact_simplex.proofs.CellSteps.{own_column}
use Rattle.exact_simplex.specs.declared.shifts.Shift.{Shift}
use Rattle.exact_simplex.specs.Rebounds.{IsRowShifted, IsSame, shifts_below, total_change}
use Rattle.exact_simplex.proofs.Moved.{SameSlopes, moved_by, shift_of}
use Rattle.exact_simplex.proofs.ShiftSteps.{units_below}
use Rattle.exact_simplex.proofs.Totals.{AreRowOf, all_parts, parts_below, part_of, total_is}

-- ---- sums with one term or none

single : (n c r : ℕ) (place : ℕ → ℕ) (v : ℕ → ℤ) → c < n → r ≡ place c → ((l : ℕ) → l < n → r ≡ place l → l ≡ c) → sum_below n (λ l. if r == place l then v l else pos 0) ≡ v c
single n c r place v there is alone =
    sum_below-same n _ (λ l. if l == c then v c else pos 0) (λ l q. elim (eqb_tells l c) [
      | inl x ↦ rw (x.0, eq-eqb r (place l) (is ∙ ap place (sym x.1))) (ap v x.1)
      | inr x ↦ rw (x.0, ne_eqb r (place l) (λ e. x.1 (alone l q e))) refl
    ])
    ∙ one_there n c (v c) there

never : (n r : ℕ) (place : ℕ → ℕ) (v : ℕ → ℤ) → ((l : ℕ) → l < n → r ≡ place l → ⊥) → sum_below n (λ l. if r == place l then v l else pos 0) ≡ pos 0
never n r place v none = sum_below-same n _ (λ l. pos 0) (λ l q. rw (ne_eqb r (place l) (none l q)) refl) ∙ no_sum n

-- ---- the constants of the rows in two boxes

abbrev pub rise_of : Bounds → Bounds → ℕ → ℤ
rise_of old new j = pos (slice_index new.low j) -ℤ pos (slice_index old.low j)

abbrev pub widening_of : Bounds → Bounds → ℕ → ℤ
widening_of old new j = pos (slice_index new.high j) -ℤ pos (slice_index old.high j)

sum_new : (n : ℕ) (a : ℕ → ℤ) (old new : Bounds) → sum_below n (λ j. a j *ℤ pos (slice_index new.low j)) ≡ sum_below n (λ j. a j *ℤ pos (slice_index old.low j)) +ℤ sum_below n (λ j. a j *ℤ rise_of old new j)
sum_new n a old new =
    sum_below-same n _ (λ j. a j *ℤ pos (slice_index old.low j) +ℤ a j *ℤ rise_of old new j) (λ j q. (let m = mul-sub (a j) (pos (slice_index new.low j)) (pos (slice_index old.low j)) in omega (arith, ints)))
    ∙ sum_below-add n (λ j. a j *ℤ pos (slice_index old.low j)) (λ j. a j *ℤ rise_of old new j)

no_rise : (s t d c : ℤ) → s ≡ t +ℤ d → (s -ℤ c) -ℤ (d +ℤ (t -ℤ c) *ℤ pos 1) ≡ pos 0
no_rise s t d c h = let plain : (t -ℤ c) *ℤ pos 1 ≡ t -ℤ c = omega (arith, ints) in omega (arith, ints)

-- the forms of the program's rows in the two boxes
abbrev shift_at : Program → Bounds → Bounds → Place → ℤ
shift_at program old new place = (form_at (parts_of program new) place).constant -ℤ value_at (length program.columns) (form_at (parts_of program old) place) (pos 1) (rise_of old new)

at_costs : (program : Program) (old new : Bounds) → shift_at program old new costs ≡ pos 0
at_costs program old new =
    let n = length program.columns in
    let f = form_at (parts_of program old) costs in
    let same = sum_new n f.slope old new in
    let plain : f.constant *ℤ pos 1 ≡ f.constant = omega (arith, ints) in
    omega (arith, ints)

at_surplus : (program : Program) (old new : Bounds) (i : ℕ) → shift_at program old new (surplus i) ≡ pos 0
at_surplus program old new i =
    let n = length program.columns in
    let f = form_at (parts_of program old) (surplus i) in
    no_rise _ _ _ _ (sum_new n f.slope old new)

at_step : (program : Program) (old new : Bounds) (c : ℕ) → c < length program.columns → shift_at program old new (step c) ≡ pos 0 -ℤ rise_of old new c
at_step program old new c there =
    let one = pick (length program.columns) c (pos 1) (rise_of old new) there in
    omega (arith, ints)

at_room : (program : Program) (old new : Bounds) (c : ℕ) → c < length program.columns → shift_at program old new (room c) ≡ widening_of old new c
at_room program old new c there =
    let one = pick (length program.columns) c (pos 0 -ℤ pos 1) (rise_of old new) there in
    let plain : (pos (slice_index old.high c) -ℤ pos (slice_index old.low c)) *ℤ pos 1 ≡ pos (slice_index old.high c) -ℤ pos (slice_index old.low c) = omega (arith, ints) in
    let turned : (pos 0 -ℤ pos 1) *ℤ rise_of old new c ≡ pos 0 -ℤ rise_of old new c = omega (arith, ints) in
    omega (arith, ints)

-- ---- the changes at each row

abbrev pub row_shift : Program → Bounds → Bounds → ℕ → ℤ
row_shift program old new = shift_of (length program.columns) (forms_of (parts_of program old)) (forms_of (parts_of program new)) (rise_of old new)

abbrev box_parts : Program → List ℕ → Bounds → Bounds → ℕ → ℤ
box_parts program units old new = all_parts (shifts_below units (length program.rows) old new (length program.columns))

sums_are : (program : Program) (units : List ℕ) (old new : Bounds) (r : ℕ) (a b : ℤ) → sum_below (length program.columns) (λ l. if r == suc l then pos 0 -ℤ rise_of old new l else pos 0) ≡ a → sum_below (length program.columns) (λ l. if r == suc (length units + length program.rows + l) then widening_of old new l else pos 0) ≡ b → box_parts program units old new r ≡ a +ℤ b
sums_are program units old new r a b is_a is_b =
    let n = length program.columns in
    parts_below units (length program.rows) old new n r
    ∙ sum_below-add n (λ l. part_of (suc l) true (rise_of old new l) r) (λ l. part_of (suc (length units + length program.rows + l)) false (widening_of old new l) r)
    ∙ ap (λ z. z +ℤ sum_below n (λ l. part_of (suc (length units + length program.rows + l)) false (widening_of old new l) r)) is_a
    ∙ ap (λ z. a +ℤ z) is_b

pub parts_are : (program : Program) (units : List ℕ) (old new : Bounds) (r : ℕ) → length units ≡ length program.columns → r ≤ length program.columns + length program.rows + length program.columns → box_parts program units old new r ≡ row_shift program old new r
parts_are program units old new zero size most =
    sums_are program units old new zero (pos 0) (pos 0) (never (length program.columns) zero suc (λ l. pos 0 -ℤ rise_of old new l) (λ l q e. absurd (omega arith))) (never (length program.columns) zero (λ l. suc (length units + length program.rows + l)) (widening_of old new) (λ l q e. absurd (omega arith)))
    ∙ sym (at_costs program old new)
parts_are program units old new (suc i) size most =
    let n = length program.columns in
    let m = length program.rows in
    elim (order i n) [
      | inl q ↦
          sums_are program units old new (suc i) (pos 0 -ℤ rise_of old new i) (pos 0) (single n i (suc i) suc (λ l. pos 0 -ℤ rise_of old new l) q refl (λ l w e. omega arith)) (never n (suc i) (λ l. suc (length units + m + l)) (widening_of old new) (λ l w e. absurd (omega arith)))
          ∙ rw (step_place n m i q) (let at = at_step program old new i q in omega (arith, ints))
      | inr q ↦ elim (order i (n + m)) [
        | inl w ↦
            let is : n + (i - n) ≡ i = omega arith in
            let there : i - n < m = omega arith in
            sums_are program units old new (suc i) (pos 0) (pos 0) (never n (suc i) suc (λ l. pos 0 -ℤ rise_of old new l) (λ l v e. absurd (omega arith))) (never n (suc i) (λ l. suc (length units + m + l)) (widening_of old new) (λ l v e. absurd (omega arith)))
            ∙ subst (λ (j : ℕ). pos 0 ≡ row_shift program old new (suc j)) is (rw (surplus_place n m (i - n) there) (sym (at_surplus program old new (i - n))))
        | inr w ↦
            let is : n + m + (i - (n + m)) ≡ i = omega arith in
            let there : i - (n + m) < n = omega arith in
            let at : suc i ≡ suc (length units + m + (i - (n + m))) = omega arith in
            sums_are program units old new (suc i) (pos 0) (widening_of old new (i - (n + m))) (never n (suc i) suc (λ l. pos 0 -ℤ rise_of old new l) (λ l v e. absurd (omega arith))) (single n (i - (n + m)) (suc i) (λ l. suc (length units + m + l)) (widening_of old new) there at (λ l v e. omega arith))
            ∙ subst (λ (j : ℕ). pos 0 +ℤ widening_of old new (i - (n + m)) ≡ row_shift program old new (suc j)) is (rw (room_place n m (i - (n + m))) (let a = at_room program old new (i - (n + m)) there in omega (arith, ints)))
      ]
    ]

slope_same : (program : Program) (old new : Bounds) (place : Place) → (form_at (parts_of program new) place).slope ≡ (form_at (parts_of program old) place).slope
slope_same program old new costs = refl
slope_same program old new (step c) = refl
slope_same program old new (surplus i) = refl
slope_same program old new (room c) = refl

pub same_slopes : (program : Program) (old new : Bounds) → SameSlopes (length program.columns) (forms_of (parts_of program old)) (forms_of (parts_of program new)) (rise_of old new)
same_slopes program old new = record {
  slopes = λ i. slope_same program old new (place_of (length program.columns) (length program.rows) i);
  steps = λ j q. rw (step_place (length program.columns) (length program.rows) j q) (at_step program old new j q);
}

-- ---- the rows of the tableau

pub row_of_units : (program : Program) (old : Bounds) (units : List ℕ) (t : Scaled) (i : ℕ) → length units ≡ length program.columns → ((k : ℕ) → k < length program.columns → slice_index units k ≡ t.unit k) → ((k l : ℕ) → k < length units → l < length units → slice_index units k ≡ slice_index units l → k ≡ l) → StandsFor (length program.columns) (forms_of (parts_of program old)) t → AreRowOf (length program.columns) units (pos t.scale) (t.factor i) i
row_of_units program old units t i size are differ h = record {
  size = size;
  differ = λ k l p q e. differ k l (omega arith) (omega arith) e;
  own = λ k q e. (let same : i ≡ t.unit k = e ∙ are k q in ap (λ (r : ℕ). t.factor r k) same ∙ h.unit_factor k k q q ∙ rw (own_column k) refl);
}

scale_above : (d : ℕ) → 1 ≤ d → pos 0 <ℤ pos d
scale_above d h = omega (arith, ints)

ratio_same : (f g : Fraction) (a d : ℤ) → IsSame f g → IsRatio g.num g.den a d → IsRatio f.num f.den a d
ratio_same f g a d same is = ap (λ z. z *ℤ d) same.0 ∙ is ∙ ap (λ z. a *ℤ z) (sym same.1)

numbers_of : (n : ℕ) (s : ℕ → ℤ) (t : Scaled) (i : ℕ) (row made : List Fraction) (shifts : List Shift) → ShowsRow n row t i → IsRowShifted i made row shifts → IsRatio (cell_of made 0).num (cell_of made 0).den ((moved_by n s t).value i) (pos t.scale) → (c : ℕ) → c ≤ n → IsRatio (cell_of made c).num (cell_of made c).den (number_at (moved_by n s t) i c) (pos t.scale)
numbers_of n s t i row made shifts shown h first zero q = first
numbers_of n s t i row made shifts shown h first (suc c) q = ratio_same (cell_of made (suc c)) (cell_of row (suc c)) (t.factor i c) (pos t.scale) (h.has.others c (let e = shown.size in omega arith)) (shown.numbers (suc c) q)

pub row_moved : (program : Program) (old new : Bounds) (units : List ℕ) (t : Scaled) (i : ℕ) (row made : List Fraction) → length units ≡ length program.columns → AreRowOf (length program.columns) units (pos t.scale) (t.factor i) i → i ≤ length program.columns + length program.rows + length program.columns → ((k : ℕ) → k < length program.columns → slice_index units k ≡ t.unit k) → ((k : ℕ) → k < length program.columns → t.unit k ≤ length program.columns + length program.rows + length program.columns) → 1 ≤ t.scale → ShowsRow (length program.columns) row t i → IsRowShifted i made row (shifts_below units (length program.rows) old new (length program.columns)) → ShowsRow (length program.columns) made (moved_by (length program.columns) (row_shift program old new) t) i
row_moved program old new units t i row made size are most unit_is unit_most some shown h =
    let n = length program.columns in
    let s = row_shift program old new in
    let shifts = shifts_below units (length program.rows) old new n in
    let d = pos t.scale in
    let total = total_is n units d (t.factor i) i shifts are (units_below units (length program.rows) old new n) in
    let own = parts_are program units old new i size most in
    let unit_parts : sum_below n (λ k. t.factor i k *ℤ all_parts shifts (slice_index units k)) ≡ sum_below n (λ k. t.factor i k *ℤ s (t.unit k)) =
    sum_below-same n _ _ (λ k q. ap (λ (r : ℕ). t.factor i k *ℤ all_parts shifts r) (unit_is k q) ∙ ap (λ z. t.factor i k *ℤ z) (parts_are program units old new (t.unit k) size (unit_most k q))) in
    let sum : total_change d (t.factor i) i shifts ≡ d *ℤ s i -ℤ sum_below n (λ k. t.factor i k *ℤ s (t.unit k)) = total ∙ ap (λ z. d *ℤ z -ℤ sum_below n (λ k. t.factor i k *ℤ all_parts shifts (slice_index units k))) own ∙ ap (λ z. d *ℤ s i -ℤ z) unit_parts in
    let value = h.after.scaled (t.value i) d (t.factor i) (scale_above t.scale some) (shown.numbers 0 (omega arith)) (λ k q. shown.numbers (suc k) (let e = shown.size in omega arith)) in
    let value_is : t.value i +ℤ total_change d (t.factor i) i shifts ≡ (t.value i +ℤ d *ℤ s i) -ℤ sum_below n (λ k. t.factor i k *ℤ s (t.unit k)) = ap (λ z. t.value i +ℤ z) sum ∙ omega (arith, ints) in
    record {
      size = h.has.size ∙ shown.size;
      numbers = numbers_of n s t i row made shifts shown h (ratio_same (cell_of made 0) h.value _ d h.has.first (value ∙ ap (λ z. z *ℤ h.value.den) value_is));
    }
