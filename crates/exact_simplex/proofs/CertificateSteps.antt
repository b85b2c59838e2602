-- The exact point, duals and refutation of a tableau that is over certify.
use Rattle.std.proofs.Common.{◌≡◌, ℕ, zero, suc, ◌+◌, ◌-◌, ◌*◌, ◌<◌, ◌≤◌, ◌^◌, ℤ, pos, negsuc, ◌+ℤ◌, ◌-ℤ◌, ◌*ℤ◌, ◌≤ℤ◌, ◌<ℤ◌, neg_ℤ, unsigned_abs, refl, sym, ap, subst, ◌∙◌, arith, if◌then◌else◌, ◌==◌, inl, inr, length, slice_index, All, None, mul-le-mul}
use Rattle.std.proofs.lemmas.Int.{ints}
use Rattle.std.proofs.lemmas.Bool.{ne_eqb}
use Rattle.std.proofs.lemmas.Bool.Decides.{eqb_tells}
use Rattle.ip_model.specs.declared.parts.Bounds.{Bounds}
use Rattle.ip_model.specs.declared.parts.Line.{Line}
use Rattle.ip_model.specs.declared.point.Point.{Point}
use Rattle.ip_model.specs.declared.program.Program.{Program}
use Rattle.ip_model.specs.Points.{IsBoxOf, numerator, value_over}
use Rattle.ip_model.specs.Sums.{sum_below}
use Rattle.ip_model.proofs.RuleFacts.{program_limits, point_range}
use Rattle.bound_certificate.specs.declared.multipliers.Multipliers.{Multipliers}
use Rattle.bound_certificate.specs.Bound.{Refutes, unrounded_numerator}
use Rattle.exact_simplex.specs.declared.table.Tableau.{Tableau}
use Rattle.exact_simplex.specs.Tableaus.{Scaled, StandsFor, value_at}
use Rattle.exact_simplex.specs.Forms.{Parts, forms_of, form_at, parts_of, room}
use Rattle.exact_simplex.specs.Cells.{cell_of, row_of}
use Rattle.exact_simplex.specs.Choices.{FirstCandidate}
use Rattle.exact_simplex.specs.Commons.{IsStepFrom}
use Rattle.exact_simplex.specs.Duals.{num_at, AreWeights}
use Rattle.exact_simplex.specs.Relaxing.{Stands, IsFirstBelow, IsLeastTable}
use Rattle.exact_simplex.specs.Certificates.{UnitsDiffer, IsWeight, IsRefutingWeight, IsExactPoint, AreExactDuals, AreExactRefutation}
use Rattle.exact_simplex.specs.Answers.{Certifies}
use Rattle.exact_simplex.proofs.Ring.{mul_comm, mul-add, none_times, neg-mul, sub-mul}
use Rattle.exact_simplex.proofs.Order.{order}
use Rattle.exact_simplex.proofs.Cells.{carried}
use Rattle.exact_simplex.proofs.CellSteps.{den_above, own_column}
use Rattle.exact_simplex.proofs.HeldSteps.{fraction_above}
use Rattle.exact_simplex.proofs.ReachSteps.{number_below, value_not_below}
use Rattle.exact_simplex.proofs.Begin.{proper_place}
use Rattle.exact_simplex.proofs.Places.{surplus_share}
use Rattle.exact_simplex.proofs.Ends.{UnitsProper, duals_of, refuting, turned_row}
use Rattle.exact_simplex.proofs.Least.{IsLeast, point_of, least_lies, room_place}
use Rattle.exact_simplex.proofs.Theorems.{duals_equal, empty_refutes}
use Rattle.exact_simplex.proofs.Shares.{find, share_there, share_other, total_none, total_one}
use Rattle.exact_simplex.proofs.Certain.{AreSamePoints, point_scaled, value_scaled, unrounded_scaled, bound_is_value, top_small, cancel_le}

-- ---- the units

pub units_differ : (p : Parts) (at : Tableau) (t : Scaled) → Stands p at t → UnitsDiffer at.units
units_differ p at t h k l within_k within_l e =
    let size = h.shows.units_size in
    let k_in : k < p.columns = omega arith in
    let l_in : l < p.columns = omega arith in
    let same : t.unit k ≡ t.unit l = sym (h.shows.units_are k k_in) ∙ e ∙ h.shows.units_are l l_in in
    elim (eqb_tells l k) [
      | inl x ↦ sym x.1
      | inr x ↦
          let own : t.factor (t.unit l) l ≡ pos t.scale = h.stands.unit_factor l l l_in l_in ∙ rw (own_column l) refl in
          let none : t.factor (t.unit k) l ≡ pos 0 = h.stands.unit_factor k l k_in l_in ∙ rw x.0 refl in
          let both : pos 0 ≡ pos t.scale = sym none ∙ ap (λ (m : ℕ). t.factor m l) same ∙ own in
          let some = h.stands.scale_above_none in
          absurd (omega (arith, ints))
    ]

row_below : (p : Parts) (at : Tableau) (t : Scaled) (r : ℕ) → Stands p at t → IsFirstBelow at.cells r → t.value r <ℤ pos 0
row_below p at t r h first = number_below (cell_of (row_of at.cells r) 0) (t.value r) t.scale h.stands.scale_above_none ((h.shows.rows r first.within).numbers 0 (omega arith)) first.below

-- a row with a value below 0 is no unit
pub row_apart : (p : Parts) (at : Tableau) (t : Scaled) (r : ℕ) → Stands p at t → IsFirstBelow at.cells r → (k : ℕ) → k < length at.units → slice_index at.units k ≡ r → ⊥
row_apart p at t r h first k within e =
    let size = h.shows.units_size in
    let k_in : k < p.columns = omega arith in
    let low = row_below p at t r h first in
    let none : t.value r ≡ pos 0 = subst (λ (m : ℕ). t.value m ≡ pos 0) (sym (h.shows.units_are k k_in) ∙ e) (h.stands.unit_value k k_in) in
    absurd (omega (arith, ints))

units_proper : (p : Parts) (at : Tableau) (t : Scaled) → Stands p at t → UnitsProper p t
units_proper p at t h k within =
    let size = h.shows.units_size in
    let there : slice_index at.units k < length at.cells = at.shape.units_in k (omega arith) in
    let is = h.shows.units_are k within in
    let rows = h.rows in
    proper_place p (t.unit k) (h.units k within) (omega arith)

-- ---- the weights

ratio_same : (a b n d f s : ℤ) → pos 0 <ℤ b → a *ℤ d ≡ n *ℤ b → a *ℤ s ≡ f *ℤ b → n *ℤ s ≡ d *ℤ f
ratio_same a b n d f s some first second = carried n d a b f s some (sym first) second ∙ mul_comm f d

none_over : (n s d : ℤ) → n ≡ pos 0 → n *ℤ s ≡ d *ℤ pos 0
none_over n s d is = ap (λ z. z *ℤ s) is ∙ none_times s ∙ sym (none_times d) ∙ mul_comm (pos 0) d

-- units of the list, as the tableau over one denominator has them
unit_there : (p : Parts) (at : Tableau) (t : Scaled) (k i : ℕ) → Stands p at t → k < p.columns → t.unit k ≡ suc (p.columns + i) → slice_index at.units k ≡ suc (length at.units + i)
unit_there p at t k i h within is = h.shows.units_are k within ∙ is ∙ ap (λ (n : ℕ). suc (n + i)) (sym h.shows.units_size)

unit_back : (p : Parts) (at : Tableau) (t : Scaled) (k i : ℕ) → Stands p at t → k < p.columns → slice_index at.units k ≡ suc (length at.units + i) → t.unit k ≡ suc (p.columns + i)
unit_back p at t k i h within is = sym (h.shows.units_are k within) ∙ is ∙ ap (λ (n : ℕ). suc (n + i)) h.shows.units_size

alone : (p : Parts) (at : Tableau) (t : Scaled) (k i : ℕ) → Stands p at t → k < p.columns → t.unit k ≡ suc (p.columns + i) → (l : ℕ) → l < p.columns → t.unit l ≡ suc (p.columns + i) → l ≡ k
alone p at t k i h within is l within_l is_l =
    let size = h.shows.units_size in
    units_differ p at t h l k (omega arith) (omega arith) (unit_there p at t l i h within_l is_l ∙ sym (unit_there p at t k i h within is))

dual_weight : (p : Parts) (at : Tableau) (t : Scaled) (i : ℕ) (num den : ℤ) → Stands p at t → i < p.rows → IsWeight at.units (row_of at.cells 0) (length at.units) i num den → num *ℤ pos t.scale ≡ den *ℤ duals_of p t i
dual_weight p at t i num den h there w =
    let size = h.shows.units_size in
    elim (find t.unit p.columns (suc (p.columns + i))) [
      | inl found ↦
          let k = found.place in
          let cell = cell_of (row_of at.cells 0) (suc k) in
          let own = w.unit k (let q = found.within in omega arith) (unit_there p at t k i h found.within found.is) in
          let rows = h.rows in
          let shown = (h.shows.rows 0 (omega arith)).numbers (suc k) (let q = found.within in omega arith) in
          let total = total_one p.columns p.rows p.columns i k t.unit (t.factor 0) there found.within found.is (alone p at t k i h found.within found.is) in
          ratio_same cell.num cell.den num den (t.factor 0 k) (pos t.scale) (den_above cell.num cell.den cell.lowest) own shown ∙ ap (λ z. den *ℤ z) (sym total)
      | inr none ↦
          let zero_num = w.other (λ k q e. none k (omega arith) (unit_back p at t k i h (omega arith) e)) in
          let total = total_none p.columns p.rows p.columns i t.unit (t.factor 0) none in
          none_over num (pos t.scale) den zero_num ∙ ap (λ z. den *ℤ z) (sym total)
    ]

pub duals_weigh : (program : Program) (box : Bounds) (at : Tableau) (t : Scaled) (y : Multipliers) → Stands (parts_of program box) at t → AreExactDuals program at y → AreWeights (length program.rows) y.den t.scale y.tops (duals_of (parts_of program box) t)
duals_weigh program box at t y h are = record {
  there = are.there;
  nums = λ i q. dual_weight (parts_of program box) at t i (pos (num_at y.tops i)) (pos y.den) h q (are.weights i q);
}

negative : (z : ℤ) → neg_ℤ z ≡ pos 0 -ℤ z
negative z = omega (arith, ints)

turned_ratio : (a b f s : ℤ) → a *ℤ s ≡ f *ℤ b → neg_ℤ a *ℤ s ≡ (pos 0 -ℤ f) *ℤ b
turned_ratio a b f s is = ap (λ z. z *ℤ s) (negative a) ∙ neg-mul a s ∙ ap (λ z. pos 0 -ℤ z) is ∙ sym (neg-mul f b)

refuting_weight : (p : Parts) (at : Tableau) (t : Scaled) (r i : ℕ) (num den : ℤ) → Stands p at t → IsFirstBelow at.cells r → i < p.rows → IsRefutingWeight at.units (row_of at.cells r) r i num den → num *ℤ pos t.scale ≡ den *ℤ refuting surplus_share p t r i
refuting_weight p at t r i num den h first there w =
    let size = h.shows.units_size in
    let scale = pos t.scale in
    let away : (k : ℕ) → k < p.columns → t.unit k ≡ r → ⊥ = λ k q e. row_apart p at t r h first k (omega arith) (h.shows.units_are k q ∙ e) in
    elim (eqb_tells r (suc (p.columns + i))) [
      | inl x ↦
          let own = w.own (x.1 ∙ ap (λ (n : ℕ). suc (n + i)) (sym size)) in
          let share = share_there p.columns p.rows r i scale there x.1 in
          let total = total_none p.columns p.rows p.columns i t.unit (turned_row t r) (λ k q e. away k q (e ∙ sym x.1)) in
          let whole : refuting surplus_share p t r i ≡ scale = omega (arith, ints, share, total) in
          ap (λ z. z *ℤ scale) own ∙ ap (λ z. den *ℤ z) (sym whole)
      | inr x ↦
          let share = share_other p.columns p.rows r i scale x.1 in
          elim (find t.unit p.columns (suc (p.columns + i))) [
            | inl found ↦
                let k = found.place in
                let cell = cell_of (row_of at.cells r) (suc k) in
                let own = w.unit k (let q = found.within in omega arith) (unit_there p at t k i h found.within found.is) in
                let shown = (h.shows.rows r first.within).numbers (suc k) (let q = found.within in omega arith) in
                let total = total_one p.columns p.rows p.columns i k t.unit (turned_row t r) there found.within found.is (alone p at t k i h found.within found.is) in
                let whole : refuting surplus_share p t r i ≡ pos 0 -ℤ t.factor r k = omega (arith, ints, share, total) in
                ratio_same (neg_ℤ cell.num) cell.den num den (pos 0 -ℤ t.factor r k) scale (den_above cell.num cell.den cell.lowest) own (turned_ratio cell.num cell.den (t.factor r k) scale shown) ∙ ap (λ z. den *ℤ z) (sym whole)
            | inr none ↦
                let zero_num = w.other (λ e. x.1 (e ∙ ap (λ (n : ℕ). suc (n + i)) size)) (λ k q e. none k (omega arith) (unit_back p at t k i h (omega arith) e)) in
                let total = total_none p.columns p.rows p.columns i t.unit (turned_row t r) none in
                let whole : refuting surplus_share p t r i ≡ pos 0 = omega (arith, ints, share, total) in
                none_over num scale den zero_num ∙ ap (λ z. den *ℤ z) (sym whole)
          ]
    ]

-- ---- an empty tableau

pub same_row : (at : Tableau) (r s : ℕ) → IsFirstBelow at.cells r → IsFirstBelow at.cells s → r ≡ s
same_row at r s first second =
    elim (order r s) [
      | inl p ↦ absurd (second.first r first.some p first.below)
      | inr p ↦ elim (order s r) [
        | inl q ↦ absurd (first.first s second.some q second.below)
        | inr q ↦ omega arith
      ]
    ]

pub refutation_refutes : (program : Program) (box : Bounds) (at : Tableau) (t : Scaled) (r : ℕ) (y : Multipliers) → IsBoxOf program box → Stands (parts_of program box) at t → IsFirstBelow at.cells r → FirstCandidate None at.cells r (length at.units) → AreExactRefutation program at y → Refutes program box y
refutation_refutes program box at t r y is_box h first none are =
    let p = parts_of program box in
    let same = same_row at are.row r are.below first in
    let rows = h.rows in
    let within = first.within in
    let size = h.shows.units_size in
    empty_refutes program box y t r is_box h.stands (units_proper p at t h) (proper_place p r first.some (omega arith)) (row_below p at t r h first)
    (λ k q. not_above (t.factor r k) (λ above. none k (omega arith) (fraction_above (cell_of (row_of at.cells r) (suc k)) (t.factor r k) t.scale h.stands.scale_above_none ((h.shows.rows r within).numbers (suc k) (omega arith)) above)))
    (record {
      there = are.there;
      nums = λ i q. refuting_weight p at t r i (pos (num_at y.tops i)) (pos y.den) h first q (subst (λ (s : ℕ). IsRefutingWeight at.units (row_of at.cells s) s i (pos (num_at y.tops i)) (pos y.den)) same (are.weights i q));
    })
  where
    not_above : (z : ℤ) → (pos 0 <ℤ z → ⊥) → z ≤ℤ pos 0
    not_above (pos zero) f = omega (arith, ints)
    not_above (pos (suc n)) f = absurd (f (omega (arith, ints)))
    not_above (negsuc n) f = omega (arith, ints)

-- ---- a least tableau

beyond : (n c : ℕ) (v : ℕ → ℤ) → n ≤ c → sum_below n (λ j. (if j == c then pos 0 -ℤ pos 1 else pos 0) *ℤ v j) ≡ pos 0
beyond zero c v h = refl
beyond (suc n) c v h =
    let before = beyond n c v (omega arith) in
    let last : (if n == c then pos 0 -ℤ pos 1 else pos 0) *ℤ v n ≡ pos 0 = rw (ne_eqb n c (λ e. absurd (omega arith))) (none_times (v n)) in
    omega (arith, ints)

none_below_times : (a : ℤ) (n : ℕ) → pos 0 ≤ℤ a → pos 0 ≤ℤ (a *ℤ pos n)
none_below_times (pos m) n h = omega (arith, ints)
none_below_times (negsuc m) n h = absurd (omega (arith, ints))

room_beyond : (p : Parts) (t : Scaled) (c : ℕ) → ((j : ℕ) → p.low j ≤ p.high j) → StandsFor p.columns (forms_of p) t → p.columns ≤ c → pos 0 ≤ℤ t.value (suc (p.columns + p.rows + c))
room_beyond p t c ordered h past =
    let n = p.columns in
    let steps : ℕ → ℤ = λ j. t.value (suc j) in
    let at : value_at n (form_at p (room c)) (pos t.scale) steps ≡ t.value (suc (n + p.rows + c)) = subst (λ w. value_at n (form_at p w) (pos t.scale) steps ≡ t.value (suc (n + p.rows + c))) (room_place n p.rows c) (h.at_value (suc (n + p.rows + c))) in
    let gone = beyond n c steps past in
    let width : pos 0 ≤ℤ (pos (p.high c) -ℤ pos (p.low c)) = (let o = ordered c in omega (arith, ints)) in
    let above = none_below_times (pos (p.high c) -ℤ pos (p.low c)) t.scale width in
    omega (arith, ints)

pub least_table : (program : Program) (box : Bounds) (at : Tableau) (t : Scaled) → IsBoxOf program box → Stands (parts_of program box) at t → IsLeastTable at.cells → IsLeast t
least_table program box at t is_box h least =
    let p = parts_of program box in
    record {
      over = λ i some.
          elim (order i (length at.cells)) [
            | inl q ↦ value_not_below p at t i h q (least i some q)
            | inr q ↦
                let rows = h.rows in
                let c = i - suc (p.columns + p.rows) in
                let is : suc (p.columns + p.rows + c) ≡ i = omega arith in
                subst (λ (m : ℕ). pos 0 ≤ℤ t.value m) is (room_beyond p t c is_box.ordered h.stands (omega arith))
          ];
    }

size_of : (z : ℤ) → pos 0 ≤ℤ z → z ≡ pos (unsigned_abs z)
size_of (pos n) h = refl
size_of (negsuc n) h = absurd (omega (arith, ints))

same_number : (y e low s v : ℕ) → (pos y -ℤ pos (e * low)) *ℤ pos s ≡ pos e *ℤ pos v → y * s ≡ e * (s * low + v)
same_number y e low s v is =
    let split = sub-mul (pos y) (pos (e * low)) (pos s) in
    let whole : pos (y * s) ≡ pos ((e * low) * s + e * v) = omega (arith, ints) in
    let plain : y * s ≡ (e * low) * s + e * v = omega (arith, ints) in
    plain ∙ turn e low s v
  where
    turn : (e low s v : ℕ) → (e * low) * s + e * v ≡ e * (s * low + v)
    turn e low s v = omega arith

pub point_same : (program : Program) (box : Bounds) (at : Tableau) (t : Scaled) (point : Point) → Stands (parts_of program box) at t → IsLeast t → IsExactPoint box at point → AreSamePoints (length program.columns) t.scale (point_of box t) point.den (numerator point)
point_same program box at t point h least is j q =
    let size = h.shows.units_size in
    let rows = h.rows in
    let cell = cell_of (row_of at.cells (suc j)) 0 in
    let own = is.steps j (omega arith) in
    let shown = (h.shows.rows (suc j) (omega arith)).numbers 0 (omega arith) in
    let ratio = ratio_same cell.num cell.den (pos (numerator point j) -ℤ pos (point.den * slice_index box.low j)) (pos point.den) (t.value (suc j)) (pos t.scale) (den_above cell.num cell.den cell.lowest) own shown in
    same_number (numerator point j) point.den (slice_index box.low j) t.scale (unsigned_abs (t.value (suc j))) (ratio ∙ ap (λ z. pos point.den *ℤ z) (size_of (t.value (suc j)) (least.over (suc j) (omega arith))))

pub certificate_of : (program : Program) (box : Bounds) (at : Tableau) (t : Scaled) (point : Point) (duals : Multipliers) → IsBoxOf program box → Stands (parts_of program box) at t → IsLeastTable at.cells → IsExactPoint box at point → AreExactDuals program at duals → Certifies program box point duals
certificate_of program box at t point duals is_box h table is are =
    let p = parts_of program box in
    let least = least_table program box at t is_box h table in
    let some = h.stands.scale_above_none in
    let range = point_range point in
    let same = point_same program box at t point h least is in
    let columns : All (λ (line : Line). All (λ t. t.column < length program.columns) line.terms) program.rows = λ k d r l e s. (((program_limits program).rows_in k d r).terms l e s).column in
    let lies = point_scaled program box t.scale point.den (point_of box t) (numerator point) some same columns (least_lies program box t h.stands least) in
    let shown = duals_equal program box duals t is_box h.stands (units_proper p at t h) h.positive least (duals_weigh program box at t duals h are) in
    let unrounded = unrounded_scaled (unrounded_numerator program box duals) t.scale point.den duals.den (value_over program t.scale (point_of box t)) (value_over program point.den (numerator point)) some shown (value_scaled program t.scale point.den (point_of box t) (numerator point) same) in
    record {
      lies = record { wholes = is.wholes ∙ h.shows.units_size; parts = is.parts ∙ h.shows.units_size; is_point = lies };
      bound_is = bound_is_value program box duals point.den (numerator point) range.den_above_none is_box lies unrounded;
      unrounded_is = unrounded;
    }

-- ---- the steps of a least tableau

same_le : (x : ℕ) → x ≤ x
same_le x = omega arith

step_most : (num den v : ℤ) (low high s : ℕ) → 1 ≤ s → pos 0 <ℤ den → num *ℤ pos s ≡ v *ℤ den → pos 0 ≤ℤ v → s * low + unsigned_abs v ≤ s * high → (pos low *ℤ den +ℤ num) ≤ℤ (pos high *ℤ den)
step_most num (pos b) (pos m) low high s some above is none_below most =
    let left = mul-add (pos s) (pos low *ℤ pos b) num in
    let turned : pos s *ℤ num ≡ pos (m * b) = mul_comm (pos s) num ∙ is in
    let scaled : (s * low + m) * b ≤ (s * high) * b = mul-le-mul most (same_le b) in
    cancel_le s (pos low *ℤ pos b +ℤ num) (pos high *ℤ pos b) some (omega (arith, ints, left, turned, scaled))
step_most num (pos b) (negsuc m) low high s some above is none_below most = absurd (omega (arith, ints))
step_most num (negsuc b) v low high s some above is none_below most = absurd (omega (arith, ints))

pub steps_from : (program : Program) (box : Bounds) (at : Tableau) (t : Scaled) → IsBoxOf program box → Stands (parts_of program box) at t → IsLeastTable at.cells → (j : ℕ) → j < length at.units → IsStepFrom (slice_index box.low j) (cell_of (row_of at.cells (suc j)) 0)
steps_from program box at t is_box h table j q =
    let size = h.shows.units_size in
    let rows = h.rows in
    let least = least_table program box at t is_box h table in
    let lies = least_lies program box t h.stands least in
    let cell = cell_of (row_of at.cells (suc j)) 0 in
    let shown = (h.shows.rows (suc j) (omega arith)).numbers 0 (omega arith) in
    let within = is_box.within j in
    let top = top_small program.columns j (program_limits program).columns_in in
    let most = step_most cell.num cell.den (t.value (suc j)) (slice_index box.low j) (slice_index box.high j) t.scale h.stands.scale_above_none (den_above cell.num cell.den cell.lowest) shown (least.over (suc j) (omega arith)) (lies.lies.below j (omega arith)) in
    record {
      above = not_below cell.num (table (suc j) (omega arith) (omega arith));
      most = wider (slice_index box.low j) (slice_index box.high j) cell.num cell.den (den_above cell.num cell.den cell.lowest) (omega arith) most;
    }
  where
    not_below : (z : ℤ) → (z <ℤ pos 0 → ⊥) → pos 0 ≤ℤ z
    not_below (pos n) f = omega (arith, ints)
    not_below (negsuc n) f = absurd (f (omega (arith, ints)))

    wider : (low high : ℕ) (num den : ℤ) → pos 0 <ℤ den → high ≤ 2 ^ 25 → (pos low *ℤ den +ℤ num) ≤ℤ (pos high *ℤ den) → (pos low *ℤ den +ℤ num) ≤ℤ (pos (2 ^ 25) *ℤ den)
    wider low high num (pos n) above p q = let scaled : high * n ≤ 2 ^ 25 * n = mul-le-mul p (same_le n) in omega (arith, ints, q, scaled)
    wider low high num (negsuc n) above p q = absurd (omega (arith, ints))
