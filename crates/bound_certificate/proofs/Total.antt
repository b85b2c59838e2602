-- What the parts of the total need of the program, the box and the multipliers.
use Rattle.std.proofs.Common.{◌≡◌, ℕ, zero, suc, ◌*◌, ◌<◌, ◌≤◌, ◌^◌, ap, ◌∙◌, arith, List, [], ◌∷◌, length, get_or, slice_index, ℤ, pos, ◌-ℤ◌, ◌*ℤ◌, unsigned_abs, inl, inr, All, AllPairs, mul-le-mul}
use Rattle.std.proofs.lemmas.Bool.{cases_lt}
use Rattle.std.proofs.Math.ListN.{get_or-eq_default}
use Rattle.std.specs.Int.{int_min}
use Rattle.ip_model.specs.declared.parts.Bounds.{Bounds}
use Rattle.ip_model.specs.declared.parts.Column.{Column}
use Rattle.ip_model.specs.declared.program.Program.{Program}
use Rattle.ip_model.specs.Limits.{cost_of, top_of, ColumnInRange}
use Rattle.ip_model.specs.Points.{IsBoxOf}
use Rattle.bound_certificate.specs.declared.multipliers.Top.{Top}
use Rattle.bound_certificate.specs.Bound.{combined_factor, reduced_cost, box_sum}
use Rattle.bound_certificate.proofs.Combined.{rising_few}
use Rattle.bound_certificate.proofs.SumBelow.{sum_below-same}
use Rattle.ip_model.proofs.RuleFacts.{program_limits}

pub tops_few : (program : Program) (tops : List Top) → All (λ top. top.row < length program.rows) tops → AllPairs (λ s t. s.row < t.row) tops → length tops ≤ 2048
tops_few program tops there rising = omega (arith, rising_few (λ (t : Top). t.row) tops (length program.rows) rising there, (program_limits program).few_rows)

cost_in : (columns : List Column) (j : ℕ) → All ColumnInRange columns → cost_of columns j ≤ 10000
cost_in [] j h = omega arith
cost_in (c ∷ cs) zero h = (h 0 c (omega arith)).cost
cost_in (c ∷ cs) (suc j) h = cost_in cs j (λ k d p. h (suc k) d (omega arith))

top_in : (columns : List Column) (j : ℕ) → All ColumnInRange columns → top_of columns j ≤ 20000000
top_in [] j h = omega arith
top_in (c ∷ cs) zero h = (h 0 c (omega arith)).top
top_in (c ∷ cs) (suc j) h = top_in cs j (λ k d p. h (suc k) d (omega arith))

pub high_in : (program : Program) (box : Bounds) → IsBoxOf program box → (j : ℕ) → slice_index box.high j ≤ 2 ^ 25
high_in program box is j = omega (arith, is.within j, top_in program.columns j (program_limits program).columns_in)

pub low_in : (program : Program) (box : Bounds) → IsBoxOf program box → (j : ℕ) → slice_index box.low j ≤ 2 ^ 25
low_in program box is j = omega (arith, is.ordered j, high_in program box is j)

pub costs_small : (program : Program) (columns : List Column) (scale : ℕ) (reduced : List ℤ) → scale ≤ 2 ^ 60 → columns ≡ program.columns → length reduced ≡ length program.columns
    → ((j : ℕ) → j < length columns → get_or reduced j (pos 0) ≡ pos (scale * cost_of columns j)) → (j : ℕ) → unsigned_abs (get_or reduced j (pos 0)) ≤ 2 ^ 80
costs_small program columns scale reduced few same size is j = elim (cases_lt j (length columns)) [
  | inl p ↦ rw (is j p, same) (omega (arith, mul-le-mul few (cost_in program.columns j (program_limits program).columns_in)))
  | inr p ↦
      let past : get_or reduced j (pos 0) ≡ pos 0 = get_or-eq_default reduced (pos 0) (omega (arith, size, ap length same)) in
      rw past (omega arith)
]

-- the code's costs less what is taken off are the reduced costs
pub box_sum_is : (program : Program) (box : Bounds) (columns : List Column) (tops : List Top) (scale : ℕ) (costs reduced : List ℤ) → columns ≡ program.columns → length reduced ≡ length program.columns
    → ((j : ℕ) → j < length columns → get_or costs j (pos 0) ≡ pos (scale * cost_of columns j))
    → ((j : ℕ) → get_or reduced j (pos 0) ≡ get_or costs j (pos 0) -ℤ combined_factor program.rows tops j)
    → box_sum (length reduced) (λ j. get_or reduced j (pos 0)) box ≡ box_sum (length program.columns) (reduced_cost program tops scale) box
box_sum_is program box columns tops scale costs reduced same size cost left =
    ap (λ (n : ℕ). box_sum n (λ j. get_or reduced j (pos 0)) box) size
    ∙ sum_below-same (length program.columns) _ _ (λ j p.
    ap (λ e. int_min (e *ℤ pos (slice_index box.low j)) (e *ℤ pos (slice_index box.high j)))
    (left j ∙ ap (λ z. z -ℤ combined_factor program.rows tops j) (cost j (omega (arith, p, ap length same)) ∙ ap (λ (cs : List Column). pos (scale * cost_of cs j)) same)))
