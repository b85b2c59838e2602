-- What a least point of the relaxation says.
use Rattle.std.proofs.Common.{◌≡◌, ℕ, zero, suc, ◌+◌, ◌-◌, ◌*◌, ◌<◌, ◌≤◌, arith, All, List, [], ◌∷◌, length, slice_index, false, ℤ, pos, ◌*ℤ◌, ◌≤ℤ◌, ◌<ℤ◌, inl, inr, Some}
use Rattle.std.proofs.lemmas.Bool.{cases_lt}
use Rattle.std.proofs.lemmas.Int.{ints}
use Rattle.std.proofs.lemmas.Nat.{le-div}
use Rattle.std.proofs.Math.Nat.{mul-le-mul_left, mul_comm}
use Rattle.std.proofs.Math.ListN.{get_or-eq_default}
use Rattle.ip_model.specs.declared.parts.Line.{Line}
use Rattle.ip_model.specs.declared.parts.Bounds.{Bounds}
use Rattle.ip_model.specs.declared.point.Point.{Point}
use Rattle.ip_model.specs.declared.program.Program.{Program}
use Rattle.ip_model.specs.Limits.{helper_at, top_of}
use Rattle.ip_model.specs.Points.{full_box_of, numerator, value_of, value_over, IsBoxOf, IsPointIn, IsPointOf, MeetsLine}
use Rattle.ip_model.specs.Sums.{terms_at}
use Rattle.ip_model.proofs.RuleFacts.{point_range}
use Rattle.bound_certificate.specs.declared.multipliers.Multipliers.{Multipliers}
use Rattle.bound_certificate.specs.Bound.{leaf_bound, least_of, terms_of}
use Rattle.bound_certificate.specs.Shown.{Shows}
use Rattle.bound_certificate.proofs.WalkSteps.{low_of_full}
use Rattle.closed_boxes.specs.Helpers.{AgreesAtCounts}
use Rattle.closed_boxes.specs.Settling.{IsLeastPoint, IsShortRow}
use Rattle.exact_simplex.specs.Answers.{Certifies}
use Rattle.exact_simplex.specs.Reasons.{HasPointWithin}
use Rattle.branch_bound.specs.Columns.{IsFractional}
use Rattle.branch_bound.specs.Openings.{CanCut}
use Rattle.branch_bound.proofs.ReasonFacts.{point_within}

-- the point is whole in the count columns
abbrev pub IsWholeAtCounts : Program → Point → Type 0
IsWholeAtCounts program point = (j : ℕ) → j < length program.columns → helper_at program.columns j ≡ false → slice_index point.part j ≡ 0

agrees : (program : Program) (point : Point) → IsWholeAtCounts program point → AgreesAtCounts program point.whole point.den (numerator point)
agrees program point whole j there count = omega (arith, whole j there count, mul_comm (slice_index point.whole j) point.den)

row_met : (rows : List Line) (den : ℕ) (x : ℕ → ℕ) (i : ℕ) → i < length rows → All (MeetsLine den x) rows → (pos den *ℤ least_of rows i) ≤ℤ terms_at (terms_of rows i) x
row_met [] den x i p h = absurd (omega arith)
row_met (line ∷ rows) den x zero p h = h 0 line (omega arith)
row_met (line ∷ rows) den x (suc i) p h = row_met rows den x i (omega arith) (λ k d q. h (suc k) d (omega arith))

not_both : (a b : ℤ) → a ≤ℤ b → b <ℤ a → ⊥
not_both a b h k = omega (arith, ints)

-- so no row is short at its counts
pub none_short : (program : Program) (box : Bounds) (point : Point) (row : ℕ) → IsPointOf program box point → IsWholeAtCounts program point → IsShortRow program point.whole row → ⊥
none_short program box point row is whole short =
    not_both _ _ (row_met program.rows point.den (numerator point) row short.there is.is_point.meets)
    (short.short point.den (numerator point) (point_range point).den_above_none (agrees program point whole))

-- a number between so many times two whole numbers
above_low : (den low whole part : ℕ) → den * low ≤ whole * den + part → part < den → low ≤ whole
above_low den low whole part h small = elim (cases_lt whole low) [
  | inl over ↦ absurd (let more = mul-le-mul_left {m = whole + 1} {n = low} den (omega arith) in omega (arith, mul_comm whole den))
  | inr under ↦ under
]

under_high : (den high whole part : ℕ) → whole * den + part ≤ den * high → 1 ≤ den → whole ≤ high
under_high den high whole part h some = elim (cases_lt high whole) [
  | inl over ↦ absurd (let more = mul-le-mul_left {m = high + 1} {n = whole} den (omega arith) in omega (arith, mul_comm whole den))
  | inr under ↦ under
]

below_high : (den high whole part : ℕ) → whole * den + part ≤ den * high → 0 < part → whole < high
below_high den high whole part h some = elim (cases_lt whole high) [
  | inl under ↦ under
  | inr over ↦ absurd (let more = mul-le-mul_left {m = high} {n = whole} den over in omega (arith, mul_comm whole den))
]

pub whole_within : (program : Program) (box : Bounds) (point : Point) → IsBoxOf program box → IsPointOf program box point → (j : ℕ) → slice_index point.whole j ≤ top_of program.columns j
whole_within program box point is_box is j = elim (cases_lt j (length program.columns)) [
  | inl there ↦ omega (arith, under_high point.den (slice_index box.high j) (slice_index point.whole j) (slice_index point.part j) (is.is_point.lies.below j there) (point_range point).den_above_none, is_box.within j)
  | inr past ↦ let none : slice_index point.whole j ≡ 0 = get_or-eq_default point.whole 0 (omega (arith, is.wholes)) in omega arith
]

in_full_box : (program : Program) (box : Bounds) (den : ℕ) (x : ℕ → ℕ) → IsBoxOf program box → IsPointIn program box den x → IsPointIn program (full_box_of program) den x
in_full_box program box den x is_box is = record {
  lies = record {
    above = λ j p. rw (low_of_full (length program.columns) j) (omega arith);
    below = λ j p. let h = is.lies.below j p in let w = mul-le-mul_left den (is_box.within j) in omega arith;
  };
  meets = is.meets;
}

-- its counts have a whole point within the bound of its multipliers
pub settled_within : (program : Program) (box : Bounds) (point : Point) (duals : Multipliers) (settled : List ℕ) → IsBoxOf program box → Certifies program box point duals → IsWholeAtCounts program point → IsLeastPoint program point.whole settled
    → value_of program settled ≤ leaf_bound program box duals
settled_within program box point duals settled is_box least whole found =
    let some = (point_range point).den_above_none in
    let under = found.least point.den (numerator point) some (in_full_box program box point.den (numerator point) is_box least.lies.is_point) (agrees program point whole) in
    let up = le-div (value_of program settled) (value_over program point.den (numerator point) + (point.den - 1)) point.den some (omega (arith, mul_comm (value_of program settled) point.den)) in
    omega (arith, least.bound_is)

-- the point is one of the relaxation within the bound of its multipliers
pub certified_within : (program : Program) (box : Bounds) (point : Point) (duals : Multipliers) → Certifies program box point duals → HasPointWithin program box (leaf_bound program box duals)
certified_within program box point duals least = point_within program box point (leaf_bound program box duals) least.lies (omega (arith, least.bound_is))

-- a fractional column can be split where the point shows it
pub fractional_cut : (program : Program) (box : Bounds) (point : Point) (duals : Multipliers) (column : ℕ) → IsBoxOf program box → Certifies program box point duals → IsFractional program point column
    → CanCut program box (record { column = column; at = slice_index point.whole column; shown = Some point }) × Shows program box column (slice_index point.whole column) (leaf_bound program box duals) point
fractional_cut program box point duals column is_box least at =
    let whole = slice_index point.whole column in
    let part = slice_index point.part column in
    let small = (point_range point).parts column in
    let low = least.lies.is_point.lies.above column at.there in
    let high = least.lies.is_point.lies.below column at.there in
    let some = at.between in (
      record {
        there = at.there;
        count = at.count;
        above = above_low point.den (slice_index box.low column) whole part low small;
        below = below_high point.den (slice_index box.high column) whole part high some;
      },
      record {
        lies = least.lies;
        above = omega (arith, mul_comm whole point.den);
        below = omega (arith, mul_comm whole point.den);
        value = omega (arith, least.bound_is);
      },
    )
