-- Multipliers bound a smaller box at least as well.
use Rattle.std.proofs.Common.{ℕ, suc, ◌+◌, ◌-◌, ◌/◌, ◌<◌, ◌≤◌, ℤ, pos, negsuc, ◌*ℤ◌, ◌≤ℤ◌, arith, List, length, slice_index, set, get_or, inl, inr}
use Rattle.std.proofs.lemmas.Int.{ints, clamps}
use Rattle.std.proofs.lemmas.Nat.{le-div}
use Rattle.std.proofs.lemmas.Bool.{cases_eq, cases_lt}
use Rattle.std.proofs.lemmas.List.{get_or-set_same, get_or-set_other}
use Rattle.std.proofs.Math.ListN.{get_or-eq_default}
use Rattle.ip_model.specs.Points.{IsBoxOf}
use Rattle.bound_certificate.proofs.WalkSteps.{low_side_is_box, high_side_is_box}
use Rattle.std.proofs.Math.Nat.{mul-le-mul_left, div-mul-le_self}
use Rattle.std.specs.Int.{int_min}
use Rattle.ip_model.specs.declared.parts.Bounds.{Bounds}
use Rattle.ip_model.specs.declared.program.Program.{Program}
use Rattle.bound_certificate.specs.declared.multipliers.Multipliers.{Multipliers}
use Rattle.bound_certificate.specs.Bound.{reduced_cost, box_sum, unrounded_numerator, rounded_up, leaf_bound}
use Rattle.bound_certificate.specs.Trees.{low_side, high_side}
use Rattle.bound_certificate.proofs.RuleFacts.{multipliers_range}
use Rattle.bound_certificate.proofs.SumBelow.{sum_below-le}

times_up : (a x y : ℕ) → x ≤ y → (pos a *ℤ pos x) ≤ℤ (pos a *ℤ pos y)
times_up a x y h = omega (arith, ints, mul-le-mul_left a h)

times_down : (a x y : ℕ) → x ≤ y → (negsuc a *ℤ pos y) ≤ℤ (negsuc a *ℤ pos x)
times_down a x y h = omega (arith, ints, mul-le-mul_left (suc a) h)

-- the lesser product at the ends is at most the product between them
under_between : (e : ℤ) (low high x : ℕ) → low ≤ x → x ≤ high → int_min (e *ℤ pos low) (e *ℤ pos high) ≤ℤ (e *ℤ pos x)
under_between (pos a) low high x h k = omega (arith, ints, clamps, times_up a low x h)
under_between (negsuc a) low high x h k = omega (arith, ints, clamps, times_down a x high k)

under_both : (z a b : ℤ) → z ≤ℤ a → z ≤ℤ b → z ≤ℤ int_min a b
under_both z a b h k = omega (arith, ints, clamps)

-- one box lies in another, over the first n columns
pub record LiesWithin (n : ℕ) (outer inner : Bounds) : Type 0 where
  pub above : (j : ℕ) → j < n → slice_index outer.low j ≤ slice_index inner.low j
  pub ordered : (j : ℕ) → j < n → slice_index inner.low j ≤ slice_index inner.high j
  pub below : (j : ℕ) → j < n → slice_index inner.high j ≤ slice_index outer.high j

box_sum_within : (n : ℕ) (e : ℕ → ℤ) (outer inner : Bounds) → LiesWithin n outer inner → box_sum n e outer ≤ℤ box_sum n e inner
box_sum_within n e outer inner w = sum_below-le n _ _ (λ j p.
    let low = slice_index outer.low j in
    let high = slice_index outer.high j in
    let above = w.above j p in
    let ordered = w.ordered j p in
    let below = w.below j p in
    under_both (int_min (e j *ℤ pos low) (e j *ℤ pos high)) (e j *ℤ pos (slice_index inner.low j)) (e j *ℤ pos (slice_index inner.high j))
    (under_between (e j) low high (slice_index inner.low j) above (omega arith))
    (under_between (e j) low high (slice_index inner.high j) (omega arith) below))

total_within : (program : Program) (outer inner : Bounds) (y : Multipliers) → LiesWithin (length program.columns) outer inner → unrounded_numerator program outer y ≤ℤ unrounded_numerator program inner y
total_within program outer inner y w = let sum = box_sum_within (length program.columns) (reduced_cost program y.tops y.den) outer inner w in omega (arith, ints)

div_up : (m n d : ℕ) → 1 ≤ d → m ≤ n → m / d ≤ n / d
div_up m n d some h = le-div (m / d) n d some (omega (arith, div-mul-le_self m d))

rounded_within : (a b : ℤ) (den : ℕ) → 1 ≤ den → a ≤ℤ b → rounded_up a den ≤ rounded_up b den
rounded_within (pos m) (pos n) den some h = div_up (m + (den - 1)) (n + (den - 1)) den some (omega (arith, ints))
rounded_within (pos m) (negsuc n) den some h = absurd (omega (arith, ints))
rounded_within (negsuc m) b den some h = omega arith

-- the leaf bound of the same multipliers is no less in a box that lies within
pub bound_within : (program : Program) (outer inner : Bounds) (y : Multipliers) → LiesWithin (length program.columns) outer inner → leaf_bound program outer y ≤ leaf_bound program inner y
bound_within program outer inner y w =
    let up = rounded_within (unrounded_numerator program outer y) (unrounded_numerator program inner y) y.den (multipliers_range y).den_above_none (total_within program outer inner y w) in omega arith

at_most_before : (high : List ℕ) (column at j : ℕ) → at < get_or high column 0 → get_or (set high column at) j 0 ≤ get_or high j 0
at_most_before high column at j h = elim (cases_eq j column) [
  | inl e ↦ rw e (elim (cases_lt column (length high)) [ inl p ↦ omega (arith, get_or-set_same high column at 0 p) | inr p ↦ omega (arith, get_or-eq_default high 0 p) ])
  | inr e ↦ omega (arith, get_or-set_other high column j at 0 e)
]

at_least_before : (low : List ℕ) (column at j : ℕ) → get_or low column 0 ≤ at → get_or low j 0 ≤ get_or (set low column at) j 0
at_least_before low column at j h = elim (cases_eq j column) [
  | inl e ↦ rw e (elim (cases_lt column (length low)) [ inl p ↦ omega (arith, get_or-set_same low column at 0 p) | inr p ↦ omega (arith, get_or-eq_default low 0 p) ])
  | inr e ↦ omega (arith, get_or-set_other low column j at 0 e)
]

-- the two sides of a split lie in the box
pub low_side_within : (program : Program) (box : Bounds) (column at : ℕ) → IsBoxOf program box → slice_index box.low column ≤ at → at < slice_index box.high column → LiesWithin (length program.columns) box (low_side box column at)
low_side_within program box column at is above below = record {
  above = λ j p. omega arith;
  ordered = λ j p. (low_side_is_box program box column at is above below).ordered j;
  below = λ j p. at_most_before box.high column at j below;
}

pub high_side_within : (program : Program) (box : Bounds) (column at : ℕ) → IsBoxOf program box → slice_index box.low column ≤ at → at < slice_index box.high column → LiesWithin (length program.columns) box (high_side box column at)
high_side_within program box column at is above below = record {
  above = λ j p. at_least_before box.low column (at + 1) j (omega arith);
  ordered = λ j p. (high_side_is_box program box column at is above below).ordered j;
  below = λ j p. omega arith;
}

pub low_side_bound : (program : Program) (box : Bounds) (column at : ℕ) (y : Multipliers) → IsBoxOf program box → slice_index box.low column ≤ at → at < slice_index box.high column
    → leaf_bound program box y ≤ leaf_bound program (low_side box column at) y
low_side_bound program box column at y is above below = bound_within program box (low_side box column at) y (low_side_within program box column at is above below)

pub high_side_bound : (program : Program) (box : Bounds) (column at : ℕ) (y : Multipliers) → IsBoxOf program box → slice_index box.low column ≤ at → at < slice_index box.high column
    → leaf_bound program box y ≤ leaf_bound program (high_side box column at) y
high_side_bound program box column at y is above below = bound_within program box (high_side box column at) y (high_side_within program box column at is above below)
