-- The leaf bound lies at or under the value of each point in the box, and a refuted box has none.
use Rattle.std.proofs.Common.{◌∙◌, ◌^◌, ◌⊎◌, inl, inr, ◌/◌, ◌≡◌, ℕ, zero, suc, ◌+◌, ◌*◌, ◌-◌, ◌<◌, ◌≤◌, ℤ, pos, negsuc, ◌+ℤ◌, ◌*ℤ◌, ◌≤ℤ◌, ◌<ℤ◌, ap, arith, List, [], ◌∷◌, All, length, slice_index}
use Rattle.std.proofs.lemmas.Int.{ints, clamps}
use Rattle.std.proofs.lemmas.Nat.{div_below}
use Rattle.std.proofs.Math.Nat.{mul-le-mul_left, le_of_mul-le-mul_left}
use borrow.Author.Differences.{lt_out, le_out}
use Rattle.ip_model.specs.declared.parts.Line.{Line}
use Rattle.ip_model.specs.declared.parts.Bounds.{Bounds}
use Rattle.ip_model.specs.declared.program.Program.{Program}
use Rattle.ip_model.specs.Limits.{cost_of}
use Rattle.ip_model.specs.Sums.{sum_below, total_below}
use Rattle.ip_model.specs.Points.{MeetsLine, IsPointIn, IsWholePointIn, value_over, value_of}
use Rattle.std.specs.Int.{int_min}
use Rattle.bound_certificate.specs.declared.multipliers.Multipliers.{Multipliers}
use Rattle.bound_certificate.specs.declared.multipliers.Top.{Top}
use Rattle.bound_certificate.specs.Bound.{terms_of, combined_least, reduced_cost, box_sum, weighted_total, unrounded_numerator, refutation, rounded_up, leaf_bound, Refutes}
use lib.IntN.{+ℤ_assoc}
use Rattle.bound_certificate.proofs.Integers.{mul-add}
use Rattle.bound_certificate.proofs.Duality.{weak_duality, no_gap, AllTight, MeetsRow}
use Rattle.ip_model.proofs.RuleFacts.{program_limits}
use Rattle.bound_certificate.proofs.RuleFacts.{multipliers_range}

pub columns_in : (n : ℕ) (rows : List Line) (i : ℕ) → All (λ line. All (λ t. t.column < n) line.terms) rows → All (λ t. t.column < n) (terms_of rows i)
columns_in n [] i h = λ k d p. absurd (omega arith)
columns_in n (line ∷ rows) zero h = h 0 line (omega arith)
columns_in n (line ∷ rows) (suc i) h = columns_in n rows i (λ k d p. h (suc k) d (omega arith))

row_met : (rows : List Line) (den : ℕ) (x : ℕ → ℕ) (i : ℕ) → All (MeetsLine den x) rows → MeetsRow rows den x i
row_met [] den x i h = omega (arith, ints)
row_met (line ∷ rows) den x zero h = h 0 line (omega arith)
row_met (line ∷ rows) den x (suc i) h = row_met rows den x i (λ k d p. h (suc k) d (omega arith))

-- a sum of costs is a natural number
natural_sum : (n den : ℕ) (cost x : ℕ → ℕ) → sum_below n (λ j. pos (den * cost j) *ℤ pos (x j)) ≡ pos (den * total_below n (λ j. cost j * x j))
natural_sum zero den cost x = omega (arith, ints)
natural_sum (suc n) den cost x = omega (arith, ints, natural_sum n den cost x)

-- den times the weighted total is at most the value of the point, taken as often as the costs
pub weighted_under : (program : Program) (box : Bounds) (y : Multipliers) (scale den : ℕ) (x : ℕ → ℕ) → IsPointIn program box den x → (pos den *ℤ weighted_total program box y.tops scale) ≤ℤ pos (scale * value_over program den x)
weighted_under program box y scale den x is =
    let n = length program.columns in
    let cost : ℕ → ℕ = λ j. scale * cost_of program.columns j in
    let rows_and_box = combined_least program.rows y.tops +ℤ box_sum n (reduced_cost program y.tops scale) box in
    let under = weak_duality n program.rows y.tops cost box den x
    (λ i. columns_in n program.rows i (λ k d p l e q. (((program_limits program).rows_in k d p).terms l e q).column))
    (λ i. row_met program.rows den x i is.meets) is.lies.above is.lies.below in
    let order = +ℤ_assoc (pos (scale * program.base)) (combined_least program.rows y.tops) (box_sum n (reduced_cost program y.tops scale) box) in
    omega (arith, ints, under, ap (λ z. pos den *ℤ z) order, mul-add (pos den) (pos (scale * program.base)) rows_and_box, natural_sum n scale (cost_of program.columns) x)

rounded_under : (z : ℤ) (d v : ℕ) → 1 ≤ d → z ≤ℤ pos (d * v) → rounded_up z d ≤ v
rounded_under (pos n) d v one h = omega (arith, ints, div_below (n + (d - 1)) d (v + 1) one (omega (arith, ints)))
rounded_under (negsuc n) d v one h = omega arith

pub leaf_bound_under : (program : Program) (box : Bounds) (y : Multipliers) (point : List ℕ) → IsWholePointIn program box point → leaf_bound program box y ≤ value_of program point
leaf_bound_under program box y point is =
    let under = weighted_under program box y y.den 1 (slice_index point) is.is_point in
    let rounded = rounded_under (unrounded_numerator program box y) y.den (value_of program point) (multipliers_range y).den_above_none (omega (arith, ints, under)) in
    omega (arith, rounded)

not_at_most_none : (n : ℕ) (r : ℤ) → 1 ≤ n → pos 0 <ℤ r → (pos n *ℤ r) ≤ℤ pos 0 → ⊥
not_at_most_none n r one h k = omega (arith, ints, mul-le-mul_left n (lt_out (pos 0) r h))

pub refuted_has_none : (program : Program) (box : Bounds) (y : Multipliers) (den : ℕ) (x : ℕ → ℕ) → 1 ≤ den → Refutes program box y → IsPointIn program box den x → ⊥
refuted_has_none program box y den x one refutes is =
    let under = weighted_under program box y 0 den x is in
    not_at_most_none den (refutation program box y) one refutes (omega (arith, ints, under))

-- v over den, rounded up, is not below it
not_below : (v den : ℕ) → 1 ≤ den → v ≤ den * ((v + (den - 1)) / den)
not_below v den some = omega arith

-- z times den is at most d times v: then z over d, rounded up, is at most v over den, rounded up
rounded_under_up : (z : ℤ) (d den v : ℕ) → 1 ≤ d → 1 ≤ den → (pos den *ℤ z) ≤ℤ pos (d * v) → rounded_up z d ≤ (v + (den - 1)) / den
rounded_under_up (pos n) d den v one some h =
    let w = (v + (den - 1)) / den in
    let scaled = mul-le-mul_left d (not_below v den some) in
    let under : den * n ≤ den * (d * w) = omega (arith, ints, scaled) in
    let least = le_of_mul-le-mul_left under some in
    rounded_under (pos n) d w one (omega (arith, ints, least))
rounded_under_up (negsuc n) d den v one some h = omega arith

-- the leaf bound is at most the value, rounded up, of each point of fractions in the box that meets the rows
pub leaf_bound_under_up : (program : Program) (box : Bounds) (y : Multipliers) (den : ℕ) (x : ℕ → ℕ) → 1 ≤ den → IsPointIn program box den x → leaf_bound program box y ≤ (value_over program den x + (den - 1)) / den
leaf_bound_under_up program box y den x some is =
    let under = weighted_under program box y y.den den x is in
    let rounded = rounded_under_up (unrounded_numerator program box y) y.den den (value_over program den x) (multipliers_range y).den_above_none some under in
    omega (arith, rounded)

-- each column's term of the box is its least at the point
abbrev pub AllLeast : Program → Bounds → List Top → ℕ → ℕ → (ℕ → ℕ) → Type 0
AllLeast program box tops scale den x =
    (j : ℕ) → j < length program.columns
    → (pos den *ℤ int_min (reduced_cost program tops scale j *ℤ pos (slice_index box.low j)) (reduced_cost program tops scale j *ℤ pos (slice_index box.high j))) ≡ reduced_cost program tops scale j *ℤ pos (x j)

-- where nothing is lost, what is shown is the value of the point
pub weighted_is_value : (program : Program) (box : Bounds) (tops : List Top) (scale den : ℕ) (x : ℕ → ℕ) → AllTight program.rows tops den x → AllLeast program box tops scale den x → pos den *ℤ weighted_total program box tops scale ≡ pos (scale * value_over program den x)
weighted_is_value program box tops scale den x tight least =
    let n = length program.columns in
    let cost : ℕ → ℕ = λ j. scale * cost_of program.columns j in
    let rows_and_box = combined_least program.rows tops +ℤ box_sum n (reduced_cost program tops scale) box in
    let same = no_gap n program.rows tops cost box den x
    (λ i. columns_in n program.rows i (λ k d p l e q. (((program_limits program).rows_in k d p).terms l e q).column)) tight least in
    let order = +ℤ_assoc (pos (scale * program.base)) (combined_least program.rows tops) (box_sum n (reduced_cost program tops scale) box) in
    omega (arith, ints, same, ap (λ z. pos den *ℤ z) order, mul-add (pos den) (pos (scale * program.base)) rows_and_box, natural_sum n scale (cost_of program.columns) x)

-- a column that is fixed at the point's number, or that costs nothing any more, or that is at its low 0 and costs no less than nothing
abbrev pub IsSettled : ℤ → ℕ → ℕ → ℕ → Type 0
IsSettled e low high x = ((low ≡ x) × (high ≡ x)) ⊎ ((e ≡ pos 0) ⊎ ((low ≡ 0) × (x ≡ 0) × (pos 0 ≤ℤ e)))

settled_least : (e : ℤ) (low high x : ℕ) → IsSettled e low high x → (pos 1 *ℤ int_min (e *ℤ pos low) (e *ℤ pos high)) ≡ e *ℤ pos x
settled_least e low high x (inl w) = rw (w.0, w.1) (omega (arith, ints, clamps))
settled_least e low high x (inr (inl w)) = rw w (omega (arith, ints, clamps))
settled_least e low high x (inr (inr w)) = rw (w.0, w.1) (omega (arith, ints, clamps, mul-le-mul_left high (le_out (pos 0) e w.2)))

pub leaf_is_value : (program : Program) (box : Bounds) (y : Multipliers) (point : List ℕ) → y.den ≡ 1 → AllTight program.rows y.tops 1 (slice_index point)
    → ((j : ℕ) → j < length program.columns → IsSettled (reduced_cost program y.tops 1 j) (slice_index box.low j) (slice_index box.high j) (slice_index point j))
    → value_of program point ≤ 2 ^ 62 → leaf_bound program box y ≡ value_of program point
leaf_is_value program box y point whole tight settled small =
    let shown = weighted_is_value program box y.tops 1 1 (slice_index point) tight
    (λ j p. settled_least (reduced_cost program y.tops 1 j) (slice_index box.low j) (slice_index box.high j) (slice_index point j) (settled j p)) in
    let is : unrounded_numerator program box y ≡ pos (value_of program point) = ap (weighted_total program box y.tops) whole ∙ omega (arith, ints, shown) in
    rw (is, whole) (omega (arith, small))
