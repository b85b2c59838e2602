-- The leaf bound of multipliers in a box, and when they refute the box. Every sum is over whole numbers, and is taken over the multipliers' denominator.
use Rattle.std.specs.Prelude.{ℕ, ◌+◌, ◌-◌, ◌*◌, ◌/◌, ◌^◌, min, List, [], ◌∷◌, length, map, ℤ, pos, negsuc, ◌+ℤ◌, ◌-ℤ◌, ◌*ℤ◌, ◌<ℤ◌, ◌<◌, All, slice_index, slice_index_or}
use Rattle.std.specs.Int.{int_min}
use Rattle.ip_model.specs.declared.parts.Term.{Term}
use Rattle.ip_model.specs.declared.parts.Line.{Line}
use Rattle.ip_model.specs.declared.parts.Bounds.{Bounds}
use Rattle.ip_model.specs.declared.program.Program.{Program}
use Rattle.ip_model.specs.Limits.{cost_of}
use Rattle.ip_model.specs.Sums.{sum_below, factor_of}
use Rattle.bound_certificate.specs.declared.multipliers.Top.{Top}
use Rattle.bound_certificate.specs.declared.multipliers.Multipliers.{Multipliers}

-- what is on the left of row i, and what it is to reach
abbrev pub terms_of : List Line → ℕ → List Term
terms_of rows i = slice_index_or (map (λ line. line.terms) rows) i []

abbrev pub least_of : List Line → ℕ → ℤ
least_of rows i = slice_index_or (map (λ line. line.least) rows) i (pos 0)

-- the sum over the rows of multiplier times factor of column j
abbrev pub combined_factor : List Line → List Top → ℕ → ℤ
combined_factor rows [] j = pos 0
combined_factor rows (top ∷ tops) j = pos top.num *ℤ factor_of (terms_of rows top.row) j +ℤ combined_factor rows tops j

-- the sum over the rows of multiplier times what the row is to reach
abbrev pub combined_least : List Line → List Top → ℤ
combined_least rows [] = pos 0
combined_least rows (top ∷ tops) = pos top.num *ℤ least_of rows top.row +ℤ combined_least rows tops

-- the cost of column j, taken so many times, less what the rows take off
abbrev pub reduced_cost : Program → List Top → ℕ → ℕ → ℤ
reduced_cost program tops scale j = pos (scale * cost_of program.columns j) -ℤ combined_factor program.rows tops j

-- the least that the sum of e j times number j can be in the box
abbrev pub box_sum : ℕ → (ℕ → ℤ) → Bounds → ℤ
box_sum n e box = sum_below n (λ j. int_min (e j *ℤ pos (slice_index box.low j)) (e j *ℤ pos (slice_index box.high j)))

-- the base and what the rows are to reach, weighted by the multipliers, plus the least of the reduced costs over the box; base and costs are taken so many times
abbrev pub weighted_total : Program → Bounds → List Top → ℕ → ℤ
weighted_total program box tops scale =
    pos (scale * program.base) +ℤ combined_least program.rows tops +ℤ box_sum (length program.columns) (reduced_cost program tops scale) box

-- the bound before rounding, times the denominator
abbrev pub unrounded_numerator : Program → Bounds → Multipliers → ℤ
unrounded_numerator program box y = weighted_total program box y.tops y.den

-- the same with all costs and the base taken as 0
abbrev pub refutation : Program → Bounds → Multipliers → ℤ
refutation program box y = weighted_total program box y.tops 0

-- the least whole number that is not below total / den, or 0 where that is below 0
abbrev pub rounded_up : ℤ → ℕ → ℕ
rounded_up (pos n) den = (n + (den - 1)) / den
rounded_up (negsuc n) den = 0

abbrev pub leaf_bound : Program → Bounds → Multipliers → ℕ
leaf_bound program box y = min (rounded_up (unrounded_numerator program box y) y.den) (2 ^ 62)

abbrev pub Refutes : Program → Bounds → Multipliers → Type 0
Refutes program box y = pos 0 <ℤ refutation program box y

-- each row that has a multiplier is in the program
abbrev pub RowsInRange : Program → Multipliers → Type 0
RowsInRange program y = All (λ top. top.row < length program.rows) y.tops
