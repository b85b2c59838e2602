-- The rows of the tableau of a program in a box, as affine functions of the columns' steps above their lows.
use Rattle.std.specs.Prelude.{ℕ, ◌+◌, ◌-◌, zero, suc, nat_lt, ℤ, pos, ◌-ℤ◌, ◌*ℤ◌, if◌then◌else◌, ◌==◌, length, slice_index}
use Rattle.ip_model.specs.declared.parts.Bounds.{Bounds}
use Rattle.ip_model.specs.declared.program.Program.{Program}
use Rattle.ip_model.specs.Limits.{cost_of}
use Rattle.ip_model.specs.Sums.{sum_below, factor_of}
use Rattle.bound_certificate.specs.Bound.{terms_of, least_of}
use Rattle.exact_simplex.specs.Tableaus.{Form}

-- the parts of a program in a box: the numbers of columns and rows, costs, lows, highs, factors by row and column, and what each row asks
pub record Parts : Type 0 where
  pub columns : ℕ
  pub rows : ℕ
  pub cost : ℕ → ℕ
  pub low : ℕ → ℕ
  pub high : ℕ → ℕ
  pub factor : ℕ → ℕ → ℤ
  pub least : ℕ → ℤ

abbrev pub parts_of : Program → Bounds → Parts
parts_of program box = record {
  columns = length program.columns;
  rows = length program.rows;
  cost = cost_of program.columns;
  low = slice_index box.low;
  high = slice_index box.high;
  factor = λ i j. factor_of (terms_of program.rows i) j;
  least = least_of program.rows;
}

-- what a row of the tableau measures
pub data Place : Type 0 where
  costs : Place
  step : ℕ → Place
  surplus : ℕ → Place
  room : ℕ → Place

-- row 0 the costs, then the steps of the columns, the surpluses of the rows and the rooms of the columns
abbrev pub place_of : ℕ → ℕ → ℕ → Place
place_of n m zero = costs
place_of n m (suc i) = if nat_lt i n then step i else (if nat_lt i (n + m) then surplus (i - n) else room (i - (n + m)))

abbrev pub form_at : Parts → Place → Form
form_at p costs = record { slope = λ j. pos (p.cost j); constant = sum_below p.columns (λ j. pos (p.cost j) *ℤ pos (p.low j)) }
form_at p (step c) = record { slope = λ j. if j == c then pos 1 else pos 0; constant = pos 0 }
form_at p (surplus i) = record { slope = p.factor i; constant = sum_below p.columns (λ j. p.factor i j *ℤ pos (p.low j)) -ℤ p.least i }
form_at p (room c) = record { slope = λ j. if j == c then pos 0 -ℤ pos 1 else pos 0; constant = pos (p.high c) -ℤ pos (p.low c) }

abbrev pub forms_of : Parts → ℕ → Form
forms_of p i = form_at p (place_of p.columns p.rows i)
