-- What the cells and units of a tableau always keep.
use Rattle.std.specs.Prelude.{ℕ, ◌≡◌, ◌<◌, ◌^◌, suc, List, length, slice_index}
use Rattle.exact_fraction.specs.declared.fraction.Fraction.{Fraction}
use Rattle.exact_simplex.specs.Cells.{row_of}

-- each row has a cell for the values and one for each unit, and each unit is a row
pub record HasShape (cells : List (List Fraction)) (units : List ℕ) : Type 0 where
  pub rows : (i : ℕ) → i < length cells → length (row_of cells i) ≡ suc (length units)
  pub units_in : (k : ℕ) → k < length units → slice_index units k < length cells
  pub few_units : length units < 2 ^ 31
