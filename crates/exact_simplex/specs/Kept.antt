-- The cells that a row of a tableau keeps: those that are not 0, by rising column.
use Rattle.std.specs.Prelude.{ℕ, ◌≡◌, ◌≢◌, ◌⊎◌, ◌<◌, ◌≤◌, ◌==◌, if◌then◌else◌, suc, List, [], ◌∷◌, length, map, slice_get, Some, pos, All}
use Rattle.std.specs.List.{range_with_len}
use Rattle.exact_fraction.specs.declared.fraction.Fraction.{Fraction}
use Rattle.exact_simplex.specs.Cells.{no_fraction}
use Rattle.exact_simplex.specs.declared.tableau_row.Kept.{Kept}

-- the value in a column, 0 where none is kept
abbrev pub value_of : List Kept → ℕ → Fraction
value_of [] c = no_fraction
value_of (cell ∷ rest) c = if c == cell.column then cell.value else value_of rest c

-- the cells in all columns
abbrev pub all_cells : ℕ → List Kept → List Fraction
all_cells size kept = map (value_of kept) (range_with_len 0 size)

-- the columns rise from this one on, and no value is 0
abbrev pub IsRising : ℕ → List Kept → Type 0
IsRising from [] = Unit {0}
IsRising from (cell ∷ rest) = (from ≤ cell.column) × (cell.value.num ≢ pos 0) × IsRising (suc cell.column) rest

-- all kept columns lie below this one
abbrev pub AreBelow : ℕ → List Kept → Type 0
AreBelow most kept = All (λ cell. cell.column < most) kept

-- the cells that a row of so many columns keeps
pub record AreKept (size : ℕ) (kept : List Kept) : Type 0 where
  pub rising : IsRising 0 kept
  pub below : AreBelow size kept

-- so many cells lie before the column, and the others from it on
pub record IsFirstFrom (column : ℕ) (kept : List Kept) (count : ℕ) : Type 0 where
  pub most : count ≤ length kept
  pub before : (i : ℕ) (cell : Kept) → i < count → slice_get kept i ≡ Some cell → cell.column < column
  pub after : (i : ℕ) (cell : Kept) → count ≤ i → slice_get kept i ≡ Some cell → column ≤ cell.column

-- the first kept cell lies in this column
abbrev pub HasFirst : ℕ → List Kept → Type 0
HasFirst column [] = ⊥
HasFirst column (cell ∷ rest) = cell.column ≡ column

-- the first column that one of two rows keeps
pub record IsFirstColumn (column : ℕ) (left right : List Kept) : Type 0 where
  pub there : HasFirst column left ⊎ HasFirst column right
  pub left_rises : (from : ℕ) → IsRising from left → IsRising column left
  pub right_rises : (from : ℕ) → IsRising from right → IsRising column right
  pub from : (from : ℕ) → IsRising from left → IsRising from right → from ≤ column
