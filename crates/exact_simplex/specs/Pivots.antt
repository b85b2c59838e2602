-- The operations of the written pivot, and when they fit.
use Rattle.std.specs.Prelude.{ℕ, ◌≢◌, ◌<◌, List, length, pos, ◌*ℤ◌, neg_ℤ, unsigned_abs}
use Rattle.exact_fraction.specs.declared.fraction.Fraction.{Fraction}
use Rattle.exact_fraction.specs.Exact.{IsRatio, SumFits, ProductFits, reciprocal_top}
use Rattle.exact_simplex.specs.Cells.{cell_of, row_of}

abbrev pub IsQuotient : Fraction → Fraction → Fraction → Type 0
IsQuotient q f g = IsRatio q.num q.den (f.num *ℤ g.den) (f.den *ℤ g.num)

abbrev pub IsProduct : Fraction → Fraction → Fraction → Type 0
IsProduct p f g = IsRatio p.num p.den (f.num *ℤ g.num) (f.den *ℤ g.den)

abbrev pub QuotientFits : Fraction → Fraction → Type 0
QuotientFits f g = ProductFits f.num f.den (reciprocal_top g.num g.den) (pos (unsigned_abs g.num))

-- f * g, and then its difference from the old cell
pub record CellFits (old f g : Fraction) : Type 0 where
  pub product : ProductFits f.num f.den g.num g.den
  pub difference : (p : Fraction) → IsProduct p f g → SumFits old.num old.den (neg_ℤ p.num) p.den

-- the operations in a row that is not the pivot's and is not 0 in column k
pub record RowFits (row pivot_row : List Fraction) (k : ℕ) : Type 0 where
  pub own : QuotientFits (cell_of row k) (cell_of pivot_row k)
  pub others : (c : ℕ) (g : Fraction) → c < length row → c ≢ k → IsQuotient g (cell_of pivot_row c) (cell_of pivot_row k) → CellFits (cell_of row c) (cell_of row k) g

-- each operation of the written pivot at row r and column k fits
pub record PivotFits (cells : List (List Fraction)) (r k : ℕ) : Type 0 where
  pub shares : (c : ℕ) → c < length (row_of cells r) → c ≢ k → QuotientFits (cell_of (row_of cells r) c) (cell_of (row_of cells r) k)
  pub rows : (i : ℕ) → i < length cells → i ≢ r → (cell_of (row_of cells i) k).num ≢ pos 0 → RowFits (row_of cells i) (row_of cells r) k
