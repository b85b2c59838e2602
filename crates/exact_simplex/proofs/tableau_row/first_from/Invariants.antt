use Rattle.std.proofs.Common.{◌≡◌, ℕ, ◌<◌, ◌≤◌, ◌-◌, length, slice_get, Some}
use Rattle.exact_simplex.specs.declared.tableau_row.Kept.{Kept}
use Rattle.exact_simplex.proofs.tableau_row.first_from.Given as goal

abbrev pub invariant-loop-low : goal.invariant-loop-low
invariant-loop-low l = record {
  order : l.low ≤ l.high;
  most : l.high ≤ length l.kept;
  before : (i : ℕ) (cell : Kept) → i < l.low → slice_get l.kept i ≡ Some cell → cell.column < l.column;
  after : (i : ℕ) (cell : Kept) → l.high ≤ i → slice_get l.kept i ≡ Some cell → l.column ≤ cell.column;
}

abbrev pub decreases-loop-low : goal.decreases-loop-low
decreases-loop-low l = l.high - l.low
