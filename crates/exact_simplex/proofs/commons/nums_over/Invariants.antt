use Rattle.std.proofs.Common.{◌≡◌, ℕ, ◌<◌, ◌≤◌, ◌^◌, length, slice_index}
use Rattle.exact_simplex.specs.Cells.{cell_of}
use Rattle.exact_simplex.specs.Commons.{IsNumOver}
use Rattle.exact_simplex.proofs.commons.nums_over.Given as goal

abbrev pub invariant-loop-number : goal.invariant-loop-number
invariant-loop-number l = record {
  size : length l.nums.items ≡ l.number-index;
  nums : (i : ℕ) → i < l.number-index → (slice_index l.nums.items i ≤ 2 ^ 60) × IsNumOver (cell_of l.numbers i) (slice_index l.nums.items i) l.den;
}
