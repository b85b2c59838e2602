use Rattle.std.proofs.Common.{◌≡◌, ℕ, ◌<◌, length, slice_index}
use Rattle.exact_simplex.specs.Cells.{cell_of}
use Rattle.exact_simplex.specs.Duals.{IsRounded}
use Rattle.exact_simplex.proofs.multiples.nums_rounded.Given as goal

abbrev pub invariant-loop-number : goal.invariant-loop-number
invariant-loop-number l = record {
  size : length l.nums.items ≡ l.number-index;
  nums : (i : ℕ) → i < l.number-index → IsRounded (cell_of l.numbers i).num (cell_of l.numbers i).den (slice_index l.nums.items i);
}
