use Rattle.std.proofs.Common.{◌≡◌, ℕ, ◌<◌, ◌≤◌, true, false, slice_index}
use Rattle.ip_model.specs.Limits.{helper_at, top_of}
use Rattle.closed_boxes.proofs.tests.are_fixed.Given as goal

abbrev pub invariant-loop-j : goal.invariant-loop-j
invariant-loop-j l = record {
  ordered : (k : ℕ) → k < l.j → slice_index l.low k ≤ slice_index l.high k;
  within : (k : ℕ) → k < l.j → slice_index l.high k ≤ top_of l.columns k;
  count : (k : ℕ) → k < l.j → helper_at l.columns k ≡ false → slice_index l.low k ≡ slice_index l.high k;
  low : (k : ℕ) → k < l.j → helper_at l.columns k ≡ true → slice_index l.low k ≡ 0;
  high : (k : ℕ) → k < l.j → helper_at l.columns k ≡ true → slice_index l.high k ≡ top_of l.columns k;
}
