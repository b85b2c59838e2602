use Rattle.std.proofs.Common.{◌≡◌, ℕ, ◌<◌, ◌≤◌, if◌then◌else◌, slice_index}
use Rattle.ip_model.specs.Limits.{helper_at}
use Rattle.closed_boxes.proofs.settle.clear_helpers.Given as goal

abbrev pub invariant-loop-j : goal.invariant-loop-j
invariant-loop-j l = record {
  done : (k : ℕ) → k < l.j → slice_index l.numbers k ≡ (if helper_at l.columns k then 0 else slice_index l.initial.numbers k);
  kept : (k : ℕ) → l.j ≤ k → slice_index l.numbers k ≡ slice_index l.initial.numbers k;
}
