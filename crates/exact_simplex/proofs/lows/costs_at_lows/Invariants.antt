use Rattle.std.proofs.Common.{◌≡◌, ◌*◌, ◌≤◌, ◌^◌, pos, ◌*ℤ◌, unsigned_abs, slice_index}
use Rattle.ip_model.specs.Limits.{cost_of}
use Rattle.ip_model.specs.Sums.{sum_below}
use Rattle.exact_simplex.proofs.lows.costs_at_lows.Given as goal

abbrev pub invariant-loop-j : goal.invariant-loop-j
invariant-loop-j l = record {
  so_far : l.total ≡ sum_below l.j (λ j. pos (cost_of l.program.columns j) *ℤ pos (slice_index l.bounds.low j));
  small : unsigned_abs l.total ≤ l.j * 2 ^ 39;
}
