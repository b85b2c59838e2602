use Rattle.std.proofs.Common.{◌≡◌, ℕ, ◌<◌, suc, length, slice_index}
use Rattle.exact_simplex.proofs.start.start_units.Given as goal

abbrev pub invariant-loop-k : goal.invariant-loop-k
invariant-loop-k l = record {
  size : length l.units.items ≡ l.k;
  units : (k : ℕ) → k < l.k → slice_index l.units.items k ≡ suc k;
}
