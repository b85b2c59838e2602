use Rattle.std.proofs.Common.{◌≡◌, ◌*◌, ◌≤◌, ◌^◌, ◌+ℤ◌, unsigned_abs, slice_index, drop}
use Rattle.ip_model.specs.Sums.{terms_at}
use Rattle.exact_simplex.proofs.lows.terms_at_lows.Given as goal

abbrev pub invariant-loop-term : goal.invariant-loop-term
invariant-loop-term l = record {
  so_far : l.total +ℤ terms_at (drop l.term-index l.terms) (slice_index l.low) ≡ terms_at l.terms (slice_index l.low);
  small : unsigned_abs l.total ≤ l.term-index * 2 ^ 39;
}
