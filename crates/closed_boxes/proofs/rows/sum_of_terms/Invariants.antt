use Rattle.std.proofs.Common.{◌≡◌, ◌*◌, ◌≤◌, ◌^◌, ◌+ℤ◌, drop, slice_index, unsigned_abs}
use Rattle.ip_model.specs.Sums.{terms_at}
use Rattle.closed_boxes.proofs.rows.sum_of_terms.Given as goal

abbrev pub invariant-loop-term : goal.invariant-loop-term
invariant-loop-term l = record {
  so_far : l.total +ℤ terms_at (drop l.term-index l.terms) (slice_index l.numbers) ≡ terms_at l.terms (slice_index l.numbers);
  small : unsigned_abs l.total ≤ l.term-index * 2 ^ 63;
}
