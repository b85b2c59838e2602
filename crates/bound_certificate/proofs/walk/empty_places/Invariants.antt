use Rattle.std.proofs.Common.{◌≡◌, ℕ, length, slice_index_or, None}
use Rattle.bound_certificate.proofs.walk.empty_places.Given as goal

abbrev pub invariant-loop : goal.invariant-loop
invariant-loop l = record {
  size : length l.places.items ≡ l.counter;
  empty : (k : ℕ) → slice_index_or l.places.items k None ≡ None;
}
