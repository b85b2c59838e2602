use Rattle.std.proofs.Common.{◌≡◌, ℕ, ◌<◌, slice_index}
use Rattle.exact_simplex.specs.Duals.{IsListed, num_at}
use Rattle.exact_simplex.proofs.multiples.listed.Given as goal

abbrev pub invariant-loop-i : goal.invariant-loop-i
invariant-loop-i l = record {
  listed : IsListed l.den l.tops.items l.i;
  nums : (i : ℕ) → i < l.i → num_at l.tops.items i ≡ slice_index l.nums i;
}
