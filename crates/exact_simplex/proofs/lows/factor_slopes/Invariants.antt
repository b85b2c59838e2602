use Rattle.std.proofs.Common.{◌≡◌, ℕ, ◌*◌, ◌≤◌, pos, ◌+ℤ◌, unsigned_abs, length, get_or, drop}
use Rattle.ip_model.specs.Sums.{factor_of}
use Rattle.exact_simplex.proofs.lows.factor_slopes.Given as goal

abbrev pub invariant-loop-term : goal.invariant-loop-term
invariant-loop-term l = record {
  size : length l.slopes.items ≡ l.size;
  so_far : (j : ℕ) → get_or l.slopes.items j (pos 0) +ℤ factor_of (drop l.term-index l.terms) j ≡ factor_of l.terms j;
  small : (j : ℕ) → unsigned_abs (get_or l.slopes.items j (pos 0)) ≤ l.term-index * 1000;
}
