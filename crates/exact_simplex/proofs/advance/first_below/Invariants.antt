use Rattle.std.proofs.Common.{ℕ, ◌<◌, ◌≤◌}
use Rattle.exact_simplex.specs.Relaxing.{IsBelowNone}
use Rattle.exact_simplex.proofs.advance.first_below.Given as goal

abbrev pub invariant-loop-i : goal.invariant-loop-i
invariant-loop-i l = (i : ℕ) → 1 ≤ i → i < l.i → IsBelowNone l.cells i → ⊥
