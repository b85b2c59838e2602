use Rattle.std.proofs.Common.{◌≡◌, ℕ, ◌<◌, pos, length, get_or}
use Rattle.ip_model.specs.Limits.{cost_of}
use Rattle.exact_simplex.proofs.lows.cost_slopes.Given as goal

abbrev pub invariant-loop-column : goal.invariant-loop-column
invariant-loop-column l = record {
  size : length l.slopes.items ≡ l.column-index;
  at : (j : ℕ) → j < l.column-index → get_or l.slopes.items j (pos 0) ≡ pos (cost_of l.columns j);
}
