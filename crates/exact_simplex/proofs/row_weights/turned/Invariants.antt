use Rattle.std.proofs.Common.{◌≡◌, ℕ, ◌<◌, length, neg_ℤ}
use Rattle.exact_simplex.specs.Cells.{cell_of}
use Rattle.exact_simplex.proofs.row_weights.turned.Given as goal

abbrev pub invariant-loop-c : goal.invariant-loop-c
invariant-loop-c l = record {
  size : length l.turned.items ≡ l.c;
  nums : (c : ℕ) → c < l.c → (cell_of l.turned.items c).num ≡ neg_ℤ (cell_of l.row c).num;
  dens : (c : ℕ) → c < l.c → (cell_of l.turned.items c).den ≡ (cell_of l.row c).den;
}
