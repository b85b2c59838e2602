use Rattle.std.proofs.Common.{◌≡◌, take}
use Rattle.exact_simplex.proofs.row_weights.cells_of.Given as goal

abbrev pub invariant-loop-c : goal.invariant-loop-c
invariant-loop-c l = record { so_far : l.cells.items ≡ take l.c l.row }
