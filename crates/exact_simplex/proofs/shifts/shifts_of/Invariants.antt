use Rattle.std.proofs.Common.{◌≡◌}
use Rattle.exact_simplex.specs.Rebounds.{shifts_below}
use Rattle.exact_simplex.proofs.shifts.shifts_of.Given as goal

abbrev pub invariant-loop-j : goal.invariant-loop-j
invariant-loop-j l = record { so_far : l.shifts.items ≡ shifts_below l.units l.rows l.old l.new l.j }
