use Rattle.std.proofs.Common.{◌≡◌, drop}
use Rattle.exact_simplex.specs.Rebounds.{unit_from}
use Rattle.exact_simplex.proofs.shifts.unit_of.Given as goal

abbrev pub invariant-loop-k : goal.invariant-loop-k
invariant-loop-k l = record { so_far : unit_from 0 l.units l.row ≡ unit_from l.k (drop l.k l.units) l.row }
