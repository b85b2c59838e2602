use Rattle.std.proofs.Common.{ℕ, None}
use Rattle.program_rows.specs.Settings.{setting_of}
use Rattle.steady_plans.specs.Steady.{replaced}
use Rattle.steady_plans.specs.Tables.{AreSumsOf}
use Rattle.steady_plans.proofs.Prices.{IsBest}
use Rattle.steady_plans.proofs.moves.best_place.Given as goal

abbrev pub invariant-loop-r : goal.invariant-loop-r
invariant-loop-r l =
    AreSumsOf l.case (replaced l.a l.server None) l.sums
    × ((most : ℕ) × IsBest l.case (setting_of l.case l.phase) l.a l.server l.fn.from most l.r l.best)
