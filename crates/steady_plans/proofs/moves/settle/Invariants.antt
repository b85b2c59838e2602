use Rattle.std.proofs.Common.{◌≡◌, ◌≤◌, true}
use Rattle.program_rows.specs.Settings.{setting_of}
use Rattle.program_rows.specs.Phases.{phase_allowed, phase_cost}
use Rattle.steady_plans.specs.Tables.{AreSumsOf}
use Rattle.steady_plans.specs.Tried.{HasRoom}
use Rattle.steady_plans.proofs.moves.settle.Given as goal

abbrev pub invariant-settling : goal.invariant-settling
invariant-settling l =
    AreSumsOf l.case l.a l.sums
    × (phase_allowed l.case (setting_of l.case l.phase) l.a ≡ true)
    × (phase_cost l.case (setting_of l.case l.phase) l.a ≤ phase_cost l.case (setting_of l.case l.phase) l.initial.a)
    × HasRoom l.case l.tried

abbrev pub decreases-settling : goal.decreases-settling
decreases-settling l = phase_cost l.case (setting_of l.case l.phase) l.a
