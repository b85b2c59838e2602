use Rattle.std.proofs.Common.{◌≡◌, ℕ, ◌<◌, ◌≤◌, true, false}
use Rattle.program_rows.specs.Settings.{setting_of}
use Rattle.program_rows.specs.Phases.{phase_allowed, phase_cost}
use Rattle.steady_plans.specs.Steady.{IsSettledAt}
use Rattle.steady_plans.specs.Tables.{AreSumsOf}
use Rattle.steady_plans.specs.Tried.{HasRoom}
use Rattle.steady_plans.proofs.moves.settle_each.Given as goal

abbrev pub invariant-loop-server : goal.invariant-loop-server
invariant-loop-server l =
    let setting = setting_of l.case l.phase in
    AreSumsOf l.case l.a l.sums
    × (phase_allowed l.case setting l.a ≡ true)
    × (l.changed ≡ true → phase_cost l.case setting l.a < phase_cost l.case setting l.initial.a)
    × (l.changed ≡ false → (l.a ≡ l.initial.a) × ((s : ℕ) → s < l.server → IsSettledAt l.case setting l.initial.a s))
    × HasRoom l.case l.tried
    × ((t : ℕ) → l.first ≤ t → t < l.server → IsSettledAt l.case setting l.a t)
