-- The cost of a phase after one change.
use Rattle.std.specs.Prelude.{◌≡◌, ◌+◌, ◌<◌, ℕ, length, Some, None, slice_index_or}
use Rattle.plan_model.specs.declared.cases.Case.{Case}
use Rattle.plan_model.specs.declared.cases.Assignment.{Assignment}
use Rattle.plan_model.specs.Units.{place_of}
use Rattle.plan_model.specs.Costs.{move_cost}
use Rattle.program_rows.specs.Settings.{Setting}
use Rattle.program_rows.specs.Phases.{IsStart, phase_cost}
use Rattle.steady_plans.specs.Steady.{replaced}
use Rattle.steady_plans.specs.Local.{local_cost}

-- where a server gets a reservation in place of none, the cost changes by its move and by the local cost of the reservation
abbrev pub CostChangesLocally : Type 0
CostChangesLocally =
    (case : Case) (setting : Setting) (a : Assignment) (s r : ℕ) → IsStart case setting → length a.of ≡ length case.places → s < length case.places → r < length case.wants
    → slice_index_or a.of s None ≡ None
    → phase_cost case setting (replaced a s (Some r)) + (move_cost case.moves (place_of case s, None) + local_cost case setting a r (place_of case s).rack)
    ≡ phase_cost case setting a + (move_cost case.moves (place_of case s, Some r) + local_cost case setting (replaced a s (Some r)) r (place_of case s).rack)
