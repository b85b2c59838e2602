-- The parts of a program's base.
use Rattle.std.specs.Prelude.{ℕ, ◌==◌, not, sum_by, filter, if◌then◌else◌, Option}
use Rattle.std.specs.List.{list_any}
use Rattle.plan_model.specs.declared.cases.Place.{Place}
use Rattle.plan_model.specs.declared.cases.Case.{Case}
use Rattle.plan_model.specs.Units.{servers_with_places, all_reservations}
use Rattle.plan_model.specs.Costs.{move_cost, terms_cost}
use Rattle.plan_model.specs.Rack.{is_movable}
use Rattle.program_rows.specs.Settings.{Setting}

-- what a server costs that the phase may not move
abbrev pub fixed_cost : Case → Setting → Place × Option ℕ → ℕ
fixed_cost case setting s = if not (is_movable case setting.active s) then move_cost case.moves s else 0

abbrev pub fixed_moves : Case → Setting → ℕ
fixed_moves case setting = sum_by (move_cost case.moves) (filter (λ s. not (is_movable case setting.active s)) (servers_with_places case setting.start))

abbrev pub idle_terms : Case → Setting → ℕ
idle_terms case setting = sum_by (terms_cost case setting.start) (filter (λ r. not (list_any (λ q. q == r) setting.active)) (all_reservations case))
