-- What a change of one server touches of a phase's cost.
use Rattle.std.specs.Prelude.{◌≡◌, ◌+◌, ◌*◌, ◌-◌, ◌&&◌, ℕ, Bool, true, nat_lt, if◌then◌else◌, Option, None}
use Rattle.std.specs.Option.{option_map_or}
use Rattle.plan_model.specs.declared.cases.Case.{Case}
use Rattle.plan_model.specs.declared.cases.Assignment.{Assignment}
use Rattle.plan_model.specs.Units.{want_of, place_of, value_for, units_on_rack}
use Rattle.plan_model.specs.Costs.{move_cost, terms_cost}
use Rattle.plan_model.specs.Rack.{none_or_in}
use Rattle.program_rows.specs.Settings.{Setting}
use Rattle.program_rows.specs.Phases.{is_active, phase_cost}
use Rattle.steady_plans.specs.Steady.{replaced}

-- the terms of one reservation, and where racks count its excess on one rack
abbrev pub local_cost : Case → Setting → Assignment → ℕ → ℕ → ℕ
local_cost case setting a r rack =
    terms_cost case a r
    + (if setting.racks && is_active setting r then (want_of case r).rack_weight * (units_on_rack case a r rack - (want_of case r).rack_limit) else 0)

-- More than any local cost. A price is what a place costs beyond the assignment without the server, and this number more,
-- so that no price lies below 0.
abbrev pub offset : ℕ
offset = 1125899906842624

-- the price of a place for a server, from the assignment in which that server has none
abbrev pub IsPrice : Case → Setting → Assignment → ℕ → Option ℕ → ℕ → Type 0
IsPrice case setting a s to price =
    phase_cost case setting (replaced a s to) + (move_cost case.moves (place_of case s, None) + offset) ≡ phase_cost case setting (replaced a s None) + price

-- whether a server may take a place: none, or an active reservation with a value above 0 for its type
abbrev pub may_take : Case → Setting → ℕ → Option ℕ → Bool
may_take case setting s to = none_or_in setting.active to && option_map_or (λ r. nat_lt 0 (value_for case r (place_of case s).kind)) to true
