-- Which assignments the region phase allows.
use Rattle.std.specs.Prelude.{ℕ, Bool, true, not, ◌&&◌, ◌-◌, ◌==◌, nat_le, nat_lt, List, [], ◌∷◌, length, Option, Some, None, position, if◌then◌else◌}
use Rattle.std.specs.List.{list_all}
use Rattle.std.specs.Option.{option_map_or}
use Rattle.plan_model.specs.declared.cases.Place.{Place}
use Rattle.plan_model.specs.declared.cases.Case.{Case}
use Rattle.plan_model.specs.declared.cases.Assignment.{Assignment}
use Rattle.plan_model.specs.declared.losses.Lost.{Lost}
use Rattle.plan_model.specs.Units.{all_reservations, value_for, want_of, servers_with_places, units, units_where}
use Rattle.plan_model.specs.Losses.{is_lost, losses}

-- one place for each server, and each reservation that is named is there
abbrev pub fits : Case → Assignment → Bool
fits case a = length a.of == length case.places && list_all (λ to. option_map_or (λ r. nat_lt r (length case.wants)) to true) a.of

-- a server serves where it gets none, or where it is up and its reservation has a value above 0 for its type
abbrev pub serves : Case → Place × Option ℕ → Bool
serves case s = option_map_or (λ r. s.0.up && nat_lt 0 (value_for case r s.0.kind)) s.1 true

-- what r needs is there after the loss
abbrev pub survives : Case → Assignment → ℕ → Lost → Bool
survives case a r lost = nat_le (want_of case r).need (units case a r - units_where (is_lost lost) case a r)

-- what r needs is there, and is there after each loss that its protection names
abbrev pub keeps_need : Case → Assignment → ℕ → Bool
keeps_need case a r = list_all (survives case a r) (losses case r)

-- every server serves, and every reservation keeps its need
abbrev pub region_allowed : Case → Assignment → Bool
region_allowed case a =
    fits case a && list_all (serves case) (servers_with_places case a) && list_all (keeps_need case a) (all_reservations case)

-- the first server that does not serve
abbrev pub first_not_served : Case → Assignment → Option ℕ
first_not_served case a = position (λ s. not (serves case s)) (servers_with_places case a)

-- the first of these that it does not survive
abbrev pub first_lost : Case → Assignment → ℕ → List Lost → Option Lost
first_lost case a r [] = None
first_lost case a r (lost ∷ rest) = if survives case a r lost then first_lost case a r rest else Some lost

-- the first loss after which r does not have what it needs; none where it keeps its need
abbrev pub first_loss : Case → Assignment → ℕ → Option Lost
first_loss case a r = first_lost case a r (losses case r)
