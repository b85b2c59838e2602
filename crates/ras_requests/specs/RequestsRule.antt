-- What all requests keep: the limits of their numbers and lengths, and that names differ.
use Rattle.std.specs.Prelude.{ℕ, Bool, ◌&&◌, nat_le, List, length, map}
use Rattle.std.specs.List.{list_all}
use Rattle.ras_table.specs.Names.{names_differ}
use Rattle.ras_requests.specs.declared.requests.Moves.{Moves}
use Rattle.ras_requests.specs.declared.requests.Value.{Value}
use Rattle.ras_requests.specs.declared.requests.Near.{Near}
use Rattle.ras_requests.specs.declared.requests.Reservation.{Reservation}

-- weights and move costs
abbrev pub is_weight : ℕ → Bool
is_weight n = nat_le n 10000

-- needs and limits
abbrev pub is_amount : ℕ → Bool
is_amount n = nat_le n 10000000

abbrev pub moves_in_range : Moves → Bool
moves_in_range moves = is_weight moves.take && is_weight moves.idle && is_weight moves.busy

abbrev pub value_in_range : Value → Bool
value_in_range value = nat_le value.units 1000

abbrev pub near_in_range : Near → Bool
near_in_range near = is_amount near.least && is_weight near.weight

-- the numbers of a reservation are within their limits
abbrev pub numbers_in_range : Reservation → Bool
numbers_in_range r =
    is_amount r.need && is_amount r.spread_limit && is_amount r.rack_limit
    && is_weight r.buffer_weight && is_weight r.spread_weight && is_weight r.rack_weight

abbrev pub reservation_in_range : Reservation → Bool
reservation_in_range r = numbers_in_range r && list_all value_in_range r.values && list_all near_in_range r.near

abbrev pub reservation_names : List Reservation → List (List ℕ)
reservation_names list = map (λ r. r.name) list

-- the types that a reservation values, and the datacenters that it wants to be near
abbrev pub kind_names : List Value → List (List ℕ)
kind_names values = map (λ v. v.kind) values

abbrev pub center_names : List Near → List (List ℕ)
center_names near = map (λ n. n.center) near

-- a reservation's numbers and lengths are within their limits, and no type or datacenter stands twice in it
abbrev pub reservation_rule : Reservation → Bool
reservation_rule r =
    reservation_in_range r
    && nat_le (length r.values) 1000 && nat_le (length r.near) 16
    && names_differ (kind_names r.values) && names_differ (center_names r.near)

-- the rule of requests
abbrev pub requests_rule : Moves → List Reservation → Bool
requests_rule moves list =
    moves_in_range moves && nat_le (length list) 64 && list_all reservation_rule list && names_differ (reservation_names list)
