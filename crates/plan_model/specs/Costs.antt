-- What an assignment costs. The difference of two numbers is 0 where the second is the larger.
use Rattle.std.specs.Prelude.{ℕ, Bool, ◌+◌, ◌-◌, ◌*◌, max, if◌then◌else◌, List, [], ◌∷◌, map, sum_by, Option}
use Rattle.std.specs.List.{range_with_len}
use Rattle.std.specs.Option.{option_map_or}
use Rattle.plan_model.specs.declared.cases.Holder.{Holder}
use Rattle.plan_model.specs.declared.cases.Holder.TheVariants.{Free, Held, Gone}
use Rattle.plan_model.specs.declared.cases.Place.{Place}
use Rattle.ras_requests.specs.declared.requests.Moves.{Moves}
use Rattle.plan_model.specs.declared.cases.Goal.{Goal}
use Rattle.plan_model.specs.declared.cases.Case.{Case}
use Rattle.plan_model.specs.declared.cases.Assignment.{Assignment}
use Rattle.plan_model.specs.Units.{all_reservations, want_of, is_for, servers_with_places, units_on_board, units_on_rack, units_in_center}

-- the cost at an up server: a server that nobody of the requests holds costs `take` where it gets a reservation,
-- and a held one costs `busy` or `idle` where it does not get the reservation that holds it
abbrev pub up_move_cost : Moves → Holder → Bool → Option ℕ → ℕ
up_move_cost moves Free busy to = option_map_or (λ _. moves.take) to 0
up_move_cost moves (Held q) busy to = if is_for q to then 0 else (if busy then moves.busy else moves.idle)
up_move_cost moves Gone busy to = option_map_or (λ _. moves.take) to 0

-- a down server costs 0
abbrev pub move_cost : Moves → Place × Option ℕ → ℕ
move_cost moves s = if s.0.up then up_move_cost moves s.0.holder s.0.busy s.1 else 0

abbrev pub greatest : List ℕ → ℕ
greatest [] = 0
greatest (x ∷ xs) = max x (greatest xs)

-- the units of r on each switchboard and on each rack
abbrev pub board_units : Case → Assignment → ℕ → List ℕ
board_units case a r = map (units_on_board case a r) (range_with_len 0 case.boards)

abbrev pub rack_units : Case → Assignment → ℕ → List ℕ
rack_units case a r = map (units_on_rack case a r) (range_with_len 0 case.racks)

-- the sum of what is above a limit
abbrev pub excess : ℕ → List ℕ → ℕ
excess limit amounts = sum_by (λ n. n - limit) amounts

-- a near entry's weight times what its datacenter lacks; a datacenter that is not there has no units
abbrev pub shortage_cost : Case → Assignment → ℕ → Goal → ℕ
shortage_cost case a r goal = goal.weight * (goal.least - option_map_or (units_in_center case a r) goal.center 0)

-- the terms of one reservation: its largest switchboard, its spread, and its near entries
abbrev pub terms_cost : Case → Assignment → ℕ → ℕ
terms_cost case a r =
    let want = want_of case r in
    want.buffer_weight * greatest (board_units case a r)
    + want.spread_weight * excess want.spread_limit (board_units case a r)
    + sum_by (shortage_cost case a r) want.near

-- the moves, and each reservation's terms
abbrev pub region_cost : Case → Assignment → ℕ
region_cost case a =
    sum_by (move_cost case.moves) (servers_with_places case a) + sum_by (terms_cost case a) (all_reservations case)

abbrev pub rack_excess : Case → Assignment → ℕ → ℕ
rack_excess case a r = (want_of case r).rack_weight * excess (want_of case r).rack_limit (rack_units case a r)

-- the region cost, and the rack excess of each chosen reservation
abbrev pub rack_cost : Case → Assignment → List ℕ → ℕ
rack_cost case a chosen = region_cost case a + sum_by (rack_excess case a) chosen
