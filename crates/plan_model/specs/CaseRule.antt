-- What every case keeps: the limits, and that each number names something that is there.
use Rattle.std.specs.Prelude.{ℕ, Bool, true, not, ◌&&◌, ◌||◌, ◌==◌, nat_le, nat_lt, List, length}
use Rattle.std.specs.List.{list_all}
use Rattle.std.specs.Option.{option_map_or}
use Rattle.plan_model.specs.declared.cases.Holder.{Holder}
use Rattle.plan_model.specs.declared.cases.Holder.TheVariants.{Free, Held, Gone}
use Rattle.plan_model.specs.declared.cases.Place.{Place}
use Rattle.plan_model.specs.declared.cases.Goal.{Goal}
use Rattle.plan_model.specs.declared.cases.Want.{Want}
use Rattle.ras_requests.specs.declared.requests.Moves.{Moves}

-- a held server is held by a reservation that is there
abbrev pub holder_in_range : ℕ → Holder → Bool
holder_in_range reservations Free = true
holder_in_range reservations (Held r) = nat_lt r reservations
holder_in_range reservations Gone = true

-- a server's numbers name what is there
abbrev pub place_in_range : ℕ → ℕ → ℕ → ℕ → ℕ → Place → Bool
place_in_range kinds racks boards centers reservations s =
    nat_lt s.kind kinds && nat_lt s.rack racks && nat_lt s.board boards && nat_lt s.center centers && holder_in_range reservations s.holder

-- servers of one rack are on one switchboard, and servers of one switchboard in one datacenter
abbrev pub stand_together : Place → Place → Bool
stand_together s t = (not (s.rack == t.rack) || s.board == t.board) && (not (s.board == t.board) || s.center == t.center)

abbrev pub is_weight : ℕ → Bool
is_weight n = nat_le n 10000

abbrev pub is_amount : ℕ → Bool
is_amount n = nat_le n 10000000

abbrev pub goal_in_range : ℕ → Goal → Bool
goal_in_range centers goal = is_amount goal.least && is_weight goal.weight && option_map_or (λ d. nat_lt d centers) goal.center true

-- one value for each type, and each number within its limit
abbrev pub want_in_range : ℕ → ℕ → Want → Bool
want_in_range kinds centers want =
    is_amount want.need && is_amount want.spread_limit && is_amount want.rack_limit
    && is_weight want.buffer_weight && is_weight want.spread_weight && is_weight want.rack_weight
    && length want.values == kinds && list_all (λ v. nat_le v 1000) want.values
    && nat_le (length want.near) 16 && list_all (goal_in_range centers) want.near

-- the rule of a case
abbrev pub case_rule : List Place → ℕ → ℕ → ℕ → ℕ → Moves → List Want → Bool
case_rule places kinds racks boards centers moves wants =
    nat_le (length places) 20000 && nat_le (length wants) 64
    && nat_le boards 64 && nat_le centers 64
    && is_weight moves.take && is_weight moves.idle && is_weight moves.busy
    && list_all (place_in_range kinds racks boards centers (length wants)) places
    && list_all (λ s. list_all (stand_together s) places) places
    && list_all (want_in_range kinds centers) wants
