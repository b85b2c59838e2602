-- A pool of servers: which reservation each of them serves, and which are up.
use Rattle.std.specs.Prelude.{ℕ, Bool, true, false, not, ◌&&◌, ◌==◌, if◌then◌else◌, List, length, map, nat_lt, slice_index_or, slice_set, zip, Option, Some, None, is_some}
use Rattle.std.specs.List.{list_all}
use Rattle.std.specs.Option.{option_map_or}
use Rattle.plan_model.specs.declared.cases.Place.{Place}
use Rattle.plan_model.specs.declared.cases.Case.{Case}
use Rattle.plan_model.specs.declared.cases.Assignment.{Assignment}
use Rattle.plan_model.specs.Units.{units, value_for, place_of}
use Rattle.spare_pool.specs.declared.standings.Standing.{Standing}

-- the case that the pool was started for, and each server
pub record State : Type 0 where
  pub case : Case
  pub servers : List Standing

-- a server that is not there
abbrev pub no_standing : Standing
no_standing = record { serves = None; up = false }

abbrev pub standing_of : State → ℕ → Standing
standing_of state s = slice_index_or state.servers s no_standing

abbrev pub with_standing : State → ℕ → Standing → State
with_standing state s standing = record { case = state.case; servers = slice_set state.servers s standing }

-- a server that is down, one that is up and serves none, and one that serves a reservation
abbrev pub down : Standing
down = record { serves = None; up = false }

abbrev pub free : Standing
free = record { serves = None; up = true }

abbrev pub serving : ℕ → Standing
serving r = record { serves = Some r; up = true }

-- a spare is up and serves none
abbrev pub is_spare : Standing → Bool
is_spare standing = standing.up && not (is_some standing.serves)

-- the value that a reservation has for a server's type
abbrev pub value_of : State → ℕ → ℕ → ℕ
value_of state r s = value_for state.case r (place_of state.case s).kind

-- the reservation that a server counts for: it is up, and serves it
abbrev pub counts_for : Standing → Option ℕ
counts_for standing = if standing.up then standing.serves else None

-- the up servers beside what they serve, as an assignment
abbrev pub counting : State → Assignment
counting state = record { of = map counts_for state.servers }

-- the units of a reservation: its values for the types of the up servers that serve it, added up
abbrev pub units_of : State → ℕ → ℕ
units_of state r = units state.case (counting state) r

-- a server may stand so where it serves none, or where it is up and the reservation that it serves has a value above 0 for its type
abbrev pub may_stand : Case → Place × Standing → Bool
may_stand case s = option_map_or (λ r. s.1.up && nat_lt r (length case.wants) && nat_lt 0 (value_for case r s.0.kind)) s.1.serves true

-- what every state of a pool keeps
abbrev pub state_rule : State → Bool
state_rule state = length state.servers == length state.case.places && list_all (may_stand state.case) (zip state.case.places state.servers)

-- at the start each server serves what an assignment says
abbrev pub standing_at_start : Place × Option ℕ → Standing
standing_at_start s = record { serves = s.1; up = s.0.up }

abbrev pub state_at_start : Case → Assignment → State
state_at_start case a = record { case = case; servers = map standing_at_start (zip case.places a.of) }
