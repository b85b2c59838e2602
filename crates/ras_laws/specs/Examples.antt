-- Small cases on which definitions are computed.
use Rattle.std.specs.Prelude.{ℕ, ◌≡◌, Bool, true, false, List, [], ◌∷◌}
use Rattle.ras_requests.specs.declared.requests.Moves.{Moves}
use Rattle.plan_model.specs.declared.cases.Holder.TheVariants.{Free}
use Rattle.plan_model.specs.declared.cases.Place.{Place}
use Rattle.plan_model.specs.declared.cases.Want.{Want}
use Rattle.ras_requests.specs.declared.requests.Protection.TheVariants.{Board}
use Rattle.plan_model.specs.declared.cases.Case.{Case}
use Rattle.plan_model.specs.CaseRule.{case_rule}

-- a free server of type 0 that is up, on this switchboard and on the rack of the same number
abbrev pub free_server : ℕ → Place
free_server board = record { kind = 0; rack = board; board = board; center = 0; holder = Free; busy = false; up = true }

-- what a server costs that is taken; the other moves don't come in these cases
abbrev pub taking_at : ℕ → Moves
taking_at take = record { take = take; idle = 5; busy = 50 }

-- a reservation with a need, and a value for type 0
abbrev pub needing : ℕ → ℕ → Want
needing need value = record {
  need = need;
  values = value ∷ [];
  buffer_weight = 0;
  spread_limit = 0;
  spread_weight = 0;
  rack_limit = 0;
  rack_weight = 0;
  near = [];
  protection = Board;
}

-- six servers, two on each of three switchboards
abbrev pub six_places : List Place
six_places = free_server 0 ∷ free_server 0 ∷ free_server 1 ∷ free_server 1 ∷ free_server 2 ∷ free_server 2 ∷ []

-- the six servers and a reservation that values each at 10 units
abbrev pub six_servers : (need : ℕ) → case_rule six_places 1 3 3 1 (taking_at 1) (needing need 10 ∷ []) ≡ true → Case
six_servers need kept = record {
  places = six_places;
  kinds = 1;
  racks = 3;
  boards = 3;
  centers = 1;
  moves = taking_at 1;
  wants = needing need 10 ∷ [];
  kept = kept;
}

-- three servers, each on a switchboard of its own, and a reservation that needs one unit of the three
abbrev pub three_servers : (kept : case_rule (free_server 0 ∷ free_server 1 ∷ free_server 2 ∷ []) 1 3 3 1 (taking_at 2) (needing 1 1 ∷ []) ≡ true) → Case
three_servers kept = record {
  places = free_server 0 ∷ free_server 1 ∷ free_server 2 ∷ [];
  kinds = 1;
  racks = 3;
  boards = 3;
  centers = 1;
  moves = taking_at 2;
  wants = needing 1 1 ∷ [];
  kept = kept;
}
