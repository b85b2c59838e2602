-- Small regions, on which the rules of a plan are worked out.
use Rattle.std.specs.Prelude.{ℕ, true, false, [], ◌∷◌, refl, Some, None, replicate}
use Rattle.plan_model.specs.declared.cases.Holder.{Holder}
use Rattle.plan_model.specs.declared.cases.Holder.TheVariants.{Free, Held}
use Rattle.plan_model.specs.declared.cases.Place.{Place}
use Rattle.plan_model.specs.declared.cases.Want.{Want}
use Rattle.ras_requests.specs.declared.requests.Moves.{Moves}
use Rattle.ras_requests.specs.declared.requests.Protection.TheVariants.{Board}
use Rattle.plan_model.specs.declared.cases.Case.{Case}
use Rattle.plan_model.specs.declared.cases.Assignment.{Assignment}

-- an up and idle server of type 0 in datacenter 0
abbrev pub server : ℕ → ℕ → Holder → Place
server rack board holder = record { kind = 0; rack = rack; board = board; center = 0; holder = holder; busy = false; up = true }

abbrev pub plain_moves : Moves
plain_moves = record { take = 1; idle = 5; busy = 50 }

-- a reservation with a need and a value for type 0
abbrev pub plain_want : ℕ → ℕ → Want
plain_want need value = record {
  need = need;
  values = value ∷ [];
  buffer_weight = 0;
  spread_limit = 0;
  spread_weight = 0;
  rack_limit = 0;
  rack_weight = 0;
  near = [];
  protection = Board;
}

-- six free servers, two on each of three switchboards, and one reservation of need 40 and value 10
abbrev pub six : Case
six = record {
  places = server 0 0 Free ∷ server 0 0 Free ∷ server 1 1 Free ∷ server 1 1 Free ∷ server 2 2 Free ∷ server 2 2 Free ∷ [];
  kinds = 1;
  racks = 3;
  boards = 3;
  centers = 1;
  moves = plain_moves;
  wants = plain_want 40 10 ∷ [];
  kept = refl;
}

abbrev pub all_six : Assignment
all_six = record { of = replicate 6 (Some 0) }

-- all but the first
abbrev pub five_of_six : Assignment
five_of_six = record { of = None ∷ replicate 5 (Some 0) }

-- a busy server held by the first, two idle ones held by it and one by the second
abbrev pub four : Case
four = record {
  places = record { kind = 0; rack = 0; board = 0; center = 0; holder = Held 0; busy = true; up = true } ∷ server 0 0 (Held 0) ∷ server 1 1 (Held 0) ∷ server 1 1 (Held 1) ∷ [];
  kinds = 1;
  racks = 2;
  boards = 2;
  centers = 1;
  moves = plain_moves;
  wants = plain_want 1 1 ∷ plain_want 1 1 ∷ [];
  kept = refl;
}

abbrev pub four_plan : Assignment
four_plan = record { of = Some 0 ∷ Some 1 ∷ Some 0 ∷ Some 1 ∷ [] }

-- eight free servers, two on each of four racks, and two racks on each of two switchboards; a reservation that wants one
-- unit on a rack at most
abbrev pub eight : Case
eight = record {
  places = server 0 0 Free ∷ server 0 0 Free ∷ server 1 0 Free ∷ server 1 0 Free ∷ server 2 1 Free ∷ server 2 1 Free ∷ server 3 1 Free ∷ server 3 1 Free ∷ [];
  kinds = 1;
  racks = 4;
  boards = 2;
  centers = 1;
  moves = plain_moves;
  wants = record (plain_want 2 1) { rack_limit = 1; rack_weight = 3 } ∷ [];
  kept = refl;
}

-- two servers on one rack of each switchboard
abbrev pub two_racks : Assignment
two_racks = record { of = Some 0 ∷ Some 0 ∷ None ∷ None ∷ Some 0 ∷ Some 0 ∷ None ∷ None ∷ [] }

-- one server on each rack
abbrev pub four_racks : Assignment
four_racks = record { of = Some 0 ∷ None ∷ Some 0 ∷ None ∷ Some 0 ∷ None ∷ Some 0 ∷ None ∷ [] }
