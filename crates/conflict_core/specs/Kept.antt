-- Requests from which only some reservations are kept.
use Rattle.std.specs.Prelude.{ℕ, ◌≡◌, ◌<◌, Bool, true, ◌&&◌, nat_lt, List, [], ◌∷◌, length, map, slice_index_or, All}
use Rattle.std.specs.List.{list_all, range_with_len}
use Rattle.ras_requests.specs.declared.requests.Protection.TheVariants.{Total}
use Rattle.ras_requests.specs.declared.requests.Reservation.{Reservation}
use Rattle.ras_requests.specs.declared.all.Requests.{Requests}

-- each number is below those after it
abbrev pub rises : List ℕ → Bool
rises [] = true
rises (r ∷ rs) = list_all (nat_lt r) rs && rises rs

-- a set of reservations: their numbers, which rise, of so many
pub record AreMembers (count : ℕ) (members : List ℕ) : Type 0 where
  pub rising : rises members ≡ true
  pub there : All (λ r. r < count) members

-- all reservations
abbrev pub all_members : Requests → List ℕ
all_members requests = range_with_len 0 (length requests.list)

-- a reservation that is not there
abbrev pub no_reservation : Reservation
no_reservation = record {
  name = [];
  need = 0;
  values = [];
  buffer_weight = 0;
  spread_limit = 0;
  spread_weight = 0;
  rack_limit = 0;
  rack_weight = 0;
  near = [];
  protection = Total;
}

-- the reservation of that number
abbrev pub reservation_of : List Reservation → ℕ → Reservation
reservation_of list r = slice_index_or list r no_reservation

-- the members, in the order of their numbers
abbrev pub kept_list : List Reservation → List ℕ → List Reservation
kept_list list members = map (reservation_of list) members

-- the same move costs, and the members alone
pub record IsKeptTo (requests : Requests) (members : List ℕ) (kept : Requests) : Type 0 where
  pub moves : kept.moves ≡ requests.moves
  pub list : kept.list ≡ kept_list requests.list members
