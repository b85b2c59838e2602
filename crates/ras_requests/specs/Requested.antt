-- The requests of a file, and its first fault.
use Rattle.std.specs.Prelude.{ℕ, ◌≡◌, ◌+◌, ◌==◌, ◌||◌, not, nat_lt, Bool, List, [], ◌∷◌, ◌++◌, length, codes, Option, Some, None, option_and_then, option_map, Result, Ok, Err, if◌then◌else◌}
use Rattle.std.specs.List.{list_any}
use Rattle.std.specs.Str.{is_utf8, bytes_eq}
use Rattle.csv.specs.Reading.{strip_bom}
use Rattle.serde_json.specs.Data.{Data}
use Rattle.serde_json.specs.Read.{read}
use Rattle.serde_json.specs.Find.{get, as_array, as_object}
use Rattle.serde_json.specs.View.{view}
use Rattle.serde_json.specs.declared.value.Value.{Value as Json}
use Rattle.ras_table.specs.Names.{names_differ}
use Rattle.ras_requests.specs.Members.{items_list, is_object_of, needed_whole}
use Rattle.ras_requests.specs.RequestsRule.{moves_in_range, reservation_in_range, center_names}
use Rattle.ras_requests.specs.Shapes.{moves_of, reservation_of}
use Rattle.ras_requests.specs.declared.requests.Moves.{Moves}
use Rattle.ras_requests.specs.declared.requests.Reservation.{Reservation}
use Rattle.ras_requests.specs.declared.all.Requests.{Requests}
use Rattle.ras_requests.specs.declared.fault.RequestsWhy.{RequestsWhy}
use Rattle.ras_requests.specs.declared.fault.RequestsWhy.TheVariants as why
use Rattle.ras_requests.specs.declared.fault.RequestsFault.{RequestsFault}
use Rattle.ras_requests.specs.declared.fault.RequestsFault.TheVariants.{At, Memory}

-- the value that bytes are
abbrev pub json_of : List ℕ → Option Data
json_of bytes = if is_utf8 bytes then read bytes else None

-- the entries of the array of reservations
abbrev pub entries_in : Data → Option (List Data)
entries_in d = option_map items_list (option_and_then as_array (get (codes "reservations") d))

abbrev pub top_names : List (List ℕ)
top_names = codes "format" ∷ codes "moves" ∷ codes "reservations" ∷ []

-- the first rule of the whole that is broken, in this order: the format, the move costs, how many reservations there are
abbrev pub in_limits : ℕ → Moves → List Data → Result (ℕ × Moves × List Data) RequestsWhy
in_limits format moves entries =
    if not (format == 1 || format == 2) then Err why.Format
    else if not (moves_in_range moves) then Err why.Range
    else if nat_lt 64 (length entries) then Err why.Many
    else Ok (format, moves, entries)

abbrev pub top_in : Option ℕ → Option Moves → Option (List Data) → Result (ℕ × Moves × List Data) RequestsWhy
top_in (Some format) (Some moves) (Some entries) = in_limits format moves entries
top_in (Some format) (Some moves) None = Err why.Shape
top_in (Some format) None entries = Err why.Shape
top_in None moves entries = Err why.Shape

-- the format, the move costs and the entries of the whole, or its first fault
abbrev pub top_of : Data → Result (ℕ × Moves × List Data) RequestsWhy
top_of d = if is_object_of top_names (as_object d)
    then top_in (needed_whole (codes "format") d) (option_and_then moves_of (get (codes "moves") d)) (entries_in d)
    else Err why.Shape

-- more values or wishes than a reservation may have
abbrev pub is_too_long : Reservation → Bool
is_too_long r = nat_lt 1000 (length r.values) || nat_lt 16 (length r.near)

-- a reservation of this name stood before
abbrev pub stands_before : List Reservation → Reservation → Bool
stands_before before r = list_any (λ b. bytes_eq b.name r.name) before

-- the first limit that a reservation breaks, after the reservations before it
abbrev pub first_fault : List Reservation → Reservation → Option RequestsWhy
first_fault before r =
    if not (reservation_in_range r) then Some why.Range
    else if is_too_long r then Some why.Many
    else if stands_before before r || not (names_differ (center_names r.near)) then Some why.Twice
    else None

abbrev pub if_none : ℕ → Reservation → Option RequestsWhy → Result Reservation RequestsFault
if_none place r None = Ok r
if_none place r (Some w) = Err (At place w)

abbrev pub shaped : ℕ → List Reservation → Result Reservation RequestsWhy → Result Reservation RequestsFault
shaped place before (Err w) = Err (At place w)
shaped place before (Ok r) = if_none place r (first_fault before r)

-- the reservation of an entry at this place of a file of this format, or its first fault
abbrev pub reservation_at : ℕ → ℕ → List Reservation → Data → Result Reservation RequestsFault
reservation_at format place before d = shaped place before (reservation_of format d)

abbrev pub and_then : {A B : Type 0} → Result A RequestsFault → (A → Result B RequestsFault) → Result B RequestsFault
and_then (Ok x) f = f x
and_then (Err e) f = Err e

-- the reservations from this place on, or the first fault
abbrev pub reservations_from : ℕ → ℕ → List Reservation → List Data → Result (List Reservation) RequestsFault
reservations_from format place before [] = Ok before
reservations_from format place before (d ∷ ds) = and_then (reservation_at format place before d) (λ r. reservations_from format (place + 1) (before ++ r ∷ []) ds)

-- what is seen of requests
pub record Requested : Type 0 where
  pub moves : Moves
  pub list : List Reservation

abbrev pub seen : Requests → Requested
seen r = record { moves = r.moves; list = r.list }

abbrev pub listed : Result (ℕ × Moves × List Data) RequestsWhy → Result Requested RequestsFault
listed (Err w) = Err (At 0 w)
listed (Ok top) = and_then (reservations_from top.0 1 [] top.2) (λ list. Ok (record { moves = top.1; list = list }))

abbrev pub of_value : Option Data → Result Requested RequestsFault
of_value None = Err (At 0 why.NotJson)
of_value (Some d) = listed (top_of d)

-- the requests that the bytes of a file stand for, or their first fault
abbrev pub requests_of : List ℕ → Result Requested RequestsFault
requests_of bytes = of_value (json_of (strip_bom bytes))

-- the fault that is told, and none for want of memory
abbrev pub told : RequestsFault → Option RequestsFault
told (At place w) = Some (At place w)
told Memory = None

-- a value was read exactly where the bytes are one, unless memory ran out
abbrev pub ValueOf : Result Json RequestsFault → Option Data → Type 0
ValueOf (Ok value) found = found ≡ Some (view value)
ValueOf (Err Memory) found = Unit {0}
ValueOf (Err (At place w)) found = (found ≡ None) × (place ≡ 0) × (w ≡ why.NotJson)
