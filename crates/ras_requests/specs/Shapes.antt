-- The shapes of the parts of a file of requests.
use Rattle.std.specs.Prelude.{ℕ, ◌==◌, List, [], ◌∷◌, codes, Option, Some, None, option_and_then, Result, Ok, Err, if◌then◌else◌}
use Rattle.serde_json.specs.Data.{Data, Members, no_members, member}
use Rattle.serde_json.specs.Find.{get, as_object, as_array, as_str}
use Rattle.ras_table.specs.Names.{is_name}
use Rattle.ras_requests.specs.Members.{items_list, whole, needed_whole, optional_whole, is_object_of, name_in}
use Rattle.ras_requests.specs.Protections.{protection_of_text}
use Rattle.ras_requests.specs.declared.requests.Moves.{Moves}
use Rattle.ras_requests.specs.declared.requests.Value.{Value}
use Rattle.ras_requests.specs.declared.requests.Near.{Near}
use Rattle.ras_requests.specs.declared.requests.Protection.{Protection}
use Rattle.ras_requests.specs.declared.requests.Protection.TheVariants.{Board}
use Rattle.ras_requests.specs.declared.requests.Reservation.{Reservation}
use Rattle.ras_requests.specs.declared.draft.Penalties.{Penalties}
use Rattle.ras_requests.specs.declared.fault.RequestsWhy.{RequestsWhy}
use Rattle.ras_requests.specs.declared.fault.RequestsWhy.TheVariants as why

-- the move costs: an object with exactly these members
abbrev pub moves_members : List (List ℕ)
moves_members = codes "take" ∷ codes "idle" ∷ codes "busy" ∷ []

abbrev pub moves_of : Data → Option Moves
moves_of d = if is_object_of moves_members (as_object d)
    then option_and_then (λ take. option_and_then (λ idle. option_and_then (λ busy. Some (record { take = take; idle = idle; busy = busy }))
    (needed_whole (codes "busy") d)) (needed_whole (codes "idle") d)) (needed_whole (codes "take") d)
    else None

-- the values of a reservation: an object from names to whole numbers
abbrev pub with_value : Option (List ℕ) → Option ℕ → Option (List Value) → Option (List Value)
with_value (Some kind) (Some units) (Some rest) = Some (record { kind = kind; units = units } ∷ rest)
with_value (Some kind) (Some units) None = None
with_value (Some kind) None rest = None
with_value None units rest = None

abbrev pub values_in : Members → Option (List Value)
values_in no_members = Some []
values_in (member k d ms) = with_value (if is_name k then Some k else None) (whole d) (values_in ms)

abbrev pub values_of : Data → Option (List Value)
values_of d = option_and_then values_in (as_object d)

-- a wish for units in one datacenter: an object with exactly these members
abbrev pub near_members : List (List ℕ)
near_members = codes "datacenter" ∷ codes "least" ∷ codes "weight" ∷ []

abbrev pub near_in : Option (List ℕ) → Option ℕ → Option ℕ → Option Near
near_in (Some center) (Some least) (Some weight) = Some (record { center = center; least = least; weight = weight })
near_in (Some center) (Some least) None = None
near_in (Some center) None weight = None
near_in None least weight = None

abbrev pub near_at : Data → Option Near
near_at d = if is_object_of near_members (as_object d)
    then near_in (option_and_then name_in (get (codes "datacenter") d)) (needed_whole (codes "least") d) (needed_whole (codes "weight") d)
    else None

-- the wishes: an array of such objects, and none where it is left out
abbrev pub with_near : Option Near → Option (List Near) → Option (List Near)
with_near (Some n) (Some rest) = Some (n ∷ rest)
with_near (Some n) None = None
with_near None rest = None

abbrev pub nears_in : List Data → Option (List Near)
nears_in [] = Some []
nears_in (d ∷ ds) = with_near (near_at d) (nears_in ds)

abbrev pub near_of : Option Data → Option (List Near)
near_of None = Some []
near_of (Some d) = option_and_then (λ ds. nears_in (items_list ds)) (as_array d)

-- the weights and limits that may be left out
abbrev pub penalties_of : Data → Option Penalties
penalties_of d = option_and_then (λ buffer_weight. option_and_then (λ spread_limit. option_and_then (λ spread_weight. option_and_then (λ rack_limit. option_and_then (λ rack_weight.
    Some (record { buffer_weight = buffer_weight; spread_limit = spread_limit; spread_weight = spread_weight; rack_limit = rack_limit; rack_weight = rack_weight }))
    (optional_whole (codes "rack_weight") d)) (optional_whole (codes "rack_limit") d)) (optional_whole (codes "spread_weight") d)) (optional_whole (codes "spread_limit") d))
    (optional_whole (codes "buffer_weight") d)

-- the protection, which format 2 must name and format 1 has no member for: there each reservation is kept after the loss of a switchboard
abbrev pub known : Option Protection → Result Protection RequestsWhy
known None = Err why.Range
known (Some protection) = Ok protection

abbrev pub protection_named : Option (List ℕ) → Result Protection RequestsWhy
protection_named None = Err why.Shape
protection_named (Some text) = known (protection_of_text text)

abbrev pub protection_implied : Option Data → Result Protection RequestsWhy
protection_implied None = Ok Board
protection_implied (Some d) = Err why.Shape

abbrev pub protection_in : ℕ → Option Data → Result Protection RequestsWhy
protection_in format found = if format == 1 then protection_implied found else protection_named (option_and_then as_str found)

-- a reservation: an object with these members, of which the first three must be there
abbrev pub reservation_members : List (List ℕ)
reservation_members =
    codes "name" ∷ codes "need" ∷ codes "values" ∷ codes "buffer_weight" ∷ codes "spread_limit" ∷ codes "spread_weight" ∷ codes "rack_limit" ∷ codes "rack_weight" ∷ codes "near" ∷ codes "protection" ∷ []

abbrev pub reservation_in : Option (List ℕ) → Option ℕ → Option (List Value) → Option Penalties → Option (List Near) → Result Protection RequestsWhy → Result Reservation RequestsWhy
reservation_in (Some name) (Some need) (Some values) (Some p) (Some near) (Ok protection) = Ok (record {
  name = name;
  need = need;
  values = values;
  buffer_weight = p.buffer_weight;
  spread_limit = p.spread_limit;
  spread_weight = p.spread_weight;
  rack_limit = p.rack_limit;
  rack_weight = p.rack_weight;
  near = near;
  protection = protection;
})
reservation_in (Some name) (Some need) (Some values) (Some p) (Some near) (Err w) = Err w
reservation_in (Some name) (Some need) (Some values) (Some p) None protection = Err why.Shape
reservation_in (Some name) (Some need) (Some values) None near protection = Err why.Shape
reservation_in (Some name) (Some need) None p near protection = Err why.Shape
reservation_in (Some name) None values p near protection = Err why.Shape
reservation_in None need values p near protection = Err why.Shape

-- the reservation of an entry by a format, before its limits are tested: Err Shape where it has another shape, and else Err Range where its protection is unknown
abbrev pub reservation_of : ℕ → Data → Result Reservation RequestsWhy
reservation_of format d = if is_object_of reservation_members (as_object d)
    then reservation_in (option_and_then name_in (get (codes "name") d)) (needed_whole (codes "need") d) (option_and_then values_of (get (codes "values") d)) (penalties_of d)
    (near_of (get (codes "near") d)) (protection_in format (get (codes "protection") d))
    else Err why.Shape
