-- The case that a region, its bindings and requests join to.
use Rattle.std.specs.Prelude.{ℕ, ◌≡◌, List, [], ◌∷◌, length, map, zip, Option, Some, None, if◌then◌else◌}
use Rattle.std.specs.Option.{option_map_or}
use Rattle.std.specs.Str.{bytes_eq}
use Rattle.ras_table.specs.Names.{number_of}
use Rattle.ras_inventory.specs.declared.server.Server.{Server}
use Rattle.ras_inventory.specs.declared.region.Region.{Region}
use Rattle.ras_inventory.specs.declared.bindings.Binding.{Binding}
use Rattle.ras_inventory.specs.declared.bindings.Bindings.{Bindings}
use Rattle.ras_requests.specs.declared.requests.Value.{Value}
use Rattle.ras_requests.specs.declared.requests.Near.{Near}
use Rattle.ras_requests.specs.declared.requests.Reservation.{Reservation}
use Rattle.ras_requests.specs.declared.all.Requests.{Requests}
use Rattle.ras_requests.specs.RequestsRule.{reservation_names}
use Rattle.plan_model.specs.declared.cases.Holder.{Holder}
use Rattle.plan_model.specs.declared.cases.Holder.TheVariants.{Free, Held, Gone}
use Rattle.plan_model.specs.declared.cases.Place.{Place}
use Rattle.plan_model.specs.declared.cases.Goal.{Goal}
use Rattle.plan_model.specs.declared.cases.Want.{Want}
use Rattle.plan_model.specs.declared.cases.Case.{Case}

-- nobody holds a free server, and a reservation of the requests goes by its number
abbrev pub holder_named : List (List ℕ) → Option (List ℕ) → Holder
holder_named reservations None = Free
holder_named reservations (Some name) = option_map_or (λ r. Held r) (number_of reservations name) Gone

-- a server as it stands and as it is bound
abbrev pub joined_place : List Reservation → Server × Binding → Place
joined_place reservations s = record {
  kind = s.0.kind;
  rack = s.0.rack;
  board = s.0.board;
  center = s.0.center;
  holder = holder_named (reservation_names reservations) s.1.holder;
  busy = s.1.busy;
  up = s.1.up;
}

-- the units of a type of that name: those that the requests give it, and 0 where they give none
abbrev pub units_for : List Value → List ℕ → ℕ
units_for [] name = 0
units_for (value ∷ values) name = if bytes_eq name value.kind then value.units else units_for values name

-- a wish to be near a datacenter, which the region may lack
abbrev pub joined_goal : List (List ℕ) → Near → Goal
joined_goal centers near = record { center = number_of centers near.center; least = near.least; weight = near.weight }

-- a reservation, with one value for each type of the region
abbrev pub joined_want : List (List ℕ) → List (List ℕ) → Reservation → Want
joined_want types centers r = record {
  need = r.need;
  values = map (units_for r.values) types;
  buffer_weight = r.buffer_weight;
  spread_limit = r.spread_limit;
  spread_weight = r.spread_weight;
  rack_limit = r.rack_limit;
  rack_weight = r.rack_weight;
  near = map (joined_goal centers) r.near;
  protection = r.protection;
}

-- a case is that of a region, requests and bindings
pub record IsJoined (region : Region) (requests : Requests) (bindings : Bindings) (case : Case) : Type 0 where
  pub places : case.places ≡ map (joined_place requests.list) (zip region.servers bindings.of)
  pub kinds : case.kinds ≡ length region.types
  pub racks : case.racks ≡ length region.racks
  pub boards : case.boards ≡ length region.boards
  pub centers : case.centers ≡ length region.centers
  pub moves : case.moves ≡ requests.moves
  pub wants : case.wants ≡ map (joined_want region.types region.centers) requests.list
