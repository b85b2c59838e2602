-- What the files of a sample region stand for.
use Rattle.std.specs.Prelude.{ℕ, ◌+◌, ◌*◌, ◌/◌, ◌%◌, ◌==◌, Bool, true, false, List, [], ◌∷◌, ◌++◌, codes, decimal, map, Some, None, if◌then◌else◌}
use Rattle.std.specs.List.{range_with_len}
use Rattle.ras_inventory.specs.declared.line.Line.{Line}
use Rattle.ras_inventory.specs.Regions.{Regional, regional}
use Rattle.ras_inventory.specs.declared.bindings.Binding.{Binding}
use Rattle.ras_requests.specs.declared.requests.Moves.{Moves}
use Rattle.ras_requests.specs.declared.requests.Protection.TheVariants.{Board}
use Rattle.ras_requests.specs.declared.requests.Value.{Value}
use Rattle.ras_requests.specs.declared.requests.Reservation.{Reservation}
use Rattle.ras_requests.specs.Requested.{Requested}
use Rattle.region_gen.specs.Draws.{drawn_after}
use Rattle.region_gen.specs.Files.{server_name, server_type, web_need, web_rack_weight}

-- the servers are counted through all switchboards, four on each: the name, rack, switchboard and datacenter of one
abbrev pub name_of : ℕ → List ℕ
name_of k = server_name (k / 4) (k % 4)

abbrev pub rack_of : ℕ → List ℕ
rack_of k = codes "k" ++ (decimal (k / 4) ++ (codes "x" ++ decimal (k % 4 / 2)))

abbrev pub board_of : ℕ → List ℕ
board_of k = codes "m" ++ decimal (k / 4)

abbrev pub center_of : ℕ → List ℕ
center_of k = codes "d" ++ decimal (k / 4 % 2)

-- its draw
abbrev pub draw_at : ℕ → ℕ → ℕ
draw_at number k = drawn_after number (k + 1)

abbrev pub sample_line : ℕ → ℕ → Line
sample_line number k = record {
  name = name_of k;
  kind = server_type (draw_at number k);
  rack = rack_of k;
  board = board_of k;
  center = center_of k;
}

-- the servers of a sample, and its region
abbrev pub sample_lines : ℕ → ℕ → List Line
sample_lines number size = map (sample_line number) (range_with_len 0 (4 * size))

abbrev pub sample_region : ℕ → ℕ → Regional
sample_region number size = regional (sample_lines number size)

-- who holds a server: web holds those of every third draw, and the rest are free; all are idle and up
abbrev pub binding_of : Bool → Binding
binding_of held = record { holder = if held then Some (codes "web") else None; busy = false; up = true }

abbrev pub is_held : ℕ → ℕ → Bool
is_held number k = draw_at number k % 3 == 0

abbrev pub sample_bindings : ℕ → ℕ → List Binding
sample_bindings number size = map (λ k. binding_of (is_held number k)) (range_with_len 0 (4 * size))

-- the two reservations
abbrev pub value_of : List ℕ → ℕ → Value
value_of kind units = record { kind = kind; units = units }

abbrev pub web : ℕ → ℕ → Reservation
web need rack_weight = record {
  name = codes "web";
  need = need;
  values = value_of (codes "t0") 10 ∷ value_of (codes "t1") 6 ∷ [];
  buffer_weight = 0;
  spread_limit = 0;
  spread_weight = 0;
  rack_limit = 10;
  rack_weight = rack_weight;
  near = [];
  protection = Board;
}

abbrev pub db : Reservation
db = record {
  name = codes "db";
  need = 8;
  values = value_of (codes "t1") 8 ∷ [];
  buffer_weight = 0;
  spread_limit = 0;
  spread_weight = 0;
  rack_limit = 0;
  rack_weight = 0;
  near = [];
  protection = Board;
}

abbrev pub sample_moves : Moves
sample_moves = record { take = 1; idle = 3; busy = 20 }

abbrev pub sample_requests : ℕ → Requested
sample_requests size = record { moves = sample_moves; list = web (web_need size) (web_rack_weight size) ∷ db ∷ [] }
