-- Names by number.
use Rattle.std.specs.Prelude.{ℕ, List, [], map, slice_index_or}
use Rattle.ras_inventory.specs.declared.region.Region.{Region}
use Rattle.ras_requests.specs.declared.all.Requests.{Requests}

-- the name with this number, and no text where there is none
abbrev pub name_at : List (List ℕ) → ℕ → List ℕ
name_at names n = slice_index_or names n []

abbrev pub server_name : Region → ℕ → List ℕ
server_name region s = name_at (map (λ s. s.name) region.servers) s

abbrev pub rack_name : Region → ℕ → List ℕ
rack_name region rack = name_at region.racks rack

abbrev pub board_name : Region → ℕ → List ℕ
board_name region board = name_at region.boards board

abbrev pub center_name : Region → ℕ → List ℕ
center_name region center = name_at region.centers center

abbrev pub reservation_name : Requests → ℕ → List ℕ
reservation_name requests r = name_at (map (λ r. r.name) requests.list) r
