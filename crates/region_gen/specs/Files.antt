-- The three files of a sample region.
use Rattle.std.specs.Prelude.{ℕ, ◌+◌, ◌-◌, ◌*◌, ◌/◌, ◌%◌, ◌==◌, List, [], ◌++◌, codes, decimal, flat_map, if◌then◌else◌}
use Rattle.std.specs.List.{range_with_len}
use Rattle.region_gen.specs.Draws.{drawn_after, draw_of}

-- a server by its switchboard and its place there
abbrev pub server_name : ℕ → ℕ → List ℕ
server_name switchboard place = codes "s" ++ (decimal switchboard ++ (codes "x" ++ decimal place))

-- its type by its draw
abbrev pub server_type : ℕ → List ℕ
server_type draw = if draw % 2 == 0 then codes "t0" else codes "t1"

-- its rack, which it shares with one more, its switchboard and its datacenter
abbrev pub server_home : ℕ → ℕ → List ℕ
server_home switchboard place =
    codes "k" ++ (decimal switchboard ++ (codes "x" ++ (decimal (place / 2) ++ (codes ",m" ++ (decimal switchboard ++ (codes ",d" ++ decimal (switchboard % 2)))))))

abbrev pub inventory_line : ℕ → ℕ → ℕ → List ℕ
inventory_line draw switchboard place =
    server_name switchboard place ++ (codes "," ++ (server_type draw ++ (codes "," ++ (server_home switchboard place ++ codes "\n"))))

-- a server that web holds, idle and up, and no line for another
abbrev pub bindings_line : ℕ → ℕ → ℕ → List ℕ
bindings_line draw switchboard place = if draw % 3 == 0 then server_name switchboard place ++ codes ",web,0,1\n" else []

-- lines for the four servers of a switchboard, by their draws
abbrev pub board_lines : (ℕ → ℕ → ℕ → List ℕ) → ℕ → ℕ → List ℕ
board_lines line number switchboard = flat_map (λ place. line (draw_of number switchboard place) switchboard place) (range_with_len 0 4)

-- the same from the last draw before them
abbrev pub lines_after : (ℕ → ℕ → ℕ → List ℕ) → ℕ → ℕ → List ℕ
lines_after line last switchboard = flat_map (λ place. line (drawn_after last (place + 1)) switchboard place) (range_with_len 0 4)

-- lines for the servers of each switchboard
abbrev pub region_lines : (ℕ → ℕ → ℕ → List ℕ) → ℕ → ℕ → List ℕ
region_lines line number size = flat_map (board_lines line number) (range_with_len 0 size)

abbrev pub inventory_text : ℕ → ℕ → List ℕ
inventory_text number size = codes "server,type,rack,switchboard,datacenter\n" ++ region_lines inventory_line number size

abbrev pub bindings_text : ℕ → ℕ → List ℕ
bindings_text number size = codes "server,reservation,busy,up\n" ++ region_lines bindings_line number size

-- web asks for ten units on all switchboards but one
abbrev pub web_need : ℕ → ℕ
web_need size = 10 * (size - 1)

-- and weighs racks where the size is even
abbrev pub web_rack_weight : ℕ → ℕ
web_rack_weight size = if size % 2 == 0 then 1 else 0

abbrev pub requests_text : ℕ → List ℕ
requests_text size =
    codes "{\"format\":1,\"moves\":{\"busy\":20,\"idle\":3,\"take\":1},\"reservations\":[{\"name\":\"web\",\"need\":"
    ++ (decimal (web_need size) ++ (codes ",\"rack_limit\":10,\"rack_weight\":"
    ++ (decimal (web_rack_weight size) ++ codes ",\"values\":{\"t0\":10,\"t1\":6}},{\"name\":\"db\",\"need\":8,\"values\":{\"t1\":8}}]}")))
