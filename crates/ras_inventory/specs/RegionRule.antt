-- What every region keeps: its limits, that each number names something that is there, and that no rack or switchboard is split.
use Rattle.std.specs.Prelude.{ℕ, Bool, not, ◌&&◌, ◌||◌, ◌==◌, nat_le, nat_lt, List, length, map}
use Rattle.std.specs.List.{list_all}
use Rattle.ras_table.specs.Names.{names_differ}
use Rattle.ras_inventory.specs.declared.server.Server.{Server}

abbrev pub server_names : List Server → List (List ℕ)
server_names servers = map (λ s. s.name) servers

-- a server's numbers name what is there
abbrev pub server_in_range : ℕ → ℕ → ℕ → ℕ → Server → Bool
server_in_range types racks boards centers s =
    nat_lt s.kind types && nat_lt s.rack racks && nat_lt s.board boards && nat_lt s.center centers

-- servers of one rack are on one switchboard, and servers of one switchboard in one datacenter
abbrev pub stand_together : Server → Server → Bool
stand_together s t = (not (s.rack == t.rack) || s.board == t.board) && (not (s.board == t.board) || s.center == t.center)

-- the rule of a region: its servers, and the names of its types, racks, switchboards and datacenters
abbrev pub region_rule : List Server → List (List ℕ) → List (List ℕ) → List (List ℕ) → List (List ℕ) → Bool
region_rule servers types racks boards centers =
    nat_le (length servers) 20000 && nat_le (length boards) 64 && nat_le (length centers) 64
    && list_all (server_in_range (length types) (length racks) (length boards) (length centers)) servers
    && list_all (λ s. list_all (stand_together s) servers) servers
    && names_differ (server_names servers)
