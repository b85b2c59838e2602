-- The region of an inventory.
use Rattle.std.specs.Prelude.{ℕ, ◌≡◌, List, map, unwrap_or, Result, Ok}
use Rattle.ras_table.specs.Names.{number_of}
use Rattle.ras_table.specs.Records.{records_of}
use Rattle.ras_inventory.specs.declared.line.Line.{Line}
use Rattle.ras_inventory.specs.declared.server.Server.{Server}
use Rattle.ras_inventory.specs.declared.labels.Labels.{Labels}
use Rattle.ras_inventory.specs.declared.region.Region.{Region}
use Rattle.ras_inventory.specs.declared.fault.RegionFault.{RegionFault}
use Rattle.ras_inventory.specs.Lines.{lines_of, distinct, and_then}

-- what is seen of a region
pub record Regional : Type 0 where
  pub servers : List Server
  pub types : List (List ℕ)
  pub racks : List (List ℕ)
  pub boards : List (List ℕ)
  pub centers : List (List ℕ)

abbrev pub seen : Region → Regional
seen r = record { servers = r.servers; types = r.types; racks = r.racks; boards = r.boards; centers = r.centers }

-- the number of a name that stands among names
abbrev pub place_in : List (List ℕ) → List ℕ → ℕ
place_in names name = unwrap_or (number_of names name) 0

-- the names of the types, racks, switchboards and datacenters of servers
pub record AreLabelsOf (lines : List Line) (labels : Labels) : Type 0 where
  pub types : labels.types ≡ distinct (map (λ l. l.kind) lines)
  pub racks : labels.racks ≡ distinct (map (λ l. l.rack) lines)
  pub boards : labels.boards ≡ distinct (map (λ l. l.board) lines)
  pub centers : labels.centers ≡ distinct (map (λ l. l.center) lines)

-- a server, with its names numbered
abbrev pub server_of : List Line → Line → Server
server_of lines line = record {
  name = line.name;
  kind = place_in (distinct (map (λ l. l.kind) lines)) line.kind;
  rack = place_in (distinct (map (λ l. l.rack) lines)) line.rack;
  board = place_in (distinct (map (λ l. l.board) lines)) line.board;
  center = place_in (distinct (map (λ l. l.center) lines)) line.center;
}

-- the region of these servers
abbrev pub regional : List Line → Regional
regional lines = record {
  servers = map (server_of lines) lines;
  types = distinct (map (λ l. l.kind) lines);
  racks = distinct (map (λ l. l.rack) lines);
  boards = distinct (map (λ l. l.board) lines);
  centers = distinct (map (λ l. l.center) lines);
}

-- the region that the bytes of an inventory stand for, or their first fault
abbrev pub region_of : List ℕ → Result Regional RegionFault
region_of bytes = and_then (lines_of (records_of bytes)) (λ lines. Ok (regional lines))
