-- The servers of an inventory by their names, and the first fault of its records.
use Rattle.std.specs.Prelude.{ℕ, ◌+◌, ◌&&◌, ◌||◌, not, nat_le, Bool, List, [], ◌∷◌, ◌++◌, length, map, codes, Option, Some, None, Result, Ok, Err, if◌then◌else◌, slice_get}
use Rattle.std.specs.List.{list_any}
use Rattle.std.specs.Str.{bytes_eq}
use Rattle.ras_table.specs.Rows.{row_of, are_texts}
use Rattle.ras_table.specs.Numbered.{after_number}
use Rattle.ras_table.specs.declared.rows.Kind.{Kind}
use Rattle.ras_table.specs.declared.rows.Kind.TheVariants as kind
use Rattle.ras_table.specs.declared.rows.Cell.{Cell}
use Rattle.ras_table.specs.declared.rows.RowFault.{RowFault}
use Rattle.ras_inventory.specs.Cells.{name_in}
use Rattle.ras_inventory.specs.declared.line.Line.{Line}
use Rattle.ras_inventory.specs.declared.fault.RegionFault.{RegionFault}
use Rattle.ras_inventory.specs.declared.fault.RegionFault.TheVariants.{At, Memory}
use Rattle.ras_inventory.specs.declared.fault.RegionWhy.{RegionWhy}
use Rattle.ras_inventory.specs.declared.fault.RegionWhy.TheVariants as why

-- the first record of an inventory
abbrev pub heads : List (List ℕ)
heads = codes "server" ∷ codes "type" ∷ codes "rack" ∷ codes "switchboard" ∷ codes "datacenter" ∷ []

abbrev pub kinds : List Kind
kinds = kind.Name ∷ kind.Name ∷ kind.Name ∷ kind.Name ∷ kind.Name ∷ []

-- the server of a row
abbrev pub line_of : List Cell → Line
line_of cells = record {
  name = name_in (slice_get cells 0);
  kind = name_in (slice_get cells 1);
  rack = name_in (slice_get cells 2);
  board = name_in (slice_get cells 3);
  center = name_in (slice_get cells 4);
}

-- names, each once, in the order in which they first stand
abbrev pub distinct_from : List (List ℕ) → List (List ℕ) → List (List ℕ)
distinct_from found [] = found
distinct_from found (name ∷ names) = distinct_from (after_number found name) names

abbrev pub distinct : List (List ℕ) → List (List ℕ)
distinct names = distinct_from [] names

-- the rules of a region: a server stands once, a rack on one switchboard, a switchboard in one datacenter
abbrev pub stands_twice : List Line → Line → Bool
stands_twice before line = list_any (λ l. bytes_eq l.name line.name) before

abbrev pub has_moved_rack : List Line → Line → Bool
has_moved_rack before line = list_any (λ l. bytes_eq l.rack line.rack && not (bytes_eq l.board line.board)) before

abbrev pub has_moved_board : List Line → Line → Bool
has_moved_board before line = list_any (λ l. bytes_eq l.board line.board && not (bytes_eq l.center line.center)) before

-- its limits: 20,000 servers and 64 switchboards
abbrev pub is_one_too_many : List Line → Line → Bool
is_one_too_many before line = nat_le 20000 (length before) || nat_le 65 (length (distinct (map (λ l. l.board) (before ++ line ∷ []))))

-- the first rule that a server breaks, after the servers before it
abbrev pub broken_rule : List Line → Line → Option RegionWhy
broken_rule before line =
    if stands_twice before line then Some why.Twice
    else if has_moved_rack before line then Some why.RackMoved
    else if has_moved_board before line then Some why.BoardMoved
    else if is_one_too_many before line then Some why.Many
    else None

-- the server of a record with this number, or the record's first fault
abbrev pub checked : ℕ → Line → Option RegionWhy → Result Line RegionFault
checked number line None = Ok line
checked number line (Some why) = Err (At number why)

abbrev pub line_in : ℕ → List Line → Result (List Cell) RowFault → Result Line RegionFault
line_in number before (Ok cells) = checked number (line_of cells) (broken_rule before (line_of cells))
line_in number before (Err f) = Err (At number (why.Row f))

abbrev pub line_at : ℕ → List Line → List (List ℕ) → Result Line RegionFault
line_at number before fields = line_in number before (row_of kinds fields)

-- the servers of records from this number on, or the first fault
abbrev pub and_then : {A B : Type 0} → Result A RegionFault → (A → Result B RegionFault) → Result B RegionFault
and_then (Ok x) f = f x
and_then (Err e) f = Err e

abbrev pub lines_from : ℕ → List Line → List (List (List ℕ)) → Result (List Line) RegionFault
lines_from number before [] = Ok before
lines_from number before (fields ∷ records) = and_then (line_at number before fields) (λ line. lines_from (number + 1) (before ++ line ∷ []) records)

-- the servers of an inventory: its first record is the head
abbrev pub lines_of : List (List (List ℕ)) → Result (List Line) RegionFault
lines_of [] = Err (At 1 why.Head)
lines_of (head ∷ records) = if are_texts head heads then lines_from 2 [] records else Err (At 1 why.Head)

-- the fault that is told, and none for want of memory
abbrev pub told : RegionFault → Option RegionFault
told (At number why) = Some (At number why)
told Memory = None
