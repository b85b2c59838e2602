-- The cells of a row, and the first fault of one.
use Rattle.std.specs.Prelude.{ℕ, suc, ◌+◌, ◌-◌, ◌*◌, Bool, true, false, ◌&&◌, ◌==◌, nat_le, List, [], ◌∷◌, length, Option, Some, None, option_map, Result, Ok, Err, if◌then◌else◌}
use Rattle.std.specs.List.{list_all}
use Rattle.std.specs.Str.{bytes_eq}
use Rattle.std.specs.Cmp.Lexicographic.{pointwise}
use Rattle.ras_table.specs.Names.{is_name}
use Rattle.ras_table.specs.declared.rows.Kind.{Kind}
use Rattle.ras_table.specs.declared.rows.Kind.TheVariants as kind
use Rattle.ras_table.specs.declared.rows.Cell.{Cell}
use Rattle.ras_table.specs.declared.rows.Cell.TheVariants as cell
use Rattle.ras_table.specs.declared.rows.RowFault.{RowFault}
use Rattle.ras_table.specs.declared.rows.RowFault.TheVariants as fault

-- a decimal digit
abbrev pub is_digit : ℕ → Bool
is_digit b = nat_le 48 b && nat_le b 57

-- the number that digits spell, after what stands before them
abbrev pub spelled : ℕ → List ℕ → ℕ
spelled before [] = before
spelled before (d ∷ ds) = spelled (10 * before + (d - 48)) ds

-- the whole number that 1 to 20 digits spell, where it is small enough
abbrev pub whole_of : ℕ → List ℕ → Option ℕ
whole_of most field =
    if nat_le 1 (length field) && nat_le (length field) 20 && list_all is_digit field && nat_le (spelled 0 field) most then Some (spelled 0 field) else None

-- the cell that a field is
abbrev pub cell_of : Kind → List ℕ → Option Cell
cell_of kind.Name field = if is_name field then Some (cell.Name field) else None
cell_of (kind.Whole most) field = option_map (λ n. cell.Whole n) (whole_of most field)
cell_of kind.Flag field = if bytes_eq field (48 ∷ []) then Some (cell.Flag false) else if bytes_eq field (49 ∷ []) then Some (cell.Flag true) else None
cell_of kind.NameOrNone field = if length field == 0 then Some cell.Nothing else if is_name field then Some (cell.Name field) else None

-- the cells of the fields, or the number of the first that is outside its kind
abbrev pub with_cell : Option Cell → ℕ → Result (List Cell) RowFault → Result (List Cell) RowFault
with_cell None place rest = Err (fault.Bad place)
with_cell (Some c) place (Ok cells) = Ok (c ∷ cells)
with_cell (Some c) place (Err f) = Err f

abbrev pub cells_from : ℕ → List Kind → List (List ℕ) → Result (List Cell) RowFault
cells_from place [] fields = Ok []
cells_from place (k ∷ kinds) [] = Ok []
cells_from place (k ∷ kinds) (f ∷ fields) = with_cell (cell_of k f) place (cells_from (place + 1) kinds fields)

-- the cells of a record, or its first fault
abbrev pub row_of : List Kind → List (List ℕ) → Result (List Cell) RowFault
row_of kinds fields = if length fields == length kinds then cells_from 1 kinds fields else Err (fault.Columns (length fields))

-- whether a cell is of a kind, and cells of their kinds
abbrev pub is_of_kind : Kind → Cell → Bool
is_of_kind kind.Name (cell.Name n) = true
is_of_kind kind.Name (cell.Whole n) = false
is_of_kind kind.Name (cell.Flag b) = false
is_of_kind kind.Name cell.Nothing = false
is_of_kind (kind.Whole most) (cell.Whole n) = nat_le n most
is_of_kind (kind.Whole most) (cell.Name n) = false
is_of_kind (kind.Whole most) (cell.Flag b) = false
is_of_kind (kind.Whole most) cell.Nothing = false
is_of_kind kind.Flag (cell.Flag b) = true
is_of_kind kind.Flag (cell.Name n) = false
is_of_kind kind.Flag (cell.Whole n) = false
is_of_kind kind.Flag cell.Nothing = false
is_of_kind kind.NameOrNone (cell.Name n) = true
is_of_kind kind.NameOrNone cell.Nothing = true
is_of_kind kind.NameOrNone (cell.Whole n) = false
is_of_kind kind.NameOrNone (cell.Flag b) = false

abbrev pub are_of_kinds : List Kind → List Cell → Bool
are_of_kinds [] [] = true
are_of_kinds [] (c ∷ cells) = false
are_of_kinds (k ∷ kinds) [] = false
are_of_kinds (k ∷ kinds) (c ∷ cells) = is_of_kind k c && are_of_kinds kinds cells

-- the fault that is told, and none for want of memory
abbrev pub told : RowFault → Option RowFault
told (fault.Columns n) = Some (fault.Columns n)
told (fault.Bad n) = Some (fault.Bad n)
told fault.Memory = None

-- whether fields are these texts
abbrev pub are_texts : List (List ℕ) → List (List ℕ) → Bool
are_texts = pointwise bytes_eq
