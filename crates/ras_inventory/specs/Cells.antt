-- What stands in a cell.
use Rattle.std.specs.Prelude.{ℕ, Bool, true, false, List, [], Option, Some, None}
use Rattle.ras_table.specs.declared.rows.Cell.{Cell}
use Rattle.ras_table.specs.declared.rows.Cell.TheVariants as cell

-- the name in a cell
abbrev pub name_in : Option Cell → List ℕ
name_in None = []
name_in (Some (cell.Name name)) = name
name_in (Some (cell.Whole n)) = []
name_in (Some (cell.Flag b)) = []
name_in (Some cell.Nothing) = []

abbrev pub is_name_cell : Option Cell → Bool
is_name_cell None = false
is_name_cell (Some (cell.Name name)) = true
is_name_cell (Some (cell.Whole n)) = false
is_name_cell (Some (cell.Flag b)) = false
is_name_cell (Some cell.Nothing) = false

-- the name in a cell that may hold none
abbrev pub holder_in : Option Cell → Option (List ℕ)
holder_in None = None
holder_in (Some (cell.Name name)) = Some name
holder_in (Some (cell.Whole n)) = None
holder_in (Some (cell.Flag b)) = None
holder_in (Some cell.Nothing) = None

-- the flag in a cell
abbrev pub flag_in : Option Cell → Bool
flag_in None = false
flag_in (Some (cell.Name name)) = false
flag_in (Some (cell.Whole n)) = false
flag_in (Some (cell.Flag b)) = b
flag_in (Some cell.Nothing) = false
