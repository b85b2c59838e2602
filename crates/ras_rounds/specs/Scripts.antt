-- The entries of a script, and the first fault of its records. A fault has the number of its record, from 1.
use Rattle.std.specs.Prelude.{ℕ, ◌+◌, List, [], ◌∷◌, ◌++◌, Option, Some, None, Result, Ok, Err, if◌then◌else◌}
use Rattle.ras_table.specs.Rows.{row_of, are_texts}
use Rattle.ras_table.specs.Records.{records_of}
use Rattle.ras_table.specs.declared.rows.Cell.{Cell}
use Rattle.ras_table.specs.declared.rows.RowFault.{RowFault}
use Rattle.ras_rounds.specs.declared.entries.Entry.{Entry}
use Rattle.ras_rounds.specs.declared.fault.ScriptFault.{ScriptFault}
use Rattle.ras_rounds.specs.declared.fault.ScriptFault.TheVariants.{At, Memory}
use Rattle.online_mover.specs.declared.fault.EventsWhy.{EventsWhy}
use Rattle.online_mover.specs.declared.fault.EventsWhy.TheVariants as why
use Rattle.ras_rounds.specs.EntryRows.{heads, kinds, entry_of}

-- the entry of a record with this number, or the record's first fault
abbrev pub numbered : ℕ → Result Entry EventsWhy → Result Entry ScriptFault
numbered number (Ok entry) = Ok entry
numbered number (Err w) = Err (At number w)

abbrev pub entry_in : List (List ℕ) → ℕ → List Entry → Result (List Cell) RowFault → Result Entry ScriptFault
entry_in names number before (Ok cells) = numbered number (entry_of names before cells)
entry_in names number before (Err f) = Err (At number (why.Row f))

abbrev pub entry_at : List (List ℕ) → ℕ → List Entry → List (List ℕ) → Result Entry ScriptFault
entry_at names number before fields = entry_in names number before (row_of kinds fields)

-- the entries of records from this number on, after those before, or the first fault
abbrev pub and_then : {A B : Type 0} → Result A ScriptFault → (A → Result B ScriptFault) → Result B ScriptFault
and_then (Ok x) f = f x
and_then (Err e) f = Err e

abbrev pub script_from : List (List ℕ) → ℕ → List Entry → List (List (List ℕ)) → Result (List Entry) ScriptFault
script_from names number before [] = Ok before
script_from names number before (fields ∷ records) =
    and_then (entry_at names number before fields) (λ entry. script_from names (number + 1) (before ++ entry ∷ []) records)

-- the entries of records: the first of them is the head
abbrev pub script_in : List (List ℕ) → List (List (List ℕ)) → Result (List Entry) ScriptFault
script_in names [] = Err (At 1 why.Head)
script_in names (head ∷ records) = if are_texts head heads then script_from names 2 [] records else Err (At 1 why.Head)

-- the entries that the bytes of a file stand for, by the names of the region's servers, or their first fault
abbrev pub script_of : List (List ℕ) → List ℕ → Result (List Entry) ScriptFault
script_of names bytes = script_in names (records_of bytes)

-- the fault that is told, and none for want of memory
abbrev pub told : ScriptFault → Option ScriptFault
told (At number w) = Some (At number w)
told Memory = None
