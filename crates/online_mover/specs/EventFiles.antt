-- The events of a file, and the first fault of its records. A fault has the number of its record, from 1.
use Rattle.std.specs.Prelude.{ℕ, ◌+◌, List, [], ◌∷◌, ◌++◌, Option, Some, None, Result, Ok, Err, if◌then◌else◌}
use Rattle.ras_table.specs.Rows.{row_of, are_texts}
use Rattle.ras_table.specs.Records.{records_of}
use Rattle.ras_table.specs.declared.rows.Cell.{Cell}
use Rattle.ras_table.specs.declared.rows.RowFault.{RowFault}
use Rattle.online_mover.specs.declared.timed.Timed.{Timed}
use Rattle.online_mover.specs.declared.fault.EventsFault.{EventsFault}
use Rattle.online_mover.specs.declared.fault.EventsFault.TheVariants.{At, Memory}
use Rattle.online_mover.specs.declared.fault.EventsWhy.{EventsWhy}
use Rattle.online_mover.specs.declared.fault.EventsWhy.TheVariants as why
use Rattle.online_mover.specs.EventRows.{heads, kinds, timed_of}

-- the event of a record with this number, or the record's first fault
abbrev pub numbered : ℕ → Result Timed EventsWhy → Result Timed EventsFault
numbered number (Ok timed) = Ok timed
numbered number (Err w) = Err (At number w)

abbrev pub timed_in : List (List ℕ) → ℕ → List Timed → Result (List Cell) RowFault → Result Timed EventsFault
timed_in names number before (Ok cells) = numbered number (timed_of names before cells)
timed_in names number before (Err f) = Err (At number (why.Row f))

abbrev pub timed_at : List (List ℕ) → ℕ → List Timed → List (List ℕ) → Result Timed EventsFault
timed_at names number before fields = timed_in names number before (row_of kinds fields)

-- the events of records from this number on, after those before, or the first fault
abbrev pub and_then : {A B : Type 0} → Result A EventsFault → (A → Result B EventsFault) → Result B EventsFault
and_then (Ok x) f = f x
and_then (Err e) f = Err e

abbrev pub events_from : List (List ℕ) → ℕ → List Timed → List (List (List ℕ)) → Result (List Timed) EventsFault
events_from names number before [] = Ok before
events_from names number before (fields ∷ records) =
    and_then (timed_at names number before fields) (λ timed. events_from names (number + 1) (before ++ timed ∷ []) records)

-- the events of records: the first of them is the head
abbrev pub events_in : List (List ℕ) → List (List (List ℕ)) → Result (List Timed) EventsFault
events_in names [] = Err (At 1 why.Head)
events_in names (head ∷ records) = if are_texts head heads then events_from names 2 [] records else Err (At 1 why.Head)

-- the events that the bytes of a file stand for, by the names of the region's servers, or their first fault
abbrev pub events_of : List (List ℕ) → List ℕ → Result (List Timed) EventsFault
events_of names bytes = events_in names (records_of bytes)

-- the fault that is told, and none for want of memory
abbrev pub told : EventsFault → Option EventsFault
told (At number w) = Some (At number w)
told Memory = None
