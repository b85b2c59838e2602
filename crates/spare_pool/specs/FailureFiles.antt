-- The failures of a file, and the first fault of its records. A fault has the number of its record, from 1.
use Rattle.std.specs.Prelude.{ℕ, ◌+◌, List, [], ◌∷◌, ◌++◌, Option, Some, None, Result, Ok, Err, if◌then◌else◌}
use Rattle.ras_table.specs.Rows.{row_of, are_texts}
use Rattle.ras_table.specs.Records.{records_of}
use Rattle.ras_table.specs.declared.rows.Cell.{Cell}
use Rattle.ras_table.specs.declared.rows.RowFault.{RowFault}
use Rattle.spare_pool.specs.declared.failure.Failure.{Failure}
use Rattle.spare_pool.specs.declared.fault.FailuresFault.{FailuresFault}
use Rattle.spare_pool.specs.declared.fault.FailuresFault.TheVariants.{At, Memory}
use Rattle.spare_pool.specs.declared.fault.FailuresWhy.{FailuresWhy}
use Rattle.spare_pool.specs.declared.fault.FailuresWhy.TheVariants as why
use Rattle.spare_pool.specs.FailureRows.{heads, kinds, failure_of}

-- the failure of a record with this number, or the record's first fault
abbrev pub numbered : ℕ → Result Failure FailuresWhy → Result Failure FailuresFault
numbered number (Ok failure) = Ok failure
numbered number (Err w) = Err (At number w)

abbrev pub failure_in : List (List ℕ) → ℕ → List Failure → Result (List Cell) RowFault → Result Failure FailuresFault
failure_in names number before (Ok cells) = numbered number (failure_of names before cells)
failure_in names number before (Err f) = Err (At number (why.Row f))

abbrev pub failure_at : List (List ℕ) → ℕ → List Failure → List (List ℕ) → Result Failure FailuresFault
failure_at names number before fields = failure_in names number before (row_of kinds fields)

-- the failures of records from this number on, after those before, or the first fault
abbrev pub and_then : {A B : Type 0} → Result A FailuresFault → (A → Result B FailuresFault) → Result B FailuresFault
and_then (Ok x) f = f x
and_then (Err e) f = Err e

abbrev pub failures_from : List (List ℕ) → ℕ → List Failure → List (List (List ℕ)) → Result (List Failure) FailuresFault
failures_from names number before [] = Ok before
failures_from names number before (fields ∷ records) =
    and_then (failure_at names number before fields) (λ failure. failures_from names (number + 1) (before ++ failure ∷ []) records)

-- the failures of records: the first of them is the head
abbrev pub failures_in : List (List ℕ) → List (List (List ℕ)) → Result (List Failure) FailuresFault
failures_in names [] = Err (At 1 why.Head)
failures_in names (head ∷ records) = if are_texts head heads then failures_from names 2 [] records else Err (At 1 why.Head)

-- the failures that the bytes of a file stand for, by the names of the region's servers, or their first fault
abbrev pub failures_of : List (List ℕ) → List ℕ → Result (List Failure) FailuresFault
failures_of names bytes = failures_in names (records_of bytes)

-- the fault that is told, and none for want of memory
abbrev pub told : FailuresFault → Option FailuresFault
told (At number w) = Some (At number w)
told Memory = None
