-- The bindings of a file, and the first fault of its records.
use Rattle.std.specs.Prelude.{ℕ, ◌+◌, Bool, true, false, List, [], ◌∷◌, ◌++◌, map, codes, Option, Some, None, is_none, unwrap_or, option_map, option_and_then, Result, Ok, Err, if◌then◌else◌, slice_get}
use Rattle.std.specs.List.{list_any}
use Rattle.std.specs.Str.{bytes_eq}
use Rattle.ras_table.specs.Names.{number_of}
use Rattle.ras_table.specs.Rows.{row_of, are_texts}
use Rattle.ras_table.specs.Records.{records_of}
use Rattle.ras_table.specs.declared.rows.Kind.{Kind}
use Rattle.ras_table.specs.declared.rows.Kind.TheVariants as kind
use Rattle.ras_table.specs.declared.rows.Cell.{Cell}
use Rattle.ras_table.specs.declared.rows.RowFault.{RowFault}
use Rattle.ras_inventory.specs.Cells.{name_in, holder_in, flag_in}
use Rattle.ras_inventory.specs.declared.bindings.Binding.{Binding}
use Rattle.ras_inventory.specs.declared.bound.Bound.{Bound}
use Rattle.ras_inventory.specs.declared.fault.BindingsFault.{BindingsFault}
use Rattle.ras_inventory.specs.declared.fault.BindingsFault.TheVariants.{At, Memory}
use Rattle.ras_inventory.specs.declared.fault.BindingsWhy.{BindingsWhy}
use Rattle.ras_inventory.specs.declared.fault.BindingsWhy.TheVariants as why

-- the first record of bindings
abbrev pub heads : List (List ℕ)
heads = codes "server" ∷ codes "reservation" ∷ codes "busy" ∷ codes "up" ∷ []

abbrev pub kinds : List Kind
kinds = kind.Name ∷ kind.NameOrNone ∷ kind.Flag ∷ kind.Flag ∷ []

-- the line of a row
abbrev pub bound_of : List Cell → Bound
bound_of cells = record {
  server = name_in (slice_get cells 0);
  holder = holder_in (slice_get cells 1);
  busy = flag_in (slice_get cells 2);
  up = flag_in (slice_get cells 3);
}

-- the rules of bindings: a server is one of the region's, and stands once
abbrev pub stands_twice : List Bound → Bound → Bool
stands_twice before bound = list_any (λ b. bytes_eq b.server bound.server) before

-- the first rule that a line breaks, after the lines before it
abbrev pub broken_rule : List (List ℕ) → List Bound → Bound → Option BindingsWhy
broken_rule servers before bound =
    if is_none (number_of servers bound.server) then Some why.Unknown
    else if stands_twice before bound then Some why.Twice
    else None

-- the line of a record with this number, or the record's first fault
abbrev pub checked : ℕ → Bound → Option BindingsWhy → Result Bound BindingsFault
checked number bound None = Ok bound
checked number bound (Some why) = Err (At number why)

abbrev pub bound_in : List (List ℕ) → ℕ → List Bound → Result (List Cell) RowFault → Result Bound BindingsFault
bound_in servers number before (Ok cells) = checked number (bound_of cells) (broken_rule servers before (bound_of cells))
bound_in servers number before (Err f) = Err (At number (why.Row f))

abbrev pub bound_at : List (List ℕ) → ℕ → List Bound → List (List ℕ) → Result Bound BindingsFault
bound_at servers number before fields = bound_in servers number before (row_of kinds fields)

-- the lines of records from this number on, or the first fault
abbrev pub and_then : {A B : Type 0} → Result A BindingsFault → (A → Result B BindingsFault) → Result B BindingsFault
and_then (Ok x) f = f x
and_then (Err e) f = Err e

abbrev pub bounds_from : List (List ℕ) → ℕ → List Bound → List (List (List ℕ)) → Result (List Bound) BindingsFault
bounds_from servers number before [] = Ok before
bounds_from servers number before (fields ∷ records) = and_then (bound_at servers number before fields) (λ bound. bounds_from servers (number + 1) (before ++ bound ∷ []) records)

-- the lines of bindings: the first record is the head
abbrev pub bounds_of : List (List ℕ) → List (List (List ℕ)) → Result (List Bound) BindingsFault
bounds_of servers [] = Err (At 1 why.Head)
bounds_of servers (head ∷ records) = if are_texts head heads then bounds_from servers 2 [] records else Err (At 1 why.Head)

-- the line that names a server, if there is one
abbrev pub line_for : List Bound → List ℕ → Option Bound
line_for bounds name = option_and_then (λ n. slice_get bounds n) (number_of (map (λ b. b.server) bounds) name)

-- what a line says of its server
abbrev pub binding_in : Bound → Binding
binding_in bound = record { holder = bound.holder; busy = bound.busy; up = bound.up }

-- a server without a line is free, idle and up
abbrev pub free : Binding
free = record { holder = None; busy = false; up = true }

abbrev pub binding_for : List Bound → List ℕ → Binding
binding_for bounds name = unwrap_or (option_map binding_in (line_for bounds name)) free

-- the bindings of servers, one for each, that the bytes of a file stand for, or their first fault
abbrev pub bindings_of : List (List ℕ) → List ℕ → Result (List Binding) BindingsFault
bindings_of servers bytes = and_then (bounds_of servers (records_of bytes)) (λ bounds. Ok (map (binding_for bounds) servers))

-- the fault that is told, and none for want of memory
abbrev pub told : BindingsFault → Option BindingsFault
told (At number why) = Some (At number why)
told Memory = None
