-- The change of a row of a file of failures, and the first rule that the row breaks.
use Rattle.std.specs.Prelude.{ℕ, ◌-◌, Bool, false, nat_le, nat_lt, if◌then◌else◌, List, [], ◌∷◌, length, codes, slice_get, Option, Some, None, Result, Ok, Err}
use Rattle.std.specs.Option.{option_map, option_map_or}
use Rattle.std.specs.Str.{bytes_eq}
use Rattle.ras_table.specs.Names.{number_of}
use Rattle.ras_table.specs.declared.rows.Kind.{Kind}
use Rattle.ras_table.specs.declared.rows.Kind.TheVariants as kind
use Rattle.ras_table.specs.declared.rows.Cell.{Cell}
use Rattle.ras_table.specs.declared.rows.Cell.TheVariants as cell
use Rattle.spare_pool.specs.declared.standings.Change.{Change}
use Rattle.spare_pool.specs.declared.standings.Change.TheVariants as change
use Rattle.spare_pool.specs.declared.failure.Failure.{Failure}
use Rattle.spare_pool.specs.declared.failure.Word.{Word}
use Rattle.spare_pool.specs.declared.failure.Word.TheVariants as word
use Rattle.spare_pool.specs.declared.fault.FailuresWhy.{FailuresWhy}
use Rattle.spare_pool.specs.declared.fault.FailuresWhy.TheVariants as why

-- the first record of a file of failures
abbrev pub heads : List (List ℕ)
heads = codes "at" ∷ codes "event" ∷ codes "server" ∷ []

-- a time is at most 2^53
abbrev pub kinds : List Kind
kinds = kind.Whole 9007199254740992 ∷ kind.Name ∷ kind.Name ∷ []

-- the words of changes
abbrev pub word_of : List ℕ → Option Word
word_of text = if bytes_eq text (codes "fail") then Some word.Fail else if bytes_eq text (codes "repair") then Some word.Repair else None

-- what stands in a cell
abbrev pub word_in : Option Cell → Option Word
word_in None = None
word_in (Some (cell.Name name)) = word_of name
word_in (Some (cell.Whole n)) = None
word_in (Some (cell.Flag b)) = None
word_in (Some cell.Nothing) = None

abbrev pub whole_in : Option Cell → ℕ
whole_in None = 0
whole_in (Some (cell.Name name)) = 0
whole_in (Some (cell.Whole n)) = n
whole_in (Some (cell.Flag b)) = 0
whole_in (Some cell.Nothing) = 0

-- the server that a cell names, where the region has it
abbrev pub server_in : List (List ℕ) → Option Cell → Option ℕ
server_in names None = None
server_in names (Some (cell.Name name)) = number_of names name
server_in names (Some (cell.Whole n)) = None
server_in names (Some (cell.Flag b)) = None
server_in names (Some cell.Nothing) = None

-- the change of a word, to a server
abbrev pub change_of : Word → ℕ → Change
change_of word.Fail s = change.Fail s
change_of word.Repair s = change.Repair s

-- times do not go back, and there are at most 100,000 failures
abbrev pub is_too_early : List Failure → ℕ → Bool
is_too_early before at = option_map_or (λ last. nat_lt at last.at) (slice_get before (length before - 1)) false

abbrev pub broken_rule : List Failure → ℕ → Option FailuresWhy
broken_rule before at = if is_too_early before at then Some why.Order else if nat_le 100000 (length before) then Some why.Many else None

-- the failure of a row, or the first rule that it breaks
abbrev pub unless_broken : Failure → Option FailuresWhy → Result Failure FailuresWhy
unless_broken failure None = Ok failure
unless_broken failure (Some w) = Err w

abbrev pub with_change : List Failure → ℕ → Option Change → Result Failure FailuresWhy
with_change before at None = Err why.Unknown
with_change before at (Some c) = unless_broken (record { at = at; change = c }) (broken_rule before at)

abbrev pub with_word : List (List ℕ) → List Failure → List Cell → Option Word → Result Failure FailuresWhy
with_word names before cells None = Err why.Word
with_word names before cells (Some w) = with_change before (whole_in (slice_get cells 0)) (option_map (change_of w) (server_in names (slice_get cells 2)))

abbrev pub failure_of : List (List ℕ) → List Failure → List Cell → Result Failure FailuresWhy
failure_of names before cells = with_word names before cells (word_in (slice_get cells 1))
