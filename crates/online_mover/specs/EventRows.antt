-- The event of a row of a file of events, and the first rule that the row breaks.
use Rattle.std.specs.Prelude.{ℕ, ◌-◌, Bool, true, false, nat_le, nat_lt, if◌then◌else◌, List, [], ◌∷◌, length, codes, slice_get, Option, Some, None, Result, Ok, Err}
use Rattle.std.specs.Option.{option_map, option_map_or}
use Rattle.std.specs.Str.{bytes_eq}
use Rattle.ras_table.specs.Names.{number_of}
use Rattle.ras_table.specs.declared.rows.Kind.{Kind}
use Rattle.ras_table.specs.declared.rows.Kind.TheVariants as kind
use Rattle.ras_table.specs.declared.rows.Cell.{Cell}
use Rattle.ras_table.specs.declared.rows.Cell.TheVariants as cell
use Rattle.online_mover.specs.declared.stands.Event.{Event}
use Rattle.online_mover.specs.declared.stands.Event.TheVariants as event
use Rattle.online_mover.specs.declared.timed.Timed.{Timed}
use Rattle.online_mover.specs.declared.timed.Word.{Word}
use Rattle.online_mover.specs.declared.timed.Word.TheVariants as word
use Rattle.online_mover.specs.declared.fault.EventsWhy.{EventsWhy}
use Rattle.online_mover.specs.declared.fault.EventsWhy.TheVariants as why

-- the first record of a file of events
abbrev pub heads : List (List ℕ)
heads = codes "at" ∷ codes "event" ∷ codes "server" ∷ []

-- a time is at most 2^53
abbrev pub kinds : List Kind
kinds = kind.Whole 9007199254740992 ∷ kind.Name ∷ kind.NameOrNone ∷ []

-- the words of events
abbrev pub word_of : List ℕ → Option Word
word_of text =
    if bytes_eq text (codes "tick") then Some word.Tick
    else if bytes_eq text (codes "drained") then Some word.Drained
    else if bytes_eq text (codes "refused") then Some word.Refused
    else if bytes_eq text (codes "joined") then Some word.Joined
    else if bytes_eq text (codes "join-failed") then Some word.JoinFailed
    else if bytes_eq text (codes "down") then Some word.Down
    else if bytes_eq text (codes "up") then Some word.Up
    else None

-- what stands in a cell
abbrev pub word_in : Option Cell → Option Word
word_in None = None
word_in (Some (cell.Name name)) = word_of name
word_in (Some (cell.Whole n)) = None
word_in (Some (cell.Flag b)) = None
word_in (Some cell.Nothing) = None

abbrev pub whole_in : Option Cell → ℕ
whole_in None = 0
whole_in (Some (cell.Name name)) = 0
whole_in (Some (cell.Whole n)) = n
whole_in (Some (cell.Flag b)) = 0
whole_in (Some cell.Nothing) = 0

abbrev pub names_nothing : Option Cell → Bool
names_nothing None = false
names_nothing (Some (cell.Name name)) = false
names_nothing (Some (cell.Whole n)) = false
names_nothing (Some (cell.Flag b)) = false
names_nothing (Some cell.Nothing) = true

-- the server that a cell names, where the region has it
abbrev pub server_in : List (List ℕ) → Option Cell → Option ℕ
server_in names None = None
server_in names (Some (cell.Name name)) = number_of names name
server_in names (Some (cell.Whole n)) = None
server_in names (Some (cell.Flag b)) = None
server_in names (Some cell.Nothing) = None

-- the event of a word: a tick names no server, and every other event one of the region
abbrev pub event_of : List (List ℕ) → Word → Option Cell → Option Event
event_of names word.Tick c = if names_nothing c then Some event.Tick else None
event_of names word.Drained c = option_map event.Drained (server_in names c)
event_of names word.Refused c = option_map event.Refused (server_in names c)
event_of names word.Joined c = option_map event.Joined (server_in names c)
event_of names word.JoinFailed c = option_map event.JoinFailed (server_in names c)
event_of names word.Down c = option_map event.Down (server_in names c)
event_of names word.Up c = option_map event.Up (server_in names c)

-- the event of a row by its word and its server, or the first rule that they break
abbrev pub known : Option Event → Result Event EventsWhy
known None = Err why.Unknown
known (Some e) = Ok e

abbrev pub with_word : List (List ℕ) → Option Cell → Option Word → Result Event EventsWhy
with_word names server None = Err why.Word
with_word names server (Some w) = known (event_of names w server)

abbrev pub event_in : List (List ℕ) → List Cell → Result Event EventsWhy
event_in names cells = with_word names (slice_get cells 2) (word_in (slice_get cells 1))

-- times do not go back, and there are at most 100,000 events
abbrev pub is_too_early : List Timed → ℕ → Bool
is_too_early before at = option_map_or (λ last. nat_lt at last.at) (slice_get before (length before - 1)) false

abbrev pub broken_rule : List Timed → ℕ → Option EventsWhy
broken_rule before at = if is_too_early before at then Some why.Order else if nat_le 100000 (length before) then Some why.Many else None

-- the event of a row with its time, or the first rule that it breaks
abbrev pub unless_broken : Timed → Option EventsWhy → Result Timed EventsWhy
unless_broken timed None = Ok timed
unless_broken timed (Some w) = Err w

abbrev pub with_event : List Timed → ℕ → Result Event EventsWhy → Result Timed EventsWhy
with_event before at (Ok e) = unless_broken (record { at = at; event = e }) (broken_rule before at)
with_event before at (Err w) = Err w

abbrev pub timed_of : List (List ℕ) → List Timed → List Cell → Result Timed EventsWhy
timed_of names before cells = with_event before (whole_in (slice_get cells 0)) (event_in names cells)
