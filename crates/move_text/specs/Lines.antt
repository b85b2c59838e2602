-- The lines of the text of a run.
use Rattle.std.specs.Prelude.{ℕ, List, [], ◌∷◌, ◌++◌, codes, decimal, slice_index_or, Option, Some, None}
use Rattle.plan_model.specs.declared.cases.Holder.{Holder}
use Rattle.plan_model.specs.declared.cases.Holder.TheVariants.{Held, Gone, Free as Nobody}
use Rattle.online_mover.specs.declared.stands.Stand.{Stand}
use Rattle.online_mover.specs.declared.stands.Stand.TheVariants as stand
use Rattle.online_mover.specs.declared.stands.Event.{Event}
use Rattle.online_mover.specs.declared.stands.Event.TheVariants as event
use Rattle.online_mover.specs.declared.stands.Command.{Command}
use Rattle.online_mover.specs.declared.stands.Command.TheVariants as command
use Rattle.online_mover.specs.declared.stands.Cause.{Cause}
use Rattle.online_mover.specs.declared.stands.Cause.TheVariants as cause
use Rattle.online_mover.specs.States.{State, server_of}

-- the name with this number, and no text where there is none
abbrev pub name_at : List (List ℕ) → ℕ → List ℕ
name_at names n = slice_index_or names n []

-- a field, and the byte that ends it
abbrev pub ended : List ℕ → ℕ → List ℕ
ended field end = field ++ end ∷ []

-- four fields between commas, and a line feed
abbrev pub line_of : List ℕ → List ℕ → List ℕ → List ℕ → List ℕ
line_of first second third fourth = ended first 44 ++ (ended second 44 ++ (ended third 44 ++ ended fourth 10))

-- a holder by its name, which is empty where the requests do not name it
abbrev pub holder_text : List (List ℕ) → Holder → List ℕ
holder_text reservations (Held r) = name_at reservations r
holder_text reservations Gone = []
holder_text reservations Nobody = []

-- the holder that a server drains from
abbrev pub drained_text : List (List ℕ) → Stand → List ℕ
drained_text reservations stand.Free = []
drained_text reservations (stand.Joining r) = []
drained_text reservations (stand.Bound q) = []
drained_text reservations (stand.Draining q) = holder_text reservations q

-- a command that was given at a time, in the state after it: a drain tells the holder that the server drains from, and
-- a bind the reservation that the server goes to
abbrev pub command_line : List (List ℕ) → List (List ℕ) → State → List ℕ → Command → List ℕ
command_line servers reservations state at (command.Drain s) =
    line_of at (codes "drain") (name_at servers s) (drained_text reservations (server_of state s).stand)
command_line servers reservations state at (command.Bind s r) = line_of at (codes "bind") (name_at servers s) (name_at reservations r)

-- an event by its word
abbrev pub event_text : Event → List ℕ
event_text event.Tick = codes "tick"
event_text (event.Drained s) = codes "drained"
event_text (event.Refused s) = codes "refused"
event_text (event.Joined s) = codes "joined"
event_text (event.JoinFailed s) = codes "join-failed"
event_text (event.Down s) = codes "down"
event_text (event.Up s) = codes "up"

-- the name of the server of an event, and no text where it has none
abbrev pub event_server : List (List ℕ) → Event → List ℕ
event_server servers event.Tick = []
event_server servers (event.Drained s) = name_at servers s
event_server servers (event.Refused s) = name_at servers s
event_server servers (event.Joined s) = name_at servers s
event_server servers (event.JoinFailed s) = name_at servers s
event_server servers (event.Down s) = name_at servers s
event_server servers (event.Up s) = name_at servers s

-- an event that was not lawful
abbrev pub stale_line : List (List ℕ) → List ℕ → Event → List ℕ
stale_line servers at e = line_of at (codes "stale") (event_server servers e) (event_text e)

-- a cause by its word
abbrev pub cause_text : Cause → List ℕ
cause_text cause.Down = codes "down"
cause_text cause.Waiting = codes "waiting"
cause_text cause.Full = codes "full"
cause_text (cause.Unsafe r) = codes "unsafe"
cause_text cause.Ready = codes "ready"

-- the reservation that a cause names, and no text where it names none
abbrev pub cause_reservation : List (List ℕ) → Cause → List ℕ
cause_reservation reservations cause.Down = []
cause_reservation reservations cause.Waiting = []
cause_reservation reservations cause.Full = []
cause_reservation reservations (cause.Unsafe r) = name_at reservations r
cause_reservation reservations cause.Ready = []

-- the cause that stands at a server at the end, and no line where there is none
abbrev pub end_line : List (List ℕ) → List (List ℕ) → ℕ → Option Cause → List ℕ
end_line servers reservations s None = []
end_line servers reservations s (Some c) = line_of (codes "end") (cause_text c) (name_at servers s) (cause_reservation reservations c)

-- how many commands were given, and how many events were not lawful
abbrev pub total_line : ℕ → ℕ → List ℕ
total_line commands stales = line_of (codes "end") (codes "total") (decimal commands) (decimal stales)
