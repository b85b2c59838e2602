-- The rounds of a script, and the events of each.
use Rattle.std.specs.Prelude.{ℕ, ◌-◌, ◌==◌, max, List, length, filter, map, slice_get}
use Rattle.std.specs.Option.{option_map_or}
use Rattle.online_mover.specs.declared.timed.Timed.{Timed}
use Rattle.ras_rounds.specs.declared.entries.Entry.{Entry}

-- the event of an entry, at the number of a round
abbrev pub at_round : ℕ → Entry → Timed
at_round number entry = record { at = number; event = entry.event }

-- the events of a round, in the order of the script
abbrev pub events_of : ℕ → List Entry → List Timed
events_of number entries = map (at_round number) (filter (λ entry. entry.round == number) entries)

-- How many rounds there are: the number of the last record, and one where there is no record. Rounds have numbers from 1.
abbrev pub rounds_of : List Entry → ℕ
rounds_of entries = option_map_or (λ last. max last.round 1) (slice_get entries (length entries - 1)) 1
