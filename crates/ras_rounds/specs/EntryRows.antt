-- The entry of a row of a script, and the first rule that the row breaks.
use Rattle.std.specs.Prelude.{ℕ, ◌-◌, ◌==◌, Bool, false, nat_le, nat_lt, if◌then◌else◌, List, [], ◌∷◌, length, codes, slice_get, Option, Some, None, Result, Ok, Err}
use Rattle.std.specs.Option.{option_map_or}
use Rattle.ras_table.specs.declared.rows.Kind.{Kind}
use Rattle.ras_table.specs.declared.rows.Kind.TheVariants as kind
use Rattle.ras_table.specs.declared.rows.Cell.{Cell}
use Rattle.online_mover.specs.declared.stands.Event.{Event}
use Rattle.ras_rounds.specs.declared.entries.Entry.{Entry}
use Rattle.online_mover.specs.EventRows.{whole_in, event_in}
use Rattle.online_mover.specs.declared.fault.EventsWhy.{EventsWhy}
use Rattle.online_mover.specs.declared.fault.EventsWhy.TheVariants as why

-- the first record of a script
abbrev pub heads : List (List ℕ)
heads = codes "round" ∷ codes "event" ∷ codes "server" ∷ []

-- there are at most 100 rounds
abbrev pub kinds : List Kind
kinds = kind.Whole 100 ∷ kind.Name ∷ kind.NameOrNone ∷ []

-- rounds begin at 1 and do not go back, and there are at most 100,000 entries
abbrev pub is_too_early : List Entry → ℕ → Bool
is_too_early before round = option_map_or (λ last. nat_lt round last.round) (slice_get before (length before - 1)) false

abbrev pub broken_rule : List Entry → ℕ → Option EventsWhy
broken_rule before round =
    if round == 0 then Some why.Order else if is_too_early before round then Some why.Order else if nat_le 100000 (length before) then Some why.Many else None

-- the entry of a row, or the first rule that it breaks
abbrev pub unless_broken : Entry → Option EventsWhy → Result Entry EventsWhy
unless_broken entry None = Ok entry
unless_broken entry (Some w) = Err w

abbrev pub with_event : List Entry → ℕ → Result Event EventsWhy → Result Entry EventsWhy
with_event before round (Ok e) = unless_broken (record { round = round; event = e }) (broken_rule before round)
with_event before round (Err w) = Err w

abbrev pub entry_of : List (List ℕ) → List Entry → List Cell → Result Entry EventsWhy
entry_of names before cells = with_event before (whole_in (slice_get cells 0)) (event_in names cells)
