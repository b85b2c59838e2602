-- The text of a run: the lines of its steps, then the causes that stand at the end, then the totals.
use Rattle.std.specs.Prelude.{◌≡◌, ℕ, List, ◌++◌, length, flat_map, decimal}
use Rattle.std.specs.List.{range_with_len}
use Rattle.online_mover.specs.declared.stands.Taken.{Taken as Outcome}
use Rattle.online_mover.specs.declared.stands.Taken.TheVariants as outcome
use Rattle.online_mover.specs.declared.timed.Timed.{Timed}
use Rattle.online_mover.specs.States.{State}
use Rattle.online_mover.specs.Causes.{cause_of}
use Rattle.move_text.specs.Lines.{command_line, stale_line, end_line, total_line}
use Rattle.move_text.specs.Told.{Told, IsTold, commands_of, stales_of}

-- the lines of a step: an event that was not lawful, or else its commands
abbrev pub lines_by : List (List ℕ) → List (List ℕ) → Outcome → Told → List ℕ
lines_by servers reservations outcome.Stale step = stale_line servers (decimal step.timed.at) step.timed.event
lines_by servers reservations outcome.Taken step = flat_map (command_line servers reservations step.after (decimal step.timed.at)) step.commands

abbrev pub step_text : List (List ℕ) → List (List ℕ) → Told → List ℕ
step_text servers reservations step = lines_by servers reservations step.taken step

abbrev pub steps_text : List (List ℕ) → List (List ℕ) → List Told → List ℕ
steps_text servers reservations steps = flat_map (step_text servers reservations) steps

-- the causes that stand in a state
abbrev pub ends_text : List (List ℕ) → List (List ℕ) → State → List ℕ
ends_text servers reservations state = flat_map (λ s. end_line servers reservations s (cause_of state s)) (range_with_len 0 (length state.servers))

abbrev pub run_text : List (List ℕ) → List (List ℕ) → List Told → State → List ℕ
run_text servers reservations steps after =
    steps_text servers reservations steps ++ (ends_text servers reservations after ++ total_line (commands_of steps) (stales_of steps))

-- the text of the run from a state over events to the state after, by the names of servers and reservations
abbrev pub IsMoveTextTo : List (List ℕ) → List (List ℕ) → State → List Timed → List ℕ → State → Type 0
IsMoveTextTo servers reservations state events text after =
    (steps : List Told) × (IsTold state events steps after × (text ≡ run_text servers reservations steps after))

-- and wherever the run leads to
abbrev pub IsMoveText : List (List ℕ) → List (List ℕ) → State → List Timed → List ℕ → Type 0
IsMoveText servers reservations state events text = (after : State) × IsMoveTextTo servers reservations state events text after

-- a text grew by the lines of a run, and its commands and stale events were counted
abbrev pub TellsRun : List (List ℕ) → List (List ℕ) → State → List Timed → State → List ℕ → List ℕ → ℕ → ℕ → Type 0
TellsRun servers reservations state events after before text commands stales =
    (steps : List Told) × (IsTold state events steps after × (text ≡ before ++ steps_text servers reservations steps) × (commands ≡ commands_of steps) × (stales ≡ stales_of steps))
