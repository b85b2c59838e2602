-- The text of a run: the lines of its steps, then the totals.
use Rattle.std.specs.Prelude.{◌≡◌, ℕ, List, ◌++◌, length, flat_map, decimal}
use Rattle.spare_pool.specs.declared.failure.Failure.{Failure}
use Rattle.spare_pool.specs.States.{State}
use Rattle.spare_text.specs.Lines.{name_at, server_of, outcome_line, total_line}
use Rattle.spare_text.specs.Told.{Told, IsTold, shorts_of}

abbrev pub step_text : List (List ℕ) → List (List ℕ) → Told → List ℕ
step_text servers reservations step =
    outcome_line servers reservations (decimal step.failure.at) (name_at servers (server_of step.failure.change)) step.outcome

abbrev pub steps_text : List (List ℕ) → List (List ℕ) → List Told → List ℕ
steps_text servers reservations steps = flat_map (step_text servers reservations) steps

abbrev pub run_text : List (List ℕ) → List (List ℕ) → List Told → List ℕ
run_text servers reservations steps = steps_text servers reservations steps ++ total_line (length steps) (shorts_of steps)

-- the text of the run from a state over failures, by the names of servers and reservations
abbrev pub IsSpareText : List (List ℕ) → List (List ℕ) → State → List Failure → List ℕ → Type 0
IsSpareText servers reservations state failures text =
    (steps : List Told) × ((after : State) × (IsTold state failures steps after × (text ≡ run_text servers reservations steps)))

-- a text grew by the lines of a run, and the steps that left a reservation short were counted
abbrev pub TellsRun : List (List ℕ) → List (List ℕ) → State → List Failure → State → List ℕ → List ℕ → ℕ → Type 0
TellsRun servers reservations state failures after before text shorts =
    (steps : List Told) × (IsTold state failures steps after × (text ≡ before ++ steps_text servers reservations steps) × (shorts ≡ shorts_of steps))
