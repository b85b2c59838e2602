-- A run over the events of a file, with the state after each step.
use Rattle.std.specs.Prelude.{◌≡◌, ℕ, Bool, true, false, List, [], ◌∷◌, length, sum_by, count_by}
use Rattle.online_mover.specs.declared.stands.Event.{Event}
use Rattle.online_mover.specs.declared.stands.Command.{Command}
use Rattle.online_mover.specs.declared.stands.Taken.{Taken as Outcome}
use Rattle.online_mover.specs.declared.stands.Taken.TheVariants as outcome
use Rattle.online_mover.specs.declared.timed.Timed.{Timed}
use Rattle.online_mover.specs.States.{State}
use Rattle.online_mover.specs.Steps.{IsStep}

-- a step: its event and time, what it answered, and the state after it
pub record Told : Type 0 where
  pub timed : Timed
  pub taken : Outcome
  pub commands : List Command
  pub after : State

-- the steps of a run from a state over events, which leads to the state after
abbrev pub IsTold : State → List Timed → List Told → State → Type 0
IsTold state [] [] after = after ≡ state
IsTold state (timed ∷ events) (step ∷ steps) after =
    (step.timed ≡ timed) × IsStep state timed.event step.taken step.commands step.after × IsTold step.after events steps after
IsTold state [] (step ∷ steps) after = ⊥
IsTold state (timed ∷ events) [] after = ⊥

-- how many commands the steps gave
abbrev pub commands_of : List Told → ℕ
commands_of steps = sum_by (λ step. length step.commands) steps

abbrev pub is_stale : Outcome → Bool
is_stale outcome.Taken = false
is_stale outcome.Stale = true

-- how many events were not lawful
abbrev pub stales_of : List Told → ℕ
stales_of steps = count_by (λ step. is_stale step.taken) steps
