-- A run over the failures of a file.
use Rattle.std.specs.Prelude.{◌≡◌, ℕ, Bool, true, false, List, [], ◌∷◌, count_by}
use Rattle.spare_pool.specs.declared.standings.Outcome.{Outcome}
use Rattle.spare_pool.specs.declared.standings.Outcome.TheVariants.{Replaced, Short, Idle, Returned, Stale}
use Rattle.spare_pool.specs.declared.failure.Failure.{Failure}
use Rattle.spare_pool.specs.States.{State}
use Rattle.spare_pool.specs.Steps.{IsStep}

-- a step: its change and time, what it led to, and the state after it
pub record Told : Type 0 where
  pub failure : Failure
  pub outcome : Outcome
  pub after : State

-- the steps of a run from a state over failures, which leads to the state after
abbrev pub IsTold : State → List Failure → List Told → State → Type 0
IsTold state [] [] after = after ≡ state
IsTold state (failure ∷ failures) (step ∷ steps) after =
    (step.failure ≡ failure) × IsStep state failure.change step.outcome step.after × IsTold step.after failures steps after
IsTold state [] (step ∷ steps) after = ⊥
IsTold state (failure ∷ failures) [] after = ⊥

abbrev pub is_short : Outcome → Bool
is_short (Short r by missing) = true
is_short (Replaced r by) = false
is_short Idle = false
is_short Returned = false
is_short Stale = false

-- how many steps left a reservation short
abbrev pub shorts_of : List Told → ℕ
shorts_of steps = count_by (λ step. is_short step.outcome) steps
