-- A step of the pool: what a change leads to.
use Rattle.std.specs.Prelude.{◌≡◌, ℕ, ◌-◌, Bool, true, false, nat_lt, List, [], ◌∷◌, Option, Some, None}
use Rattle.spare_pool.specs.declared.standings.Change.{Change}
use Rattle.spare_pool.specs.declared.standings.Change.TheVariants.{Fail, Repair}
use Rattle.spare_pool.specs.declared.standings.Outcome.{Outcome}
use Rattle.spare_pool.specs.declared.standings.Outcome.TheVariants.{Replaced, Short, Idle, Returned, Stale}
use Rattle.spare_pool.specs.States.{State, standing_of, with_standing, down, free, serving, value_of}
use Rattle.spare_pool.specs.Spares.{NoneIsEnough, IsLeast, IsGreatest}

-- A reservation has lost a server that gave it a value. Where a spare gives this value or more, the one of least value,
-- then the first in the file, serves the reservation. Else the spare of greatest value above 0, then the first in the file,
-- serves it where there is one, and the rest of the value is missing.
abbrev pub IsFilled : State → ℕ → ℕ → Outcome → State → Type 0
IsFilled state r value (Replaced q by) after = (q ≡ r) × IsLeast state r value by × (after ≡ with_standing state by (serving r))
IsFilled state r value (Short q (Some by) missing) after =
    (q ≡ r) × NoneIsEnough state r value × IsGreatest state r by × (missing ≡ value - value_of state r by) × (after ≡ with_standing state by (serving r))
IsFilled state r value (Short q None missing) after =
    (q ≡ r) × NoneIsEnough state r value × NoneIsEnough state r 1 × (missing ≡ value) × (after ≡ state)
IsFilled state r value Idle after = ⊥
IsFilled state r value Returned after = ⊥
IsFilled state r value Stale after = ⊥

-- a server that is up fails: it is down then, and serves none
abbrev pub IsLoss : State → ℕ → Option ℕ → Outcome → State → Type 0
IsLoss state s None outcome after = (outcome ≡ Idle) × (after ≡ with_standing state s down)
IsLoss state s (Some r) outcome after = IsFilled (with_standing state s down) r (value_of state r s) outcome after

-- a server that is down already, or up already, changes nothing
abbrev pub IsFail : State → ℕ → Bool → Outcome → State → Type 0
IsFail state s false outcome after = (outcome ≡ Stale) × (after ≡ state)
IsFail state s true outcome after = IsLoss state s (standing_of state s).serves outcome after

-- a server that is down is up then, and serves none
abbrev pub IsRepair : State → ℕ → Bool → Outcome → State → Type 0
IsRepair state s true outcome after = (outcome ≡ Stale) × (after ≡ state)
IsRepair state s false outcome after = (outcome ≡ Returned) × (after ≡ with_standing state s free)

abbrev pub IsStep : State → Change → Outcome → State → Type 0
IsStep state (Fail s) outcome after = IsFail state s (standing_of state s).up outcome after
IsStep state (Repair s) outcome after = IsRepair state s (standing_of state s).up outcome after

-- a run over a list of changes is the list of its steps
abbrev pub IsRun : State → List Change → List Outcome → State → Type 0
IsRun state [] [] after = after ≡ state
IsRun state (change ∷ changes) (outcome ∷ outcomes) after = (next : State) × (IsStep state change outcome next × IsRun next changes outcomes after)
IsRun state [] (outcome ∷ outcomes) after = ⊥
IsRun state (change ∷ changes) [] after = ⊥

-- the server of a change is below a number of servers
abbrev pub change_within : ℕ → Change → Bool
change_within servers (Fail s) = nat_lt s servers
change_within servers (Repair s) = nat_lt s servers
