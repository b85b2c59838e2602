-- What holds of every step, in any state that keeps the rule and for any change to one of its servers, and of every run.
use Rattle.std.specs.Prelude.{◌≡◌, ℕ, ◌+◌, ◌<◌, ◌≤◌, ◌==◌, true, false, if◌then◌else◌, List, length, Option, Some, None, sum_by}
use Rattle.std.specs.List.{list_all}
use Rattle.plan_model.specs.Units.{is_for}
use Rattle.spare_pool.specs.declared.standings.Change.{Change}
use Rattle.spare_pool.specs.declared.standings.Change.TheVariants.{Fail, Repair}
use Rattle.spare_pool.specs.declared.standings.Outcome.{Outcome}
use Rattle.spare_pool.specs.declared.standings.Outcome.TheVariants.{Replaced, Short, Idle, Returned, Stale}
use Rattle.spare_pool.specs.States.{State, state_rule, units_of, value_of}
use Rattle.spare_pool.specs.Spares.{NoneIsEnough}
use Rattle.spare_pool.specs.Steps.{IsStep, IsRun, change_within}

-- the server of a change
abbrev pub changed : Change → ℕ
changed (Fail s) = s
changed (Repair s) = s

-- the reservation that lost a server
abbrev pub loser : Outcome → Option ℕ
loser (Replaced r by) = Some r
loser (Short r by missing) = Some r
loser Idle = None
loser Returned = None
loser Stale = None

-- a step keeps the rule of a state: each server serves at most one reservation, which has a value above 0 for its type
abbrev pub StepKeepsRule : Type 0
StepKeepsRule =
    (state after : State) (change : Change) (outcome : Outcome)
    → state_rule state ≡ true → change_within (length state.servers) change ≡ true → IsStep state change outcome after → state_rule after ≡ true

-- where a server was replaced, the reservation has at least the units that it had
abbrev pub ReplacedKeepsUnits : Type 0
ReplacedKeepsUnits =
    (state after : State) (change : Change) (r by : ℕ)
    → state_rule state ≡ true → change_within (length state.servers) change ≡ true → IsStep state change (Replaced r by) after → units_of state r ≤ units_of after r

-- where units are missing, the reservation has exactly so many less than it had, and no spare gave as much as the server that failed
abbrev pub ShortIsMissing : Type 0
ShortIsMissing =
    (state after : State) (change : Change) (r missing : ℕ) (by : Option ℕ)
    → state_rule state ≡ true → change_within (length state.servers) change ≡ true → IsStep state change (Short r by missing) after
    → (units_of after r + missing ≡ units_of state r) × (0 < missing) × NoneIsEnough state r (value_of state r (changed change))

-- no other reservation's units change
abbrev pub OthersKeepUnits : Type 0
OthersKeepUnits =
    (state after : State) (change : Change) (outcome : Outcome) (q : ℕ)
    → state_rule state ≡ true → change_within (length state.servers) change ≡ true → IsStep state change outcome after
    → is_for q (loser outcome) ≡ false → units_of after q ≡ units_of state q

-- each change has a step
abbrev pub StepIsThere : Type 0
StepIsThere = (state : State) (change : Change) → (outcome : Outcome) × ((after : State) × IsStep state change outcome after)

-- and only one
abbrev pub StepIsUnique : Type 0
StepIsUnique =
    (state after other : State) (change : Change) (outcome other_outcome : Outcome)
    → IsStep state change outcome after → IsStep state change other_outcome other → (outcome ≡ other_outcome) × (after ≡ other)

-- the units that are missing of a reservation after an outcome, and after all of a run
abbrev pub missing_after : ℕ → Outcome → ℕ
missing_after q (Short r by missing) = if r == q then missing else 0
missing_after q (Replaced r by) = 0
missing_after q Idle = 0
missing_after q Returned = 0
missing_after q Stale = 0

abbrev pub missing_in : ℕ → List Outcome → ℕ
missing_in q outcomes = sum_by (missing_after q) outcomes

-- over every list of changes the rule is kept, and a reservation has lost at most the units that were told to be missing
abbrev pub RunLaws : Type 0
RunLaws =
    (state after : State) (changes : List Change) (outcomes : List Outcome)
    → state_rule state ≡ true → list_all (change_within (length state.servers)) changes ≡ true → IsRun state changes outcomes after
    → (state_rule after ≡ true) × ((q : ℕ) → units_of state q ≤ units_of after q + missing_in q outcomes)

-- and every list of changes has a run
abbrev pub RunIsThere : Type 0
RunIsThere = (state : State) (changes : List Change) → (outcomes : List Outcome) × ((after : State) × IsRun state changes outcomes after)
