-- The text of a run.
use Rattle.std.specs.Prelude.{◌≡◌, ℕ, List, true, length}
use Rattle.online_mover.specs.declared.timed.Timed.{Timed}
use Rattle.online_mover.specs.States.{State, state_rule}
use Rattle.move_text.specs.Texts.{IsMoveText, IsMoveTextTo}

-- from every state each list of events has a text
abbrev pub MoveTextIsThere : Type 0
MoveTextIsThere =
    (servers reservations : List (List ℕ)) (state : State) (events : List Timed)
    → (text : List ℕ) × IsMoveText servers reservations state events text

-- and only one
abbrev pub MoveTextIsUnique : Type 0
MoveTextIsUnique =
    (servers reservations : List (List ℕ)) (state : State) (events : List Timed) (text other : List ℕ)
    → IsMoveText servers reservations state events text → IsMoveText servers reservations state events other → text ≡ other

-- the run of a text leads to one state
abbrev pub MoveTextEndIsUnique : Type 0
MoveTextEndIsUnique =
    (servers reservations : List (List ℕ)) (state after other_after : State) (events : List Timed) (text other : List ℕ)
    → IsMoveTextTo servers reservations state events text after → IsMoveTextTo servers reservations state events other other_after
    → (text ≡ other) × (after ≡ other_after)

-- and it changes neither the case nor how many may be in flight nor how many servers there are, and keeps the rule of a state
abbrev pub MoveTextKeepsCase : Type 0
MoveTextKeepsCase =
    (servers reservations : List (List ℕ)) (state after : State) (events : List Timed) (text : List ℕ)
    → IsMoveTextTo servers reservations state events text after
    → (after.case ≡ state.case) × (after.at_once ≡ state.at_once) × (length after.servers ≡ length state.servers)
    × (state_rule state ≡ true → state_rule after ≡ true)
