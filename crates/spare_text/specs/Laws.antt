-- The text of a run.
use Rattle.std.specs.Prelude.{◌≡◌, ℕ, List}
use Rattle.spare_pool.specs.declared.failure.Failure.{Failure}
use Rattle.spare_pool.specs.States.{State}
use Rattle.spare_text.specs.Texts.{IsSpareText}

-- from every state each list of failures has a text
abbrev pub SpareTextIsThere : Type 0
SpareTextIsThere =
    (servers reservations : List (List ℕ)) (state : State) (failures : List Failure)
    → (text : List ℕ) × IsSpareText servers reservations state failures text

-- and only one
abbrev pub SpareTextIsUnique : Type 0
SpareTextIsUnique =
    (servers reservations : List (List ℕ)) (state : State) (failures : List Failure) (text other : List ℕ)
    → IsSpareText servers reservations state failures text → IsSpareText servers reservations state failures other → text ≡ other
