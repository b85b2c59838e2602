-- Which spare takes the place of a server that failed.
use Rattle.std.specs.Prelude.{◌≡◌, ℕ, ◌<◌, ◌≤◌, ◌⊎◌, true, Option, Some, None}
use Rattle.plan_model.specs.Units.{place_of}
use Rattle.spare_pool.specs.States.{State, standing_of, is_spare, value_of}

-- a spare that gives the reservation this value or more
pub record IsEnough (state : State) (r least s : ℕ) : Type 0 where
  pub spare : is_spare (standing_of state s) ≡ true
  pub value : least ≤ value_of state r s

abbrev pub NoneIsEnough : State → ℕ → ℕ → Type 0
NoneIsEnough state r least = (s : ℕ) → IsEnough state r least s → ⊥

-- a server gives less than another one, or the same and does not stand behind it in the file
abbrev pub LessOrFirst : State → ℕ → ℕ → ℕ → Type 0
LessOrFirst state r s t = (value_of state r s < value_of state r t) ⊎ ((value_of state r s ≡ value_of state r t) × (s ≤ t))

-- a server gives more than another one, or the same and does not stand behind it in the file
abbrev pub MoreOrFirst : State → ℕ → ℕ → ℕ → Type 0
MoreOrFirst state r s t = (value_of state r t < value_of state r s) ⊎ ((value_of state r s ≡ value_of state r t) × (s ≤ t))

-- of the spares that give this value or more, the one of least value, then the first in the file
pub record IsLeast (state : State) (r least s : ℕ) : Type 0 where
  pub enough : IsEnough state r least s
  pub first : (t : ℕ) → IsEnough state r least t → LessOrFirst state r s t

-- of the spares that give a value above 0, the one of greatest value, then the first in the file
pub record IsGreatest (state : State) (r s : ℕ) : Type 0 where
  pub some : IsEnough state r 1 s
  pub first : (t : ℕ) → IsEnough state r 1 t → MoreOrFirst state r s t

-- the spare that is found, or that there is none
abbrev pub FindsLeast : State → ℕ → ℕ → Option ℕ → Type 0
FindsLeast state r least None = NoneIsEnough state r least
FindsLeast state r least (Some s) = IsLeast state r least s

abbrev pub FindsGreatest : State → ℕ → Option ℕ → Type 0
FindsGreatest state r None = NoneIsEnough state r 1
FindsGreatest state r (Some s) = IsGreatest state r s

-- the same among the spares whose type has a number below this
abbrev pub IsLeastAmong : State → ℕ → ℕ → ℕ → Option ℕ → Type 0
IsLeastAmong state r least kinds None = (t : ℕ) → (place_of state.case t).kind < kinds → IsEnough state r least t → ⊥
IsLeastAmong state r least kinds (Some s) =
    IsEnough state r least s × ((t : ℕ) → (place_of state.case t).kind < kinds → IsEnough state r least t → LessOrFirst state r s t)

abbrev pub IsGreatestAmong : State → ℕ → ℕ → Option ℕ → Type 0
IsGreatestAmong state r kinds None = (t : ℕ) → (place_of state.case t).kind < kinds → IsEnough state r 1 t → ⊥
IsGreatestAmong state r kinds (Some s) =
    IsEnough state r 1 s × ((t : ℕ) → (place_of state.case t).kind < kinds → IsEnough state r 1 t → MoreOrFirst state r s t)
