-- The first spare of each type, kept beside the servers.
use Rattle.std.specs.Prelude.{◌≡◌, ℕ, ◌<◌, ◌≤◌, ◌==◌, ◌&&◌, Bool, true, List, length, slice_index_or, Option, Some, None}
use Rattle.plan_model.specs.Units.{place_of}
use Rattle.spare_pool.specs.States.{State, standing_of, is_spare}

-- a spare of a type
abbrev pub is_spare_of : State → ℕ → ℕ → Bool
is_spare_of state type s = is_spare (standing_of state s) && (place_of state.case s).kind == type

pub record IsSpareOf (state : State) (type s : ℕ) : Type 0 where
  pub spare : is_spare (standing_of state s) ≡ true
  pub kind : (place_of state.case s).kind ≡ type

-- the first spare of a type, and none where there is none
abbrev pub IsFirst : State → ℕ → Option ℕ → Type 0
IsFirst state type None = (s : ℕ) → IsSpareOf state type s → ⊥
IsFirst state type (Some first) = IsSpareOf state type first × ((s : ℕ) → IsSpareOf state type s → first ≤ s)

pub record AreFirsts (state : State) (firsts : List (Option ℕ)) : Type 0 where
  pub long : length firsts ≡ state.case.kinds
  pub each : (type : ℕ) → type < state.case.kinds → IsFirst state type (slice_index_or firsts type None)

-- the first spare of a type from a number on
abbrev pub IsFirstFrom : State → ℕ → ℕ → Option ℕ → Type 0
IsFirstFrom state type from None = (s : ℕ) → from ≤ s → IsSpareOf state type s → ⊥
IsFirstFrom state type from (Some first) = IsSpareOf state type first × ((s : ℕ) → from ≤ s → IsSpareOf state type s → first ≤ s)
