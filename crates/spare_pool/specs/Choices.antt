-- The better of the best spare so far and the first one of a type.
use Rattle.std.specs.Prelude.{ℕ, ◌==◌, ◌&&◌, ◌||◌, Bool, nat_lt, if◌then◌else◌, Option, Some, None}
use Rattle.plan_model.specs.declared.cases.Case.{Case}
use Rattle.plan_model.specs.Units.{value_for, place_of}

-- a value is less than another one, or the same and its server stands before the other one's
abbrev pub precedes : ℕ → ℕ → ℕ → ℕ → Bool
precedes value server other than = nat_lt value other || (value == other && nat_lt server than)

-- by the less value, and by the greater
abbrev pub less_of : Case → ℕ → ℕ → ℕ → Option ℕ → Option ℕ
less_of case r units first None = Some first
less_of case r units first (Some s) = if precedes units first (value_for case r (place_of case s).kind) s then Some first else Some s

abbrev pub more_of : Case → ℕ → ℕ → ℕ → Option ℕ → Option ℕ
more_of case r units first None = Some first
more_of case r units first (Some s) = if precedes (value_for case r (place_of case s).kind) first units s then Some first else Some s

-- the first spare of a type counts where it gives enough
abbrev pub lesser : Case → ℕ → ℕ → ℕ → Option ℕ → Option ℕ → Option ℕ
lesser case r least type best None = best
lesser case r least type best (Some first) = if nat_lt (value_for case r type) least then best else less_of case r (value_for case r type) first best

abbrev pub larger : Case → ℕ → ℕ → Option ℕ → Option ℕ → Option ℕ
larger case r type best None = best
larger case r type best (Some first) = if nat_lt (value_for case r type) 1 then best else more_of case r (value_for case r type) first best
