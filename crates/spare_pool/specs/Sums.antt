-- The units of each reservation, kept beside the servers.
use Rattle.std.specs.Prelude.{◌≡◌, ℕ, ◌+◌, ◌-◌, ◌<◌, ◌≤◌, ◌^◌, List, length, slice_index, slice_set, Option, Some, None}
use Rattle.plan_model.specs.declared.cases.Case.{Case}
use Rattle.plan_model.specs.Units.{value_for, place_of}
use Rattle.spare_pool.specs.States.{State, units_of}

-- the numbers are the units that the servers give, added up from scratch
pub record AreUnits (state : State) (units : List ℕ) : Type 0 where
  pub long : length units ≡ length state.case.wants
  pub each : (r : ℕ) → r < length state.case.wants → slice_index units r ≡ units_of state r

-- the units when a server that counted for a reservation, or for none, counts no more
abbrev pub lessened : Case → ℕ → Option ℕ → List ℕ → List ℕ
lessened case s None units = units
lessened case s (Some r) units = slice_set units r (slice_index units r - value_for case r (place_of case s).kind)

-- and when a server that counted for none counts for a reservation, or for none
abbrev pub raised : Case → ℕ → Option ℕ → List ℕ → List ℕ
raised case s None units = units
raised case s (Some r) units = slice_set units r (slice_index units r + value_for case r (place_of case s).kind)

-- there are units to take away, and room to add some
abbrev pub HasUnits : Case → ℕ → Option ℕ → List ℕ → Type 0
HasUnits case s None units = Unit {0}
HasUnits case s (Some r) units =
    (r < length case.wants) × (r < length units) × (value_for case r (place_of case s).kind ≤ slice_index units r)

abbrev pub HasRoom : Case → Option ℕ → List ℕ → Type 0
HasRoom case None units = Unit {0}
HasRoom case (Some r) units = (r < length case.wants) × (r < length units) × (slice_index units r < 2 ^ 32)
