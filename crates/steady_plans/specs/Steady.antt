-- Assignments that no change of one server makes cheaper.
use Rattle.std.specs.Prelude.{◌≡◌, ◌≤◌, ◌<◌, ℕ, true, length, Option, None, slice_set, slice_index_or}
use Rattle.plan_model.specs.declared.cases.Case.{Case}
use Rattle.plan_model.specs.declared.cases.Assignment.{Assignment}
use Rattle.plan_model.specs.Units.{place_of}
use Rattle.program_rows.specs.Settings.{Setting}
use Rattle.program_rows.specs.Phases.{phase_allowed, phase_cost}

-- the assignment in which one server gets another place
abbrev pub replaced : Assignment → ℕ → Option ℕ → Assignment
replaced a s to = record { of = slice_set a.of s to }

-- no other place of that server that the phase allows makes the assignment cheaper
abbrev pub IsSettledAt : Case → Setting → Assignment → ℕ → Type 0
IsSettledAt case setting a s = (to : Option ℕ) → phase_allowed case setting (replaced a s to) ≡ true → phase_cost case setting a ≤ phase_cost case setting (replaced a s to)

-- the phase allows it, and no other place of one server makes it cheaper
pub record IsSteady (case : Case) (setting : Setting) (a : Assignment) : Type 0 where
  pub allowed : phase_allowed case setting a ≡ true
  pub settled : (s : ℕ) → s < length case.places → IsSettledAt case setting a s

-- two assignments that differ at one server at most
pub record DifferAtMostAt (case : Case) (a b : Assignment) (s : ℕ) : Type 0 where
  pub there : s < length case.places
  pub elsewhere : (t : ℕ) → t < length case.places → (t ≡ s → ⊥) → slice_index_or b.of t None ≡ slice_index_or a.of t None

-- a steady assignment costs at most what any allowed one costs that differs from it at one server
abbrev pub SteadyIsLeastNearby : Type 0
SteadyIsLeastNearby =
    (case : Case) (setting : Setting) (a b : Assignment) (s : ℕ) → IsSteady case setting a → DifferAtMostAt case a b s → phase_allowed case setting b ≡ true
    → phase_cost case setting a ≤ phase_cost case setting b

-- two servers that stand alike, and that start with and get the same
pub record AreAlike (case : Case) (setting : Setting) (a : Assignment) (s t : ℕ) : Type 0 where
  pub place : place_of case s ≡ place_of case t
  pub start : slice_index_or setting.start.of s None ≡ slice_index_or setting.start.of t None
  pub gets : slice_index_or a.of s None ≡ slice_index_or a.of t None
