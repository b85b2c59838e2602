-- The assignment that keeps what is bound.
use Rattle.std.specs.Prelude.{ℕ, ◌&&◌, nat_lt, if◌then◌else◌, map, Option, Some, None}
use Rattle.plan_model.specs.declared.cases.Holder.{Holder}
use Rattle.plan_model.specs.declared.cases.Holder.TheVariants.{Free, Held, Gone}
use Rattle.plan_model.specs.declared.cases.Place.{Place}
use Rattle.plan_model.specs.declared.cases.Case.{Case}
use Rattle.plan_model.specs.declared.cases.Assignment.{Assignment}
use Rattle.plan_model.specs.Units.{value_for}

-- an up server stays with the reservation that holds it, where its value for it is above 0
abbrev pub kept_by : Case → Place → Holder → Option ℕ
kept_by case s Free = None
kept_by case s (Held r) = if s.up && nat_lt 0 (value_for case r s.kind) then Some r else None
kept_by case s Gone = None

abbrev pub kept_at : Case → Place → Option ℕ
kept_at case s = kept_by case s s.holder

abbrev pub kept_plan : Case → Assignment
kept_plan case = record { of = map (kept_at case) case.places }
