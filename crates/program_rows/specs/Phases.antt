-- What the setting of a phase keeps, and which assignments a phase allows and at what cost.
use Rattle.std.specs.Prelude.{◌≡◌, ℕ, Bool, true, false, ◌&&◌, ◌+◌, ◌==◌, ◌<◌, ◌≤◌, if◌then◌else◌, length, sum_by, zip, IsTrue}
use Rattle.std.specs.List.{list_any, list_all}
use Rattle.plan_model.specs.declared.cases.Case.{Case}
use Rattle.plan_model.specs.declared.cases.Assignment.{Assignment}
use Rattle.plan_model.specs.Units.{servers_with_places}
use Rattle.plan_model.specs.Allowed.{serves, fits, keeps_need, region_allowed}
use Rattle.plan_model.specs.Costs.{region_cost, rack_excess}
use Rattle.plan_model.specs.Rack.{keeps_to_chosen}
use Rattle.program_rows.specs.declared.phases.Phase.{Phase}
use Rattle.program_rows.specs.declared.phases.Phase.TheVariants.{Region, Rack}
use Rattle.program_rows.specs.Settings.{Setting}

abbrev pub is_active : Setting → ℕ → Bool
is_active setting r = list_any (λ q. q == r) setting.active

-- each active reservation is there and stands once, and the start has one place for each server
pub record IsStart (case : Case) (setting : Setting) : Type 0 where
  pub there : (r : ℕ) → is_active setting r ≡ true → r < length case.wants
  pub once : (r : ℕ) → sum_by (λ q. if q == r then 1 else 0) setting.active ≤ 1
  pub fit : IsTrue (fits case setting.start)

-- each active reservation is there and stands once, and the start is an assignment that serves and keeps the needs of the others
pub record IsPhase (case : Case) (setting : Setting) : Type 0 where
  pub there : (r : ℕ) → is_active setting r ≡ true → r < length case.wants
  pub once : (r : ℕ) → sum_by (λ q. if q == r then 1 else 0) setting.active ≤ 1
  pub fit : IsTrue (fits case setting.start)
  pub serve : list_all (serves case) (servers_with_places case setting.start) ≡ true
  pub keep : (r : ℕ) → r < length case.wants → is_active setting r ≡ false → keeps_need case setting.start r ≡ true

-- region-allowed, each movable server has none or an active reservation, and each other server stays
abbrev pub phase_allowed : Case → Setting → Assignment → Bool
phase_allowed case setting a = region_allowed case a && list_all (keeps_to_chosen case setting.active) (zip (servers_with_places case setting.start) a.of)

-- the region cost, and where racks count the rack excess of each active reservation
abbrev pub phase_cost : Case → Setting → Assignment → ℕ
phase_cost case setting a = region_cost case a + (if setting.racks then sum_by (rack_excess case a) setting.active else 0)

-- in the rack phase, the region's assignment is allowed
abbrev pub start_allowed : Case → Phase → Bool
start_allowed case Region = true
start_allowed case (Rack from chosen) = region_allowed case from.now
