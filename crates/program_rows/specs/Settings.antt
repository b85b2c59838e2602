-- What a phase starts from.
use Rattle.std.specs.Prelude.{ℕ, Bool, true, false, ◌==◌, List, map, filter, Option, None, slice_index_or}
use Rattle.std.specs.List.{list_any}
use Rattle.plan_model.specs.declared.cases.Case.{Case}
use Rattle.plan_model.specs.declared.cases.Assignment.{Assignment}
use Rattle.plan_model.specs.declared.cases.Grouping.{Grouping}
use Rattle.plan_model.specs.Units.{servers_with_places, all_reservations, free_plan}
use Rattle.plan_model.specs.Allowed.{fits}
use Rattle.plan_model.specs.Rack.{is_movable}
use Rattle.symmetry_classes.specs.Groups.{flagged_servers, classes_of}
use Rattle.symmetry_classes.specs.declared.groups.Class.{Class}
use Rattle.program_rows.specs.declared.phases.Phase.{Phase}
use Rattle.program_rows.specs.declared.phases.Phase.TheVariants.{Region, Rack}

-- the assignment that servers which may not be moved keep, the active reservations in file order, and whether racks count
pub record Setting : Type 0 where
  pub start : Assignment
  pub active : List ℕ
  pub racks : Bool

-- the region phase starts from nothing, and every reservation is active
abbrev pub region_setting : Case → Setting
region_setting case = record { start = free_plan case; active = all_reservations case; racks = false }

-- the rack phase starts from the region's assignment, and the chosen reservations are active
abbrev pub rack_setting : Case → Assignment → List ℕ → Setting
rack_setting case region chosen =
    record { start = region; active = filter (λ r. list_any (λ q. q == r) chosen) (all_reservations case); racks = true }

abbrev pub setting_of : Case → Phase → Setting
setting_of case Region = region_setting case
setting_of case (Rack from chosen) = rack_setting case from.now chosen.now

-- which servers may be moved, and the numbers of these
abbrev pub movable_flags : Case → Setting → List Bool
movable_flags case setting = map (is_movable case setting.active) (servers_with_places case setting.start)

abbrev pub movable_servers : Case → Setting → List ℕ
movable_servers case setting = flagged_servers (movable_flags case setting)

abbrev pub phase_classes : Case → Setting → Grouping → List Class
phase_classes case setting how = classes_of how setting.racks case (movable_servers case setting)

-- in the rack phase, the region's assignment has one place for each server
abbrev pub start_fits : Case → Phase → Bool
start_fits case Region = true
start_fits case (Rack from chosen) = fits case from.now

-- whether a reservation that is there is active in a phase
abbrev pub makes_active : Phase → ℕ → Bool
makes_active Region r = true
makes_active (Rack from chosen) r = list_any (λ q. q == r) chosen.now

-- what a phase's start gives the server of that number
abbrev pub start_place : Phase → ℕ → Option ℕ
start_place Region s = None
start_place (Rack from chosen) s = slice_index_or from.now.of s None

-- whether racks count in a phase
abbrev pub racks_count : Phase → Bool
racks_count Region = false
racks_count (Rack from chosen) = true
