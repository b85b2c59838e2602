-- The region phase and the rack phase: assignments and whole points cost the same on the way up, and no more on the way back.
use Rattle.std.specs.Prelude.{◌≡◌, ◌≤◌, true, List, ℕ}
use Rattle.plan_model.specs.declared.cases.Case.{Case}
use Rattle.plan_model.specs.declared.cases.Assignment.{Assignment}
use Rattle.plan_model.specs.declared.cases.Grouping.{Grouping}
use Rattle.plan_model.specs.Allowed.{region_allowed}
use Rattle.plan_model.specs.Costs.{region_cost, rack_cost}
use Rattle.plan_model.specs.Rack.{rack_allowed}
pub use Rattle.plan_model.specs.Chosen.{AreChosen}
use Rattle.ip_model.specs.declared.program.Program.{Program}
use Rattle.ip_model.specs.Points.{IsWholePoint, value_of}
use Rattle.program_rows.specs.Settings.{region_setting, rack_setting}
use Rattle.program_rows.specs.Choice.{chosen_of}
use Rattle.class_expand.specs.Lifting.{IsProgramOf, Expands, counts_of}

abbrev pub RegionAllowedIsWholePoint : Type 0
RegionAllowedIsWholePoint =
    (case : Case) (how : Grouping) (program : Program) (a : Assignment) → IsProgramOf case (region_setting case) how program → region_allowed case a ≡ true
    → IsWholePoint program (counts_of case (region_setting case) how a)
    × (value_of program (counts_of case (region_setting case) how a) ≡ region_cost case a)

abbrev pub RegionWholePointIsAllowed : Type 0
RegionWholePointIsAllowed =
    (case : Case) (how : Grouping) (program : Program) (point : List ℕ) (a : Assignment) → IsProgramOf case (region_setting case) how program
    → IsWholePoint program point → Expands case (region_setting case) how point a
    → (region_allowed case a ≡ true) × (region_cost case a ≤ value_of program point)

abbrev pub RackAllowedIsWholePoint : Type 0
RackAllowedIsWholePoint =
    (case : Case) (region : Assignment) (chosen : List ℕ) (how : Grouping) (program : Program) (a : Assignment) → region_allowed case region ≡ true → AreChosen case chosen
    → IsProgramOf case (rack_setting case region chosen) how program → rack_allowed case region chosen a ≡ true
    → IsWholePoint program (counts_of case (rack_setting case region chosen) how a)
    × (value_of program (counts_of case (rack_setting case region chosen) how a) ≡ rack_cost case a chosen)

abbrev pub RackWholePointIsAllowed : Type 0
RackWholePointIsAllowed =
    (case : Case) (region : Assignment) (chosen : List ℕ) (how : Grouping) (program : Program) (point : List ℕ) (a : Assignment) → region_allowed case region ≡ true → AreChosen case chosen
    → IsProgramOf case (rack_setting case region chosen) how program → IsWholePoint program point → Expands case (rack_setting case region chosen) how point a
    → (rack_allowed case region chosen a ≡ true) × (rack_cost case a chosen ≤ value_of program point)

-- the reservations that are chosen are there, each at most once
abbrev pub ChosenAreThere : Type 0
ChosenAreThere = (case : Case) (region : Assignment) (most : ℕ) → AreChosen case (chosen_of case region most)
