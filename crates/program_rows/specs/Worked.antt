-- Programs of small regions, and reservations that are chosen there.
use Rattle.std.specs.Prelude.{◌≡◌, List, [], ◌∷◌, ◌++◌, map}
use Rattle.plan_model.specs.declared.cases.Case.{Case}
use Rattle.plan_model.specs.declared.cases.Grouping.{Grouping}
use Rattle.plan_model.specs.declared.cases.Grouping.TheVariants.{Single, Class}
use Rattle.plan_model.specs.Examples.{six, eight, two_racks}
use Rattle.ip_model.specs.declared.parts.RowKind.{RowKind}
use Rattle.ip_model.specs.declared.parts.RowKind.TheVariants.{ClassMost, ClassLeast, Total, Loss}
use Rattle.program_rows.specs.Settings.{region_setting, phase_classes}
use Rattle.program_rows.specs.Programs.{program_lines}
use Rattle.program_rows.specs.Choice.{chosen_of}

-- the kinds of the rows of the region phase
abbrev pub region_kinds : Case → Grouping → List RowKind
region_kinds case how = map (λ row. row.kind) (program_lines case (region_setting case) (phase_classes case (region_setting case) how))

abbrev pub SixServersSingle : Type 0
SixServersSingle =
    region_kinds six Single
    ≡ (ClassMost ∷ ClassLeast ∷ ClassMost ∷ ClassLeast ∷ ClassMost ∷ ClassLeast ∷ ClassMost ∷ ClassLeast ∷ ClassMost ∷ ClassLeast ∷ ClassMost ∷ ClassLeast ∷ [])
    ++ (Total ∷ Loss ∷ Loss ∷ Loss ∷ [])

abbrev pub SixServersInClasses : Type 0
SixServersInClasses = region_kinds six Class ≡ (ClassMost ∷ ClassLeast ∷ ClassMost ∷ ClassLeast ∷ ClassMost ∷ ClassLeast ∷ []) ++ (Total ∷ Loss ∷ Loss ∷ Loss ∷ [])

abbrev pub RacksChosen : Type 0
RacksChosen = chosen_of eight two_racks 4 ≡ 0 ∷ []
