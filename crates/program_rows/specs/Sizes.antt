-- The size of the program of a phase.
use Rattle.std.specs.Prelude.{ℕ, ◌≡◌, nat_lt, if◌then◌else◌, List, length, Option, Some, None}
use Rattle.plan_model.specs.declared.cases.Case.{Case}
use Rattle.plan_model.specs.declared.cases.Grouping.{Grouping}
use Rattle.symmetry_classes.specs.declared.groups.Class.{Class}
use Rattle.program_rows.specs.declared.fault.SizeFault.{SizeFault}
use Rattle.program_rows.specs.declared.fault.SizeFault.TheVariants.{Columns, Rows, Memory}
use Rattle.program_rows.specs.declared.phases.Phase.{Phase}
use Rattle.program_rows.specs.Settings.{Setting, setting_of, phase_classes}
use Rattle.program_rows.specs.Programs.{program_columns, program_lines}

-- the classes are those of the servers that the phase may move, for some grouping
abbrev pub IsGrouped : Case → Phase → List Class → Type 0
IsGrouped case phase classes = (how : Grouping) × (classes ≡ phase_classes case (setting_of case phase) how)

-- more than 2,048 columns, or else more than 2,048 rows
abbrev pub size_fault : ℕ → ℕ → Option SizeFault
size_fault columns rows = if nat_lt 2048 columns then Some (Columns columns) else (if nat_lt 2048 rows then Some (Rows rows) else None)

abbrev pub size_fault_of : Case → Setting → List Class → Option SizeFault
size_fault_of case setting classes = size_fault (length (program_columns case setting classes)) (length (program_lines case setting classes))

-- want of memory, or the fault of the size
abbrev pub IsFault : Option SizeFault → SizeFault → Type 0
IsFault sized Memory = Unit {0}
IsFault sized (Columns n) = sized ≡ Some (Columns n)
IsFault sized (Rows n) = sized ≡ Some (Rows n)
