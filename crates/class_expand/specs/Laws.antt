-- Assignments and whole points cost the same on the way up, and no more on the way back.
use Rattle.std.specs.Prelude.{◌≡◌, ◌≤◌, true, List, ℕ}
use Rattle.plan_model.specs.declared.cases.Case.{Case}
use Rattle.plan_model.specs.declared.cases.Assignment.{Assignment}
use Rattle.plan_model.specs.declared.cases.Grouping.{Grouping}
use Rattle.ip_model.specs.declared.program.Program.{Program}
use Rattle.ip_model.specs.Points.{IsWholePoint, value_of}
use Rattle.ip_model.specs.Limits.{KeepsLimits}
use Rattle.program_rows.specs.Settings.{Setting, phase_classes}
use Rattle.program_rows.specs.Programs.{program_base, program_columns, program_lines, program_fits}
use Rattle.program_rows.specs.Phases.{IsPhase, IsStart, phase_allowed, phase_cost}
use Rattle.class_expand.specs.Lifting.{IsProgramOf, Expands, counts_of}

-- an allowed assignment's counts are a whole point of the program, and the point's value is the assignment's cost
abbrev pub AllowedIsWholePoint : Type 0
AllowedIsWholePoint =
    (case : Case) (setting : Setting) (how : Grouping) (program : Program) (a : Assignment) → IsPhase case setting → IsProgramOf case setting how program
    → phase_allowed case setting a ≡ true
    → IsWholePoint program (counts_of case setting how a) × (value_of program (counts_of case setting how a) ≡ phase_cost case setting a)

-- an assignment that gives each class a whole point's numbers is allowed, and costs at most the point's value
abbrev pub WholePointIsAllowed : Type 0
WholePointIsAllowed =
    (case : Case) (setting : Setting) (how : Grouping) (program : Program) (point : List ℕ) (a : Assignment) → IsPhase case setting → IsProgramOf case setting how program
    → IsWholePoint program point → Expands case setting how point a
    → (phase_allowed case setting a ≡ true) × (phase_cost case setting a ≤ value_of program point)

-- a phase's program that fits keeps the limits of programs
abbrev pub ProgramKeepsLimits : Type 0
ProgramKeepsLimits =
    (case : Case) (setting : Setting) (how : Grouping) → IsStart case setting → program_fits case setting (phase_classes case setting how) ≡ true
    → KeepsLimits (program_base case setting) (program_columns case setting (phase_classes case setting how)) (program_lines case setting (phase_classes case setting how))
