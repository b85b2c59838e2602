-- How the members of classes are handed out by a point of the program.
use Rattle.std.specs.Prelude.{ℕ, ◌≡◌, ◌<◌, ◌==◌, if◌then◌else◌, List, [], ◌∷◌, ◌++◌, All, length, replicate, Option, Some, None, slice_get, slice_set}
use Rattle.plan_model.specs.declared.cases.Case.{Case}
use Rattle.ip_model.specs.declared.parts.Mark.{Mark}
use Rattle.ip_model.specs.declared.parts.Mark.TheVariants.{Count}
use Rattle.ip_model.specs.declared.parts.Column.{Column}
use Rattle.ip_model.specs.declared.program.Program.{Program}
use Rattle.symmetry_classes.specs.declared.groups.Class.{Class}
use Rattle.program_rows.specs.Settings.{Setting}
use Rattle.program_rows.specs.Programs.{program_base, program_columns, program_lines}

-- the program of a phase over these classes
pub record IsProgramFor (case : Case) (setting : Setting) (classes : List Class) (program : Program) : Type 0 where
  pub base : program.base ≡ program_base case setting
  pub columns : program.columns ≡ program_columns case setting classes
  pub rows : program.rows ≡ program_lines case setting classes

-- the members get these reservations or none, in order
abbrev pub put_all : List (Option ℕ) → List ℕ → List (Option ℕ) → List (Option ℕ)
put_all of [] tos = of
put_all of (m ∷ ms) [] = of
put_all of (m ∷ ms) (to ∷ tos) = put_all (slice_set of m to) ms tos

-- how many members of a class a column gives out, and where they go
abbrev pub given_by : ℕ → Mark → ℕ → ℕ
given_by class (Count c to) n = if c == class then n else 0
given_by class _ n = 0

abbrev pub goes_to : Mark → Option ℕ
goes_to (Count c to) = to
goes_to _ = None

-- where the members of a class go, column by column
abbrev pub dealt : ℕ → List Column → List ℕ → List (Option ℕ)
dealt class [] ns = []
dealt class (c ∷ cs) [] = []
dealt class (c ∷ cs) (n ∷ ns) = replicate (given_by class c.mark n) (goes_to c.mark) ++ dealt class cs ns

-- the members of one class are handed out
abbrev pub deal : List Column → List ℕ → List (Option ℕ) → ℕ × Class → List (Option ℕ)
deal columns point of e = put_all of e.1.members (dealt e.0 columns point)

-- the point gives out as many members of the class as there are, and each is a server
pub record IsDealt (columns : List Column) (point : List ℕ) (servers number : ℕ) (class : Class) : Type 0 where
  pub within : All (λ s. s < servers) class.members
  pub whole : length (dealt number columns point) ≡ length class.members

abbrev pub AreDealt : List Column → List ℕ → ℕ → List Class → Type 0
AreDealt columns point servers classes = (number : ℕ) (class : Class) → slice_get classes number ≡ Some class → IsDealt columns point servers number class
