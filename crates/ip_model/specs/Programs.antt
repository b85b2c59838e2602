-- The program with these parts, where they keep the rule.
use Rattle.std.specs.Prelude.{ℕ, ◌≡◌, Bool, true, false, List, Option, Some, None}
use mathlib.Core.Path.{refl}
use Rattle.ip_model.specs.declared.parts.Column.{Column}
use Rattle.ip_model.specs.declared.parts.Line.{Line}
use Rattle.ip_model.specs.declared.program.Program.{Program}
use Rattle.ip_model.specs.Rule.{program_rule}

abbrev pub program_if : (base : ℕ) (columns : List Column) (rows : List Line) (kept : Bool) → program_rule base columns rows ≡ kept → Option Program
program_if base columns rows true kept = Some (record { base = base; columns = columns; rows = rows; kept = kept })
program_if base columns rows false kept = None

abbrev pub program_from : ℕ → List Column → List Line → Option Program
program_from base columns rows = program_if base columns rows (program_rule base columns rows) refl
