-- How many ways there are to set the count columns.
use Rattle.std.specs.Prelude.{ℕ, ◌+◌, ◌*◌, List, [], ◌∷◌, if◌then◌else◌}
use Rattle.ip_model.specs.declared.parts.Column.{Column}
use Rattle.ip_model.specs.Limits.{is_helper}

-- the product of top + 1 over the count columns: a tree of splits at these columns has at most so many leaves
abbrev pub choices_of : List Column → ℕ
choices_of [] = 1
choices_of (column ∷ columns) = if is_helper column.mark then choices_of columns else (column.top + 1) * choices_of columns
