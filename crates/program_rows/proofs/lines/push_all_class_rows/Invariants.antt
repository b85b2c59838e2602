use Rattle.std.proofs.Common.{◌≡◌, ◌++◌, take}
use Rattle.std.specs.Prelude.{flat_map}
use Rattle.std.specs.List.{enumerate_from}
use Rattle.program_rows.specs.Programs.{class_lines}
use Rattle.program_rows.proofs.lines.push_all_class_rows.Given as goal

abbrev pub invariant-loop-number : goal.invariant-loop-number
invariant-loop-number l = l.rows.items ≡ l.initial.rows.items ++ flat_map (class_lines l.columns) (enumerate_from 0 (take l.number l.classes))
