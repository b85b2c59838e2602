use Rattle.std.proofs.Common.{◌≡◌, ◌++◌, take}
use Rattle.std.specs.Prelude.{flat_map}
use Rattle.std.specs.List.{enumerate_from}
use Rattle.program_rows.specs.Reach.{columns_of_class}
use Rattle.program_rows.proofs.columns.push_count_columns.Given as goal

abbrev pub invariant-loop-number : goal.invariant-loop-number
invariant-loop-number l =
    l.columns.items ≡ l.initial.columns.items ++ flat_map (columns_of_class l.case l.active) (enumerate_from 0 (take l.number l.classes))
