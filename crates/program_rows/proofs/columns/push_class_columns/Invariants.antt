use Rattle.std.proofs.Common.{◌≡◌, ◌++◌, take, Some}
use Rattle.std.specs.Prelude.{map, filter, nat_lt}
use Rattle.plan_model.specs.Units.{value_for}
use Rattle.program_rows.specs.Programs.{count_column}
use Rattle.program_rows.proofs.columns.push_class_columns.Given as goal

abbrev pub invariant-loop-r : goal.invariant-loop-r
invariant-loop-r l =
    l.columns.items ≡ l.initial.columns.items
    ++ map (count_column l.case (l.number, l.class)) (map (λ r. Some r) (filter (λ r. nat_lt 0 (value_for l.case r l.class.kind)) (take l.r-index l.active)))
