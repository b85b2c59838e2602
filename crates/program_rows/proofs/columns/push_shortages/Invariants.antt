use Rattle.std.proofs.Common.{◌≡◌, ◌++◌, take}
use Rattle.std.specs.Prelude.{map, filter, nat_lt, ◌&&◌}
use Rattle.std.specs.List.{enumerate_from}
use Rattle.ip_model.specs.declared.parts.Mark.TheVariants.{Shortage}
use Rattle.program_rows.specs.Programs.{helper_column}
use Rattle.program_rows.proofs.columns.push_shortages.Given as goal

abbrev pub invariant-loop-entry : goal.invariant-loop-entry
invariant-loop-entry l =
    l.columns.items ≡ l.initial.columns.items
    ++ map (λ e. helper_column (Shortage l.r e.0) e.1.weight e.1.least)
    (filter (λ e. nat_lt 0 e.1.weight && nat_lt 0 e.1.least) (enumerate_from 0 (take l.entry l.near)))
