use Rattle.std.proofs.Common.{◌≡◌, ◌++◌, take}
use Rattle.std.specs.Prelude.{map, filter, nat_lt, ◌&&◌}
use Rattle.std.specs.List.{enumerate_from}
use Rattle.program_rows.specs.Sums.{short_line}
use Rattle.program_rows.proofs.lines.push_center_shorts.Given as goal

abbrev pub invariant-loop-entry : goal.invariant-loop-entry
invariant-loop-entry l =
    l.rows.items ≡ l.initial.rows.items
    ++ map (short_line l.case l.classes l.columns l.r) (filter (λ e. nat_lt 0 e.1.weight && nat_lt 0 e.1.least) (enumerate_from 0 (take l.entry l.near)))
