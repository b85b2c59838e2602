use Rattle.std.proofs.Common.{◌≡◌, ◌++◌, take}
use Rattle.std.specs.Prelude.{flat_map}
use Rattle.program_rows.specs.Sums.{reach_lines}
use Rattle.program_rows.proofs.lines.push_all_reach_rows.Given as goal

abbrev pub invariant-loop-reach : goal.invariant-loop-reach
invariant-loop-reach l = l.rows.items ≡ l.initial.rows.items ++ flat_map (reach_lines l.case l.classes l.columns) (take l.reach-index l.reaches)
