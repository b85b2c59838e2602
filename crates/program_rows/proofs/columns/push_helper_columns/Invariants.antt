use Rattle.std.proofs.Common.{◌≡◌, ◌++◌, take}
use Rattle.std.specs.Prelude.{flat_map}
use Rattle.program_rows.specs.Reach.{reach_columns}
use Rattle.program_rows.proofs.columns.push_helper_columns.Given as goal

abbrev pub invariant-loop-reach : goal.invariant-loop-reach
invariant-loop-reach l = l.columns.items ≡ l.initial.columns.items ++ flat_map (reach_columns l.case) (take l.reach-index l.reaches)
