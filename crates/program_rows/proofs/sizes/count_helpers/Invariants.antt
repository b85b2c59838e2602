use Rattle.std.proofs.Common.{◌≡◌, ◌≤◌, ◌*◌, take, length}
use Rattle.std.specs.Prelude.{flat_map}
use Rattle.program_rows.specs.Reach.{reach_columns}
use Rattle.program_rows.proofs.sizes.count_helpers.Given as goal

abbrev pub invariant-loop-reach : goal.invariant-loop-reach
invariant-loop-reach l = (l.count ≡ length (flat_map (reach_columns l.case) (take l.reach-index l.reaches))) × (l.count ≤ 20100 * l.reach-index)
