use Rattle.std.proofs.Common.{◌≡◌, ◌≤◌, ◌*◌, take}
use Rattle.std.specs.Prelude.{sum_by}
use Rattle.program_rows.specs.Sums.{reach_rows}
use Rattle.program_rows.proofs.sizes.all_reach_rows.Given as goal

abbrev pub invariant-loop-reach : goal.invariant-loop-reach
invariant-loop-reach l = (l.count ≡ sum_by (reach_rows l.case l.kind) (take l.reach-index l.reaches)) × (l.count ≤ 20000 * l.reach-index)
