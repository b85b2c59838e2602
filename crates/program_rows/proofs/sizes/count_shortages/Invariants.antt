use Rattle.std.proofs.Common.{◌≡◌, ◌≤◌, take, length}
use Rattle.std.specs.Prelude.{filter, nat_lt, ◌&&◌}
use Rattle.std.specs.List.{enumerate_from}
use Rattle.program_rows.proofs.sizes.count_shortages.Given as goal

abbrev pub invariant-loop-goal : goal.invariant-loop-goal
invariant-loop-goal l = (l.count ≡ length (filter (λ e. nat_lt 0 e.1.weight && nat_lt 0 e.1.least) (enumerate_from 0 (take l.goal-index l.near)))) × (l.count ≤ l.goal-index)
