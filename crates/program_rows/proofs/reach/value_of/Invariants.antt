use Rattle.std.proofs.Common.{◌≡◌, ◌≤◌, ◌*◌, take}
use Rattle.std.specs.Prelude.{sum_by}
use Rattle.plan_model.specs.Units.{place_of, value_for}
use Rattle.program_rows.proofs.reach.value_of.Given as goal

abbrev pub invariant-loop-server : goal.invariant-loop-server
invariant-loop-server l =
    (l.sum ≡ sum_by (λ s. value_for l.case l.r (place_of l.case s).kind) (take l.server-index l.servers)) × (l.sum ≤ 1000 * l.server-index)
