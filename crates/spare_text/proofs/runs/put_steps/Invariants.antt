use Rattle.std.proofs.Common.{◌≡◌, ◌≤◌, take, length}
use Rattle.ras_inventory.specs.RegionRule.{server_names}
use Rattle.ras_requests.specs.RequestsRule.{reservation_names}
use Rattle.spare_text.specs.Texts.{TellsRun}
use Rattle.spare_text.proofs.runs.put_steps.Given as goal

abbrev pub invariant-loop-failure : goal.invariant-loop-failure
invariant-loop-failure l =
    TellsRun (server_names l.region.servers) (reservation_names l.requests.list) l.initial.pool (take l.failure-index l.failure-items) l.pool
    l.initial.text.items l.text.items l.shorts
    × (length l.pool.servers ≡ length l.initial.pool.servers) × (l.shorts ≤ l.failure-index)
