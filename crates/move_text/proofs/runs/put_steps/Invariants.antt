use Rattle.std.proofs.Common.{◌≡◌, ◌≤◌, ◌*◌, take, length}
use Rattle.ras_inventory.specs.RegionRule.{server_names}
use Rattle.ras_requests.specs.RequestsRule.{reservation_names}
use Rattle.move_text.specs.Texts.{TellsRun}
use Rattle.move_text.proofs.runs.put_steps.Given as goal

abbrev pub invariant-loop-timed : goal.invariant-loop-timed
invariant-loop-timed l =
    TellsRun (server_names l.region.servers) (reservation_names l.requests.list) l.initial.mover (take l.timed-index l.timed-items) l.mover
    l.initial.text.items l.text.items l.totals.commands l.totals.stales
    × (length l.mover.servers ≡ length l.initial.mover.servers) × (l.totals.commands ≤ 4294967295 * l.timed-index) × (l.totals.stales ≤ l.timed-index)
