use Rattle.std.proofs.Common.{◌≡◌, ◌+◌, drop, length}
use Rattle.ras_inventory.specs.RegionRule.{server_names}
use Rattle.online_mover.specs.EventFiles.{events_from, events_in}
use Rattle.online_mover.proofs.events.events_in.Given as goal

abbrev pub invariant-loop-i : goal.invariant-loop-i
invariant-loop-i l =
    (events_from (server_names l.region.servers) (l.i + 1) l.events (drop l.i l.records) ≡ events_in (server_names l.region.servers) l.records)
    × (length l.events + 1 ≡ l.i)
