use Rattle.std.proofs.Common.{◌≡◌, ◌+◌, drop, length}
use Rattle.ras_inventory.specs.RegionRule.{server_names}
use Rattle.ras_rounds.specs.Scripts.{script_from, script_in}
use Rattle.ras_rounds.proofs.script.script_in.Given as goal

abbrev pub invariant-loop-i : goal.invariant-loop-i
invariant-loop-i l =
    (script_from (server_names l.region.servers) (l.i + 1) l.entries (drop l.i l.records) ≡ script_in (server_names l.region.servers) l.records)
    × (length l.entries + 1 ≡ l.i)
