use Rattle.std.proofs.Common.{◌≡◌, ◌+◌, drop, length}
use Rattle.ras_inventory.specs.RegionRule.{server_names}
use Rattle.spare_pool.specs.FailureFiles.{failures_from, failures_in}
use Rattle.spare_pool.proofs.failures.failures_in.Given as goal

abbrev pub invariant-loop-i : goal.invariant-loop-i
invariant-loop-i l =
    (failures_from (server_names l.region.servers) (l.i + 1) l.failures (drop l.i l.records) ≡ failures_in (server_names l.region.servers) l.records)
    × (length l.failures + 1 ≡ l.i)
