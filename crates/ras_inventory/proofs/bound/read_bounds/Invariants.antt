use Rattle.std.proofs.Common.{◌≡◌, ◌+◌, drop, length, map}
use Rattle.ras_inventory.specs.RegionRule.{server_names}
use Rattle.ras_inventory.specs.Bounds.{bounds_from, bounds_of}
use Rattle.ras_inventory.proofs.bound.read_bounds.Given as goal

abbrev pub invariant-loop-i : goal.invariant-loop-i
invariant-loop-i l =
    (bounds_from (server_names l.region.servers) (l.i + 1) l.list (drop l.i l.records) ≡ bounds_of (server_names l.region.servers) l.records) × (l.names ≡ map (λ b. b.server) l.list) × (length l.list + 1 ≡ l.i)
