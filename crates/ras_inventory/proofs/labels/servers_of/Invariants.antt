use Rattle.std.proofs.Common.{◌≡◌, take, map}
use Rattle.ras_inventory.specs.Regions.{server_of}
use Rattle.ras_inventory.proofs.labels.servers_of.Given as goal

abbrev pub invariant-loop-line : goal.invariant-loop-line
invariant-loop-line l = l.servers ≡ map (server_of l.lines) (take l.line-index l.lines)
