use Rattle.std.proofs.Common.{◌≡◌, map, take}
use Rattle.ras_inventory.specs.Bounds.{binding_for}
use Rattle.ras_inventory.proofs.bind.bindings_from.Given as goal

abbrev pub invariant-loop-server : goal.invariant-loop-server
invariant-loop-server l = l.list ≡ map (λ s. binding_for l.bounds.list s.name) (take l.server-index l.servers)
