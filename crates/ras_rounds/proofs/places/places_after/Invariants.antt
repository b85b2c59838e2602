use Rattle.std.proofs.Common.{◌≡◌, take}
use Rattle.std.specs.Prelude.{map, zip}
use Rattle.ras_rounds.specs.Rounds.{placed_after}
use Rattle.ras_rounds.proofs.places.places_after.Given as goal

abbrev pub invariant-loop-server : goal.invariant-loop-server
invariant-loop-server l = l.items.items ≡ map placed_after (take l.server (zip l.places l.mover.servers))
