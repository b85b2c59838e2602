use Rattle.std.proofs.Common.{◌≡◌, take}
use Rattle.std.specs.Prelude.{map, zip}
use Rattle.plan_model.specs.Joined.{joined_place}
use Rattle.plan_model.proofs.joins.places_of.Given as goal

abbrev pub invariant-loop-i : goal.invariant-loop-i
invariant-loop-i l = l.places ≡ map (joined_place l.requests.list) (take l.i (zip l.server-items l.bound))
