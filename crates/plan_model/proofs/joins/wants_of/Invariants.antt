use Rattle.std.proofs.Common.{◌≡◌, take}
use Rattle.std.specs.Prelude.{map}
use Rattle.plan_model.specs.Joined.{joined_want}
use Rattle.plan_model.proofs.joins.wants_of.Given as goal

abbrev pub invariant-loop-r : goal.invariant-loop-r
invariant-loop-r l = l.wants ≡ map (joined_want l.region.types l.region.centers) (take l.r-index l.r-items)
