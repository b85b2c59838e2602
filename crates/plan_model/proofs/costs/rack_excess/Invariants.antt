use Rattle.std.proofs.Common.{◌≡◌, ◌≤◌, ◌*◌, min}
use Rattle.std.specs.Prelude.{sum}
use Rattle.plan_model.specs.declared.levels.Level.TheVariants.{Rack}
use Rattle.plan_model.specs.Levels.{units_in_each}
use Rattle.plan_model.specs.Costs.{excess}
use Rattle.plan_model.proofs.costs.rack_excess.Given as goal

abbrev pub invariant-loop-block : goal.invariant-loop-block
invariant-loop-block l =
    (l.over ≡ excess l.want.rack_limit (units_in_each Rack l.case l.a l.r 0 (min (256 * l.block) l.case.racks)))
    × (l.over ≤ sum (units_in_each Rack l.case l.a l.r 0 (min (256 * l.block) l.case.racks)))
