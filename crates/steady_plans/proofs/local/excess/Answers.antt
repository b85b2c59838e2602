use Rattle.std.proofs.Common.{◌<◌, ◌-◌, arith}
use Rattle.plan_model.proofs.NumberLemmas.{sum_by-map-range_more}
use Rattle.steady_plans.specs.Tables.{cell}
use Rattle.steady_plans.proofs.local.excess.Goals as goal

pub loop-part-preserved : goal.loop-part-preserved
loop-part-preserved c =
    let more = sum_by-map-range_more (λ n. n - c.args.limit) (λ n. cell c.args.cells.now n c.args.r) c.loop-part.part in
    let within : c.loop-part.part < c.args.parts = c.loop-part-test.true in
    let small = c.requires.units c.loop-part.part within in (
      omega (arith, more, c.loop-part.invariant.0, c.units-here.ensures, c.saturating_sub-above.ensures, c.from.ensures),
      omega (arith, small, c.loop-part.invariant.1, c.units-here.ensures, c.saturating_sub-above.ensures, c.from.ensures),
    )
