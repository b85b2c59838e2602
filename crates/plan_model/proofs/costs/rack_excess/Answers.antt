use Rattle.std.proofs.Common.{◌≤◌, ◌<◌, ◌*◌, ◌+◌, min, arith}
use Rattle.std.specs.Int.{div_ceil}
use Rattle.plan_model.specs.declared.levels.Level.TheVariants.{Rack}
use Rattle.plan_model.proofs.PartSums.{block-below, block-step, sum-units_in_each-le}
use Rattle.plan_model.proofs.SumLemmas.{units-most}
use Rattle.plan_model.proofs.NumberLemmas.{mul-le-bounds}
use Rattle.plan_model.proofs.costs.rack_excess.Goals as goal
use Rattle.plan_model.proofs.costs.rack_excess.Goals.{After-excess_in_block-over}

low : (c : After-excess_in_block-over) → 256 * c.loop-block.block ≤ c.args.case.now.racks
low c = block-below c.args.case.now.racks c.loop-block.block (let within : c.loop-block.block < div_ceil c.args.case.now.racks 256 = omega arith in within)

pub overflow_add-over : goal.overflow_add-over
overflow_add-over c =
    let step = block-step c.want_at-want.result.now.rack_limit Rack c.args.case.now c.args.a.now c.args.r c.args.case.now.racks c.loop-block.block c.loop-block.over c.excess_in_block-over.result (low c) c.loop-block.invariant.0 c.loop-block.invariant.1 c.excess_in_block-over.ensures.excess c.excess_in_block-over.ensures.within in
    omega (arith, step.1, sum-units_in_each-le Rack c.args.case.now c.args.a.now c.args.r (min (256 * (c.loop-block.block + 1)) c.args.case.now.racks), units-most c.args.case.now c.args.a.now c.args.r c.requires.fitting c.requires.in_range)

pub loop-block-preserved : goal.loop-block-preserved
loop-block-preserved c = block-step c.want_at-want.result.now.rack_limit Rack c.args.case.now c.args.a.now c.args.r c.args.case.now.racks c.loop-block.block c.loop-block.over c.excess_in_block-over.result (low c) c.loop-block.invariant.0 c.loop-block.invariant.1 c.excess_in_block-over.ensures.excess c.excess_in_block-over.ensures.within

pub overflow_mul-result : goal.overflow_mul-result
overflow_mul-result c =
    let few : c.loop-block.over ≤ 20000000 = omega (arith, c.loop-block.invariant.1, sum-units_in_each-le Rack c.args.case.now c.args.a.now c.args.r (min (256 * c.loop-block.block) c.args.case.now.racks), units-most c.args.case.now c.args.a.now c.args.r c.requires.fitting c.requires.in_range) in
    let bound : c.from.result * c.loop-block.over ≤ 10000 * 20000000 = mul-le-bounds c.from.result c.loop-block.over 10000 20000000 (omega (arith, c.want_at-want.ensures.limits.rack_weight)) few in
    omega arith

pub returns-clause-most : goal.returns-clause-most
returns-clause-most c =
    let few : c.loop-block.over ≤ 20000000 = omega (arith, c.loop-block.invariant.1, sum-units_in_each-le Rack c.args.case.now c.args.a.now c.args.r (min (256 * c.loop-block.block) c.args.case.now.racks), units-most c.args.case.now c.args.a.now c.args.r c.requires.fitting c.requires.in_range) in
    let bound : c.from.result * c.loop-block.over ≤ 10000 * 20000000 = mul-le-bounds c.from.result c.loop-block.over 10000 20000000 (omega (arith, c.want_at-want.ensures.limits.rack_weight)) few in
    omega arith
