use Rattle.std.proofs.Common.{◌≡◌, ◌+◌, arith, ap, take, ◌∙◌}
use Rattle.std.specs.Prelude.{sum}
use Rattle.plan_model.specs.declared.levels.Level.TheVariants.{Rack}
use Rattle.plan_model.specs.Costs.{excess}
use Rattle.plan_model.specs.Levels.{units_in_each}
use Rattle.plan_model.proofs.PartSums.{sum-units_in_each-le, sum-blocks}
use Rattle.plan_model.proofs.SumLemmas.{units-most}
use Rattle.plan_model.proofs.costs.excess_in_block.Goals as goal

pub excess_over-requires : goal.excess_over-requires
excess_over-requires c =
    let all : take c.min-count.result c.units_by_number-on.result ≡ units_in_each Rack c.args.case.now c.args.a.now c.args.r c.args.first c.min-count.result = c.units_by_number-on.ensures c.min-count.result (omega arith) in
    omega (arith, ap sum all, sum-blocks Rack c.args.case.now c.args.a.now c.args.r c.args.first c.min-count.result, sum-units_in_each-le Rack c.args.case.now c.args.a.now c.args.r (c.args.first + c.min-count.result), units-most c.args.case.now c.args.a.now c.args.r c.requires.fitting c.requires.in_range)

pub returns-clause-excess : goal.returns-clause-excess
returns-clause-excess c =
    let all : take c.min-count.result c.units_by_number-on.result ≡ units_in_each Rack c.args.case.now c.args.a.now c.args.r c.args.first c.min-count.result = c.units_by_number-on.ensures c.min-count.result (omega arith) in
    c.excess_over.ensures.excess ∙ ap (excess c.args.limit) all ∙ ap (λ n. excess c.args.limit (units_in_each Rack c.args.case.now c.args.a.now c.args.r c.args.first n)) c.min-count.ensures

pub returns-clause-within : goal.returns-clause-within
returns-clause-within c =
    let all : take c.min-count.result c.units_by_number-on.result ≡ units_in_each Rack c.args.case.now c.args.a.now c.args.r c.args.first c.min-count.result = c.units_by_number-on.ensures c.min-count.result (omega arith) in
    omega (arith, ap sum all, ap (λ n. sum (units_in_each Rack c.args.case.now c.args.a.now c.args.r c.args.first n)) c.min-count.ensures)
