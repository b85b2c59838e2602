use Rattle.std.proofs.Common.{◌≤◌, arith, ap, length}
use Rattle.plan_model.proofs.PartSums.{few-once}
use Rattle.plan_model.proofs.CaseFacts.{few-wants}
use Rattle.plan_model.proofs.costs.rack_cost.Goals as goal

pub overflow_add-sum : goal.overflow_add-sum
overflow_add-sum c =
    let few : length c.args.chosen.now ≤ length c.args.case.now.wants = few-once (length c.args.case.now.wants) c.args.chosen.now (λ k d within. c.requires.chosen.there k d within) c.requires.chosen.once in
    omega (arith, few, few-wants c.args.case.now, ap length c.as_slice-r-items.ensures.items)

pub returns-clause-most : goal.returns-clause-most
returns-clause-most c =
    let few : length c.args.chosen.now ≤ length c.args.case.now.wants = few-once (length c.args.case.now.wants) c.args.chosen.now (λ k d within. c.requires.chosen.there k d within) c.requires.chosen.once in
    omega (arith, few, few-wants c.args.case.now, ap length c.as_slice-r-items.ensures.items)
