use Rattle.std.proofs.Common.{◌≡◌, arith, ap, length, None, true}
use Rattle.std.specs.List.{list_all}
use Rattle.plan_model.specs.CaseRule.{goal_in_range}
use Rattle.plan_model.proofs.CaseFacts.{list_all-at}
use Rattle.steady_plans.proofs.local.shortages.Goals as goal

pub shortage-sum-requires-clause-goal : goal.shortage-sum-requires-clause-goal
shortage-sum-requires-clause-goal c =
    let near : list_all (goal_in_range c.args.case.now.centers) c.as_slice-goal-items.result.now ≡ true = rw c.as_slice-goal-items.ensures.items c.want_at-want.ensures.near in
    list_all-at (goal_in_range c.args.case.now.centers) c.as_slice-goal-items.result.now c.loop-goal.goal-index (record { center = None; least = 0; weight = 0 }) c.loop-goal-test.true near

pub overflow_add-sum : goal.overflow_add-sum
overflow_add-sum c =
    omega (arith, ap length c.as_slice-goal-items.ensures.items, c.want_at-want.ensures.limits.near)

pub returns-clause-most : goal.returns-clause-most
returns-clause-most c =
    omega (arith, ap length c.as_slice-goal-items.ensures.items, c.want_at-want.ensures.limits.near)
