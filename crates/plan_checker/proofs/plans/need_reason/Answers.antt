use Rattle.std.proofs.Common.{arith, sym, ◌∙◌, Some, None, ◌<◌, length}
use Rattle.plan_checker.proofs.Loops.{need-step, need-end}
use Rattle.plan_checker.proofs.plans.need_reason.Goals as goal

pub returns-in-Some : goal.returns-in-Some
returns-in-Some c =
    let within : c.loop-r.r < length c.args.case.now.wants = omega (arith, c.loop-r-test.true, c.len-r-end.ensures) in
    sym (need-step c.args.part c.args.case.now c.args.a.now c.loop-r.r (Some c.in-Some.lost) within (sym c.in-Some.is ∙ c.first_loss.ensures)) ∙ c.loop-r.invariant

pub loop-r-preserved : goal.loop-r-preserved
loop-r-preserved c =
    let within : c.loop-r.r < length c.args.case.now.wants = omega (arith, c.loop-r-test.true, c.len-r-end.ensures) in
    sym (need-step c.args.part c.args.case.now c.args.a.now c.loop-r.r None within (sym c.in_default.is ∙ c.first_loss.ensures)) ∙ c.loop-r.invariant

pub returns : goal.returns
returns c = sym (need-end c.args.part c.args.case.now c.args.a.now c.loop-r.r (omega (arith, c.loop-r-test.false, c.len-r-end.ensures))) ∙ c.loop-r.invariant
