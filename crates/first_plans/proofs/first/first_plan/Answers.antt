use Rattle.std.proofs.Common.{◌≡◌, ◌-◌, ◌<◌, ap, arith, sym, subst, ◌∙◌, Some}
use Rattle.std.specs.Prelude.{length}
use Rattle.std.specs.List.{range_with_len}
use Rattle.plan_model.specs.declared.cases.Assignment.{Assignment}
use Rattle.plan_model.specs.Units.{all_reservations}
use Rattle.first_plans.specs.FirstPlan.{filled, filled_each}
use Rattle.first_plans.proofs.Fills.{IsLawful, kept-lawful, allowed-is, each-step, filled-is, kept-after}
use Rattle.first_plans.proofs.first.first_plan.Goals as goal

pub loop-r-init : goal.loop-r-init
loop-r-init c = record {
  rest =
      (let all : length c.args.case.now.wants - 0 ≡ length c.args.case.now.wants = omega arith in
      ap (λ n. filled_each c.args.case.now c.in_ok-a.a (range_with_len 0 n)) all
      ∙ ap (λ (a : Assignment). filled_each c.args.case.now a (all_reservations c.args.case.now)) c.in_ok-a.ensures);
  lawful = subst (λ (a : Assignment). IsLawful c.args.case.now a) (sym c.in_ok-a.ensures) (kept-lawful c.args.case.now);
  kept = λ q below. absurd (omega arith);
}

pub loop-r-preserved : goal.loop-r-preserved
loop-r-preserved c =
    let within : c.loop-r.r < length c.args.case.now.wants = omega arith in
    let here : Some c.fill.new.a ≡ filled c.args.case.now c.loop-r.r (length c.args.case.now.places) c.loop-r.a = c.if-not-fill.ensures.filled in
    let is = filled-is c.args.case.now c.loop-r.r (length c.args.case.now.places) c.loop-r.a c.fill.new.a within c.loop-r.invariant.lawful (sym here) in
    record {
      rest = each-step c.args.case.now c.loop-r.a c.fill.new.a c.loop-r.r _ within here c.loop-r.invariant.rest;
      lawful = is.lawful;
      kept = kept-after c.args.case.now c.loop-r.a c.fill.new.a c.loop-r.r is c.loop-r.invariant.kept;
    }

pub returns-clause-allowed : goal.returns-clause-allowed
returns-clause-allowed c = allowed-is c.args.case.now c.loop-r.a c.loop-r.invariant.lawful (λ q within. c.loop-r.invariant.kept q (omega arith))
