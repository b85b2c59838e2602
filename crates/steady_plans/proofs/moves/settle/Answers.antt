use Rattle.std.proofs.Common.{arith, ap, sym, subst}
use Rattle.plan_model.specs.declared.cases.Assignment.{Assignment}
use Rattle.program_rows.specs.Settings.{setting_of}
use Rattle.program_rows.specs.Phases.{phase_cost}
use Rattle.steady_plans.specs.Steady.{IsSteady}
use Rattle.steady_plans.proofs.Starts.{phase-starts, phase-start_fits}
use Rattle.steady_plans.proofs.moves.settle.Goals as goal

pub settling-init : goal.settling-init
settling-init c = (c.in_ok-sums.ensures, c.requires.allowed, omega arith, c.in_ok-tried.ensures)

pub settle_each-requires-clause-start : goal.settle_each-requires-clause-start
settle_each-requires-clause-start c = phase-starts c.args.case.now c.args.phase.now c.requires.start

pub settle_each-requires-clause-fitting : goal.settle_each-requires-clause-fitting
settle_each-requires-clause-fitting c = phase-start_fits c.args.case.now c.args.phase.now c.requires.start

pub settling-preserved : goal.settling-preserved
settling-preserved c =
    let lower = c.settle_each.ensures.less c.settling-test.true in
    let before = c.settling.invariant.2 in
    (c.settle_each.ensures.sums, c.settle_each.ensures.allowed, omega (arith, lower, before), c.settle_each.ensures.room)

pub settling-smaller : goal.settling-smaller
settling-smaller c = c.settle_each.ensures.less c.settling-test.true

pub returns : goal.returns
returns c =
    let case = c.args.case.now in
    let setting = setting_of case c.args.phase.now in
    let ends = c.settle_each.ensures.steady c.settling-test.false in
    let before = c.settling.invariant.2 in
    let same = ap (λ (x : Assignment). phase_cost case setting x) ends.0 in
    record {
      steady = subst (λ (x : Assignment). IsSteady case setting x) (sym ends.0) ends.1;
      cost = omega (arith, same, before);
      unchanged = tt;
    }

pub none_tried-requires : goal.none_tried-requires
none_tried-requires c = phase-start_fits c.args.case.now c.args.phase.now c.requires.start
