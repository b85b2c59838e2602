use Rattle.std.proofs.Common.{arith}
use Rattle.exact_simplex.proofs.StepFacts.{value_at_end, value_at_next, value_at_stuck, value_end, value_fits_end, value_start}
use Rattle.exact_simplex.proofs.other_box.value_after.Goals as goal

pub loop-shift-init : goal.loop-shift-init
loop-shift-init c = value_start c.args.place c.args.row.now c.args.shifts.now c.cell-value.result c.cell-value.ensures

pub loop-shift-preserved : goal.loop-shift-preserved
loop-shift-preserved c = value_at_next c.args.place c.args.row.now c.args.shifts.now c.loop-shift.shift-index _ c.loop-shift.value c.in-Some.new c.loop-shift-test.true c.requires.units c.loop-shift.invariant c.in-Some.ensures.value c.in-Some.ensures.fits

pub returns-clause-value : goal.returns-clause-value
returns-clause-value c =
    let past = c.loop-shift-test.false in
    let within = c.loop-shift.auto.shift-index-end in
    value_end c.args.place c.args.row.now c.args.shifts.now c.loop-shift.value (value_at_end c.args.place c.args.row.now c.args.shifts.now c.loop-shift.shift-index c.loop-shift.value (omega arith) c.loop-shift.invariant)

pub returns-clause-fits : goal.returns-clause-fits
returns-clause-fits c =
    let past = c.loop-shift-test.false in
    let within = c.loop-shift.auto.shift-index-end in
    value_fits_end c.args.place c.args.row.now c.args.shifts.now c.loop-shift.value (value_at_end c.args.place c.args.row.now c.args.shifts.now c.loop-shift.shift-index c.loop-shift.value (omega arith) c.loop-shift.invariant)

pub returns-in_default-clause-none : goal.returns-in_default-clause-none
returns-in_default-clause-none c = value_at_stuck c.args.place c.args.row.now c.args.shifts.now c.loop-shift.shift-index _ c.loop-shift.value c.loop-shift-test.true c.loop-shift.invariant (rw c.in_default.is at c.step.ensures.none)
