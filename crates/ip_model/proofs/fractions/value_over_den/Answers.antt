use Rattle.std.proofs.Common.{arith, ◌*◌, Option, Some, None}
use Rattle.ip_model.specs.declared.parts.Column.{Column}
use Rattle.ip_model.specs.declared.parts.Mark.TheVariants.{Count}
use Rattle.ip_model.specs.Points.{numerator}
use Rattle.ip_model.proofs.Values.{next_value, numerator_small}
use Rattle.ip_model.proofs.fractions.value_over_den.Goals as goal

pub loop-j-preserved : goal.loop-j-preserved
loop-j-preserved c =
    let none : Column = record { cost = 0; top = 0; mark = Count 0 None } in
    let items = c.as_slice-column-items.result.now in
    let program = c.args.program.now in
    let point = c.args.point.now in
    let read = c.as_slice-column-items.ensures.items in
    let here = c.from-in-loop-j.ensures in
    let there = c.numerator_at.ensures.value in
    let small = numerator_small program items point.den (numerator point) c.loop-j.j none c.from-in-loop-j.result c.numerator_at.result c.requires.lies read c.loop-j-test.true here there in
    record {
      so_far = next_value program.columns items c.loop-j.j none (numerator point) c.loop-j.total (point.den * program.base) c.from-in-loop-j.result c.numerator_at.result read c.loop-j-test.true here there c.loop-j.invariant.so_far;
      small = omega (arith, small, c.loop-j.invariant.small);
    }
