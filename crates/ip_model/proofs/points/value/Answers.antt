use Rattle.std.proofs.Common.{◌≡◌, arith, ◌∙◌, ap, Option, Some, None, slice_index, List, ℕ}
use Rattle.ip_model.specs.declared.parts.Column.{Column}
use Rattle.ip_model.specs.declared.parts.Mark.TheVariants.{Count}
use Rattle.ip_model.proofs.Values.{next_value, number_small}
use Rattle.ip_model.proofs.points.value.Goals as goal

pub loop-j-preserved : goal.loop-j-preserved
loop-j-preserved c =
    let none : Column = record { cost = 0; top = 0; mark = Count 0 None } in
    let items = c.as_slice-columns.result.now in
    let program = c.args.program.now in
    let point = c.args.point.now in
    let read = c.as_slice-columns.ensures.items in
    let here = c.from.ensures in
    let there : c.from-in-loop-j.result ≡ slice_index point c.loop-j.j = c.from-in-loop-j.ensures ∙ ap (λ (ns : List ℕ). slice_index ns c.loop-j.j) c.as_slice-numbers.ensures.items in
    let small = number_small program items point c.loop-j.j none c.from.result c.from-in-loop-j.result c.requires read c.loop-j-test.true here there in
    record {
      so_far = next_value program.columns items c.loop-j.j none (slice_index point) c.loop-j.total program.base c.from.result c.from-in-loop-j.result read c.loop-j-test.true here there c.loop-j.invariant.so_far;
      small = omega (arith, small, c.loop-j.invariant.small);
    }
