use Rattle.std.proofs.Common.{ap, length, arith, rules, to_z, to_z-of_z, FitsSigned, ◌^◌}
use Rattle.std.specs.Int.{w128}
use Rattle.ip_model.specs.Points.{numerator}
use Rattle.ip_model.proofs.Rows.{next_term, sum_size_by, sum_over_fits}
use Rattle.ip_model.proofs.fractions.meets_line_over.Goals as goal

pub loop-term-preserved : goal.loop-term-preserved
loop-term-preserved c =
    let total = to_z w128 c.loop-term.total-bits in
    let product = c.product_over-total.result in
    let one : FitsSigned w128 product = search rules in
    let k = c.loop-term.term-index in
    let both = sum_over_fits total product k (omega (arith, ap length c.as_slice-term-items.ensures.items, c.loop-term-test.true, c.requires.few)) c.loop-term.invariant.small c.product_over-total.ensures.size in
    record {
      so_far = simp to_z-of_z (next_term _ _ (numerator c.args.point.now) k _ total product _ c.as_slice-term-items.ensures.items c.loop-term-test.true c.loop-term.invariant.so_far c.product_over-total.ensures.value);
      small = simp to_z-of_z (sum_size_by total product k (2 ^ 103) c.loop-term.invariant.small c.product_over-total.ensures.size);
    }
