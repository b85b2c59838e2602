use Rattle.std.proofs.Common.{arith, refl, rules, to_z, to_z-of_z, FitsSigned, slice_index}
use Rattle.std.specs.Int.{w128}
use Rattle.ip_model.proofs.Rows.{next_term, sum_size, sum_fits}
use Rattle.closed_boxes.proofs.rows.sum_of_terms.Goals as goal

pub overflow_add-total : goal.overflow_add-total
overflow_add-total c =
    let one : FitsSigned w128 c.product-total.result = search rules in
    let few = c.requires.few in
    let here = c.loop-term-test.true in
    simp to_z-of_z (sum_fits (to_z w128 c.loop-term.total-bits) c.product-total.result c.loop-term.term-index (omega arith) c.loop-term.invariant.small c.product-total.ensures.size)

pub loop-term-preserved : goal.loop-term-preserved
loop-term-preserved c =
    let total = to_z w128 c.loop-term.total-bits in
    let product = c.product-total.result in
    let one : FitsSigned w128 product = search rules in
    let k = c.loop-term.term-index in
    let few = c.requires.few in
    let here = c.loop-term-test.true in
    let both = sum_fits total product k (omega arith) c.loop-term.invariant.small c.product-total.ensures.size in
    record {
      so_far = simp to_z-of_z (next_term _ _ (slice_index c.args.numbers.now) k _ total product _ refl c.loop-term-test.true c.loop-term.invariant.so_far c.product-total.ensures.value);
      small = simp to_z-of_z (sum_size total product k c.loop-term.invariant.small c.product-total.ensures.size);
    }
