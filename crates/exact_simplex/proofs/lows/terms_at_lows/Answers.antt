use Rattle.std.proofs.Common.{refl, to_z, arith, slice_index}
use Rattle.std.specs.Int.{w64}
use Rattle.bound_certificate.proofs.Wide.{unsigned_abs-add}
use Rattle.ip_model.proofs.Rows.{next_term}
use Rattle.exact_simplex.proofs.LowSteps.{added}
use Rattle.exact_simplex.proofs.lows.terms_at_lows.Goals as goal

pub loop-term-preserved : goal.loop-term-preserved
loop-term-preserved c =
    let total = to_z w64 c.loop-term.total-bits in
    let last = c.term_at_low-total.result in
    let few = c.requires.few in
    let new = added total last (omega (arith, c.loop-term.invariant.small)) (omega (arith, c.term_at_low-total.ensures.size)) in
    record {
      so_far = rw new (next_term _ _ (slice_index c.args.low.now) c.loop-term.term-index _ total last _ refl c.loop-term-test.true c.loop-term.invariant.so_far c.term_at_low-total.ensures.value);
      small = rw new (omega (arith, unsigned_abs-add total last, c.loop-term.invariant.small, c.term_at_low-total.ensures.size));
    }
