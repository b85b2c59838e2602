use Rattle.std.proofs.Common.{to_z, arith, ◌≤◌, length, ap}
use Rattle.std.specs.Int.{w64}
use Rattle.bound_certificate.proofs.Wide.{unsigned_abs-add}
use Rattle.exact_simplex.proofs.SumBelow.{sum_below-next}
use Rattle.exact_simplex.proofs.LowSteps.{added, few_columns}
use Rattle.exact_simplex.proofs.lows.costs_at_lows.Goals as goal

pub loop-j-preserved : goal.loop-j-preserved
loop-j-preserved c =
    let total = to_z w64 c.loop-j.total-bits in
    let last = c.cost_at_low-total.result in
    let few : length c.args.program.now.columns ≤ 2048 = few_columns c.args.program.now in
    let same = ap length c.as_slice-j-end.ensures.items in
    let new = added total last (omega (arith, c.loop-j.invariant.small)) (omega (arith, c.cost_at_low-total.ensures.size)) in
    record {
      so_far = rw new (sum_below-next c.loop-j.j _ total last c.loop-j.invariant.so_far c.cost_at_low-total.ensures.value);
      small = rw new (omega (arith, unsigned_abs-add total last, c.loop-j.invariant.small, c.cost_at_low-total.ensures.size));
    }
