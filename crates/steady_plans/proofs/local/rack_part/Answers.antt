use Rattle.std.proofs.Common.{ℕ, ◌*◌, ◌≤◌, List, length, arith, ap}
use Rattle.plan_model.proofs.NumberLemmas.{mul-le-bounds}
use Rattle.steady_plans.specs.Tables.{cell}
use Rattle.steady_plans.proofs.Bounds.{cell-most, cell-within}
use Rattle.steady_plans.proofs.local.rack_part.Goals as goal

pub units-here-requires : goal.units-here-requires
units-here-requires c =
    let inside = cell-within c.args.case.now c.requires.sums.0 (λ s. s.rack) c.args.case.now.racks c.args.sums.now.racks.items c.requires.sums.1.racks c.args.rack c.args.r c.requires.rack c.requires.there in
    omega (arith, inside, ap length c.as_slice-racks.ensures.value)

product : (w x : ℕ) → w ≤ 10000 → x ≤ 20000000 → w * x ≤ 200000000000
product w x h k = mul-le-bounds w x 10000 20000000 h k

pub overflow_mul-result : goal.overflow_mul-result
overflow_mul-result c =
    let here = cell-most c.args.case.now c.requires.sums.0 (λ s. s.rack) c.args.case.now.racks c.args.sums.now.racks.items c.requires.sums.1.racks c.requires.sums.1.places c.args.rack c.args.r c.requires.rack c.requires.there in
    let read = ap (λ (xs : List ℕ). cell xs c.args.rack c.args.r) c.as_slice-racks.ensures.value in
    let above : c.saturating_sub-above.result ≤ 20000000 = omega (arith, here, read, c.units-here.ensures, c.saturating_sub-above.ensures) in
    let weight : c.from-weight.result ≤ 10000 = omega (arith, c.from-weight.ensures, c.want_at-want.ensures.limits.rack_weight) in
    omega (arith, product c.from-weight.result c.saturating_sub-above.result weight above)

pub returns-clause-most : goal.returns-clause-most
returns-clause-most c =
    let here = cell-most c.args.case.now c.requires.sums.0 (λ s. s.rack) c.args.case.now.racks c.args.sums.now.racks.items c.requires.sums.1.racks c.requires.sums.1.places c.args.rack c.args.r c.requires.rack c.requires.there in
    let read = ap (λ (xs : List ℕ). cell xs c.args.rack c.args.r) c.as_slice-racks.ensures.value in
    let above : c.saturating_sub-above.result ≤ 20000000 = omega (arith, here, read, c.units-here.ensures, c.saturating_sub-above.ensures) in
    let weight : c.from-weight.result ≤ 10000 = omega (arith, c.from-weight.ensures, c.want_at-want.ensures.limits.rack_weight) in
    product c.from-weight.result c.saturating_sub-above.result weight above
