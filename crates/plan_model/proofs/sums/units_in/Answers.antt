use Rattle.std.proofs.Common.{◌≡◌, ◌<◌, ap, arith, length, None, cond, ◌==◌}
use Rattle.std.specs.Prelude.{zip}
use Rattle.plan_model.proofs.SumLemmas.{sum_by-zip_more, length-fits, take-zip_all, few-places, sum_by-filter, sum_by-filter-le}
use Rattle.plan_model.specs.Levels.{number_at}
use Rattle.plan_model.specs.Units.{no_place, share_of}
use Rattle.plan_model.proofs.sums.units_in.Goals as goal

pub loop-i-preserved : goal.loop-i-preserved
loop-i-preserved c =
    let same : length c.args.a.now.of ≡ length c.args.case.now.places = length-fits c.args.case.now c.args.a.now c.requires.fitting in
    let within : c.loop-i.i < length c.as_slice-of.result.now = omega (arith, ap length c.as_slice-places.ensures.items, ap length c.as_slice-of.ensures.items) in
    let more = sum_by-zip_more (λ s. cond (number_at c.args.level s.0 == c.args.number) (share_of c.args.case.now c.args.r s) 0) c.as_slice-places.result.now c.as_slice-of.result.now c.loop-i.i no_place None c.loop-i-test.true within in
    (cc, omega arith)

pub returns-clause-units : goal.returns-clause-units
returns-clause-units c =
    let all = take-zip_all c.as_slice-places.result.now c.as_slice-of.result.now c.loop-i.i c.loop-i-test.false in
    let picked = sum_by-filter (λ s. number_at c.args.level s.0 == c.args.number) (share_of c.args.case.now c.args.r) (zip c.args.case.now.places c.args.a.now.of) in
    cc

pub returns-clause-within : goal.returns-clause-within
returns-clause-within c =
    let all = take-zip_all c.as_slice-places.result.now c.as_slice-of.result.now c.loop-i.i c.loop-i-test.false in
    let picked = sum_by-filter (λ s. number_at c.args.level s.0 == c.args.number) (share_of c.args.case.now c.args.r) (zip c.args.case.now.places c.args.a.now.of) in
    let below = sum_by-filter-le (λ s. number_at c.args.level s.0 == c.args.number) (share_of c.args.case.now c.args.r) (zip c.args.case.now.places c.args.a.now.of) in
    grind (arith, below, picked, all)

pub returns-clause-most : goal.returns-clause-most
returns-clause-most c = omega (arith, few-places c.args.case.now, ap length c.as_slice-places.ensures.items)
