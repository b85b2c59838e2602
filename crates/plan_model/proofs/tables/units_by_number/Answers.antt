use Rattle.std.proofs.Common.{◌≡◌, ◌<◌, ◌+◌, ◌==◌, ap, arith, length, None, cond}
use Rattle.plan_model.proofs.SumLemmas.{sum_by-zip_more, length-fits, take-zip_all, few-places, sum_by-filter}
use Rattle.plan_model.proofs.PartSums.{take_from_reads, cond-le}
use Rattle.plan_model.specs.Levels.{number_at, units_at}
use Rattle.plan_model.specs.Units.{no_place, share_of, servers_with_places}
use Rattle.plan_model.proofs.tables.units_by_number.Goals as goal

pub add_at-requires : goal.add_at-requires
add_at-requires c = λ k small. omega (arith, c.loop-i.invariant.1 k small, few-places c.args.case.now, ap length c.as_slice-places.ensures.items)

pub loop-i-preserved : goal.loop-i-preserved
loop-i-preserved c =
    let same : length c.args.a.now.of ≡ length c.args.case.now.places = length-fits c.args.case.now c.args.a.now c.requires.fitting in
    let within : c.loop-i.i < length c.as_slice-of.result.now = omega (arith, ap length c.as_slice-places.ensures.items, ap length c.as_slice-of.ensures.items) in (
      λ k small.
          let more = sum_by-zip_more (λ s. cond (number_at c.args.level s.0 == c.args.first + k) (share_of c.args.case.now c.args.r s) 0) c.as_slice-places.result.now c.as_slice-of.result.now c.loop-i.i no_place None c.loop-i-test.true within in
          let now = c.add_at.ensures k small in
          let was = c.loop-i.invariant.0 k small in
          cc,
      λ k small. omega (arith, c.add_at.ensures k small, c.loop-i.invariant.1 k small, c.share-amount.ensures.most, cond-le (c.number_at.result == c.args.first + k) c.share-amount.result),
      cc,
    )

pub returns : goal.returns
returns c = λ n few.
    let all = take-zip_all c.as_slice-places.result.now c.as_slice-of.result.now c.loop-i.i c.loop-i-test.false in
    take_from_reads (units_at c.args.level c.args.case.now c.args.a.now c.args.r) c.loop-i.table c.args.first n (omega arith)
    (λ k small.
    let was = c.loop-i.invariant.0 k (omega arith) in
    let picked = sum_by-filter (λ s. number_at c.args.level s.0 == c.args.first + k) (share_of c.args.case.now c.args.r) (servers_with_places c.args.case.now c.args.a.now) in
    cc)
