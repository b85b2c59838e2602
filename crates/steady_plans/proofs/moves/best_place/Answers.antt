use Rattle.std.proofs.Common.{◌≡◌, ℕ, length, arith, refl, None, subst}
use Rattle.program_rows.specs.Settings.{setting_of}
use Rattle.steady_plans.specs.declared.moves.Choice.{Choice}
use Rattle.steady_plans.proofs.Prices.{cheaper-of, best-first, best-next, best-least, best-which, IsBest, IsTried}
use Rattle.steady_plans.proofs.moves.best_place.Goals as goal

pub loop-r-init : goal.loop-r-init
loop-r-init c =
    let case = c.args.case.now in
    let setting = setting_of case c.args.phase.now in
    let a = c.args.a.now in
    let s = c.args.server in
    let kept : Choice = record { to = c.args.from; price = c.price-kept_price.result } in
    let freed : Choice = record { to = None; price = c.price-free_price.result } in
    let cheaper = cheaper-of case setting a s kept freed c.cheaper-best.result c.price-kept_price.ensures.price c.price-free_price.ensures.price c.cheaper-best.ensures.kept c.cheaper-best.ensures.taken in
    (c.price-free_price.ensures.sums, (c.price-kept_price.result, best-first case setting a s c.args.from kept freed c.cheaper-best.result refl refl c.price-kept_price.ensures.price cheaper))

pub try_reservation-best-requires-clause-sums : goal.try_reservation-best-requires-clause-sums
try_reservation-best-requires-clause-sums c = c.loop-r.invariant.0

pub try_reservation-best-requires-clause-best : goal.try_reservation-best-requires-clause-best
try_reservation-best-requires-clause-best c = c.loop-r.invariant.1.1.price

pub loop-r-preserved : goal.loop-r-preserved
loop-r-preserved c =
    let case = c.args.case.now in
    let setting = setting_of case c.args.phase.now in
    let most = c.loop-r.invariant.1.0 in
    let tried : IsTried case setting c.args.a.now c.args.server c.loop-r.r c.loop-r.best c.try_reservation-best.result =
    record { price = c.try_reservation-best.ensures.price; tried = c.try_reservation-best.ensures.tried; which = c.try_reservation-best.ensures.which } in
    (c.try_reservation-best.ensures.sums, (most, best-next case setting c.args.a.now c.args.server c.args.from most c.loop-r.r c.loop-r.best c.try_reservation-best.result c.loop-r.invariant.1.1 tried))

pub returns : goal.returns
returns c =
    let case = c.args.case.now in
    let setting = setting_of case c.args.phase.now in
    let a = c.args.a.now in
    let s = c.args.server in
    let most = c.loop-r.invariant.1.0 in
    let is = c.loop-r.invariant.1.1 in
    let all : c.loop-r.r ≡ length case.wants = omega (arith, c.len-r-end.ensures) in
    record {
      sums = c.loop-r.invariant.0;
      which = best-which case setting a s c.args.from most c.loop-r.r c.loop-r.best is;
      least = best-least case setting a s c.requires.start c.args.from most c.loop-r.best (subst (λ (n : ℕ). IsBest case setting a s c.args.from most n c.loop-r.best) all is);
    }
