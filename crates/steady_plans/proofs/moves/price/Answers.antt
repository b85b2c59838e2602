use Rattle.std.proofs.Common.{ℕ, ◌+◌, ap, sym, ◌∙◌, None, subst}
use Rattle.std.specs.Prelude.{Option}
use Rattle.plan_model.specs.declared.cases.Place.{Place}
use Rattle.plan_model.specs.Costs.{move_cost}
use Rattle.program_rows.specs.Settings.{setting_of}
use Rattle.steady_plans.specs.Local.{IsPrice}
use Rattle.steady_plans.proofs.Next.{there-of}
use Rattle.steady_plans.proofs.Prices.{price-none}
use Rattle.steady_plans.proofs.moves.price.Goals as goal

pub reservation_price-requires-clause-there : goal.reservation_price-requires-clause-there
reservation_price-requires-clause-there c = there-of c.args.case.now c.args.to c.in-Some.r c.requires.there c.in-Some.is

pub returns-in-Some : goal.returns-in-Some
returns-in-Some c = record {
  price = subst (λ (o : Option ℕ). IsPrice c.args.case.now (setting_of c.args.case.now c.args.phase.now) c.args.a.now c.args.server o c.reservation_price.result) (sym c.in-Some.is) c.reservation_price.ensures.price;
  sums = c.reservation_price.ensures.sums;
}

pub returns-in-None : goal.returns-in-None
returns-in-None c =
    let case = c.args.case.now in
    let moving = c.from-moving.ensures ∙ c.cost_at.ensures.cost ∙ ap (λ (p : Place). move_cost case.moves (p, None)) c.place_at-place.ensures in
    record {
      price = subst (λ (o : Option ℕ). IsPrice case (setting_of case c.args.phase.now) c.args.a.now c.args.server o (1125899906842624 + c.from-moving.result)) (sym c.in-None.is)
          (price-none case (setting_of case c.args.phase.now) c.args.a.now c.args.server (1125899906842624 + c.from-moving.result) (ap (λ n. 1125899906842624 + n) moving));
      sums = c.requires.sums;
    }
