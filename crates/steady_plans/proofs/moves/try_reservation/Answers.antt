use Rattle.std.proofs.Common.{◌≡◌, true, false, sym, ◌∙◌, refl, Some, inl}
use Rattle.program_rows.specs.Settings.{setting_of}
use Rattle.steady_plans.specs.declared.moves.Choice.{Choice}
use Rattle.steady_plans.proofs.Prices.{cheaper-of, try-which}
use Rattle.steady_plans.proofs.moves.try_reservation.Goals as goal

pub returns-then-may_take : goal.returns-then-may_take
returns-then-may_take c =
    let case = c.args.case.now in
    let setting = setting_of case c.args.phase.now in
    let next : Choice = record { to = Some c.args.r; price = c.reservation_price-found.result } in
    let may = sym c.may_take.ensures ∙ c.if-may_take.true in
    let cheaper = cheaper-of case setting c.args.a.now c.args.server c.args.best next c.cheaper.result c.requires.best c.reservation_price-found.ensures.price c.cheaper.ensures.kept c.cheaper.ensures.taken in
    record {
      sums = c.reservation_price-found.ensures.sums;
      price = cheaper.price;
      tried = λ _. cheaper.least;
      which = try-which case setting c.args.a.now c.args.server c.args.r c.args.best next c.cheaper.result refl may cheaper.which;
    }

pub returns : goal.returns
returns c =
    let may = sym c.may_take.ensures ∙ c.if-may_take.false in
    record {
      sums = c.requires.sums;
      price = c.requires.best;
      tried = λ yes_may. let clash : true ≡ false = sym yes_may ∙ may in cc;
      which = inl refl;
    }
