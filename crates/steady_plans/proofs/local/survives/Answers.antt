use Rattle.std.proofs.Common.{◌≡◌, ◌<◌, length, arith, ap, ◌∙◌}
use Rattle.std.specs.Prelude.{nat_le}
use Rattle.plan_model.specs.declared.cases.Want.{Want}
use Rattle.plan_model.specs.Losses.{is_lost, losses_named, loss_at}
use Rattle.plan_model.specs.Units.{units_where, want_of}
use Rattle.steady_plans.specs.Tables.{one_part}
use Rattle.steady_plans.proofs.Bounds.{cell-within}
use Rattle.steady_plans.proofs.Columns.{total-is}
use Rattle.steady_plans.proofs.Needs.{left-is}
use Rattle.steady_plans.proofs.local.survives.Goals as goal

pub units-all-requires : goal.units-all-requires
units-all-requires c =
    let one : 0 < 1 = omega arith in
    let inside = cell-within c.args.case.now c.requires.sums.0 one_part 1 c.args.sums.now.all.items c.requires.sums.1.all 0 c.args.r one c.requires.there in
    omega (arith, inside, ap length c.as_slice-whole.ensures.value)

pub units_lost-lost-requires-clause-named : goal.units_lost-lost-requires-clause-named
units_lost-lost-requires-clause-named c =
    let named = ap (λ (w : Want). losses_named c.args.case.now w.protection) c.want_at-want.ensures.want in
    omega (arith, named, c.requires.named)

pub returns : goal.returns
returns c = λ a are.
    let case = c.args.case.now in
    let r = c.args.r in
    let n = c.args.number in
    let lost = is_lost (loss_at (want_of case r).protection n) in
    let total = c.units-all.ensures ∙ total-is case a c.args.sums.now are r c.requires.there c.as_slice-whole.result.now c.as_slice-whole.ensures.value in
    let gone : c.units_lost-lost.result ≡ units_where lost case a r =
    c.units_lost-lost.ensures a are ∙ ap (λ (w : Want). units_where (is_lost (loss_at w.protection n)) case a r) c.want_at-want.ensures.want in
    let need = c.from.ensures ∙ ap (λ (w : Want). w.need) c.want_at-want.ensures.want in
    ap (nat_le c.from.result) c.saturating_sub.ensures
    ∙ left-is case a r (loss_at (want_of case r).protection n) c.from.result c.units-all.result c.units_lost-lost.result need total gone
