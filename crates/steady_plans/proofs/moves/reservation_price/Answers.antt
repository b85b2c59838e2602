use Rattle.std.proofs.Common.{◌+◌, ◌-◌, ◌<◌, ◌≤◌, arith, ap, sym, ◌∙◌, Some, None, subst}
use Rattle.plan_model.specs.declared.cases.Place.{Place}
use Rattle.plan_model.specs.Costs.{move_cost}
use Rattle.program_rows.specs.Settings.{setting_of}
use Rattle.steady_plans.specs.Local.{local_cost}
use Rattle.steady_plans.specs.Steady.{replaced}
use Rattle.steady_plans.proofs.Costs.{rack-in_range}
use Rattle.steady_plans.proofs.Prices.{price-some}
use Rattle.steady_plans.proofs.Writes.{bare-none, given-some, taken-back}
use Rattle.steady_plans.proofs.moves.reservation_price.Goals as goal

pub local_cost-before-requires-clause-rack : goal.local_cost-before-requires-clause-rack
local_cost-before-requires-clause-rack c = subst (λ (p : Place). p.rack < c.args.case.now.racks) (sym c.place_at-place.ensures) (rack-in_range c.args.case.now c.args.server c.requires.in_range)

pub local_cost-before-requires-clause-sums : goal.local_cost-before-requires-clause-sums
local_cost-before-requires-clause-sums c = (replaced c.args.a.now c.args.server None, c.requires.sums)

pub put-requires-clause-sums : goal.put-requires-clause-sums
put-requires-clause-sums c = (replaced c.args.a.now c.args.server None, c.requires.sums)

pub local_cost-after-requires-clause-rack : goal.local_cost-after-requires-clause-rack
local_cost-after-requires-clause-rack c = subst (λ (p : Place). p.rack < c.args.case.now.racks) (sym c.place_at-place.ensures) (rack-in_range c.args.case.now c.args.server c.requires.in_range)

pub local_cost-after-requires-clause-sums : goal.local_cost-after-requires-clause-sums
local_cost-after-requires-clause-sums c =
    let bare = replaced c.args.a.now c.args.server None in
    (replaced bare c.args.server (Some c.args.r), c.put.ensures bare c.requires.sums (bare-none c.args.case.now c.args.a.now c.args.server c.requires.size c.requires.in_range))

pub take-requires-clause-sums : goal.take-requires-clause-sums
take-requires-clause-sums c =
    let bare = replaced c.args.a.now c.args.server None in
    (replaced bare c.args.server (Some c.args.r), c.put.ensures bare c.requires.sums (bare-none c.args.case.now c.args.a.now c.args.server c.requires.size c.requires.in_range))

pub returns-clause-price : goal.returns-clause-price
returns-clause-price c =
    let case = c.args.case.now in
    let setting = setting_of case c.args.phase.now in
    let a = c.args.a.now in
    let s = c.args.server in
    let r = c.args.r in
    let bare = replaced a s None in
    let given = replaced bare s (Some r) in
    let stands = c.place_at-place.ensures in
    let put = c.put.ensures bare c.requires.sums (bare-none case a s c.requires.size c.requires.in_range) in
    let was = c.local_cost-before.ensures.cost bare c.requires.sums ∙ ap (λ (p : Place). local_cost case setting bare r p.rack) stands in
    let now = c.local_cost-after.ensures.cost given put ∙ ap (λ (p : Place). local_cost case setting given r p.rack) stands in
    let moving = c.from-moving.ensures ∙ c.cost_at.ensures.cost ∙ ap (λ (p : Place). move_cost case.moves (p, Some r)) stands in
    let most : c.local_cost-before.result ≤ 1125899906842624 = omega (arith, c.local_cost-before.ensures.most) in
    price-some case setting c.requires.start a s r c.requires.size c.requires.in_range c.requires.there c.local_cost-before.result c.local_cost-after.result _
    was now most (ap (λ n. 1125899906842624 + n + c.local_cost-after.result - c.local_cost-before.result) moving)

pub returns-clause-sums : goal.returns-clause-sums
returns-clause-sums c =
    let case = c.args.case.now in
    let bare = replaced c.args.a.now c.args.server None in
    let given = c.put.ensures bare c.requires.sums (bare-none case c.args.a.now c.args.server c.requires.size c.requires.in_range) in
    taken-back case c.args.a.now c.args.server c.args.r c.take.new.sums
    (c.take.ensures (replaced bare c.args.server (Some c.args.r)) given (given-some case c.args.a.now c.args.server c.args.r c.requires.size c.requires.in_range))
