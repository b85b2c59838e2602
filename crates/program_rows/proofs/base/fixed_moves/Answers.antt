use Rattle.std.proofs.Common.{◌<◌, None, length, ap, sym, ◌∙◌, arith}
use Rattle.std.specs.Prelude.{not, sum_by}
use Rattle.std.proofs.lemmas.List.{take_all}
use Rattle.std.proofs.lemmas.List.Sums.{sum_by_more}
use Rattle.plan_model.specs.Units.{servers_with_places, no_place}
use Rattle.plan_model.specs.Costs.{move_cost}
use Rattle.plan_model.specs.Rack.{is_movable}
use Rattle.plan_model.proofs.SumLemmas.{sum_by-filter}
use Rattle.program_rows.specs.Settings.{setting_of}
use Rattle.program_rows.specs.Bases.{fixed_cost}
use Rattle.program_rows.proofs.Actives.{assigned-at, length-assigned}
use Rattle.program_rows.proofs.base.fixed_moves.Goals as goal

pub loop-server-preserved : goal.loop-server-preserved
loop-server-preserved c =
    let case = c.args.case.now in
    let setting = setting_of case c.args.phase.now in
    let s = c.loop-server.server in
    let within : s < length case.places = omega (arith, c.len-server-end.ensures) in
    let inside : s < length (servers_with_places case setting.start) = omega (arith, within, length-assigned case c.args.phase.now c.requires) in
    let more = sum_by_more (fixed_cost case setting) (servers_with_places case setting.start) s (no_place, None) inside in
    let at = ap (fixed_cost case setting) (assigned-at case c.args.phase.now c.requires s within) in (
      omega (arith, more, at, c.loop-server.invariant.0, c.fixed_cost.ensures.cost, c.from-sum.ensures),
      omega (arith, c.loop-server.invariant.1, c.fixed_cost.ensures.most, c.from-sum.ensures),
    )

pub returns-clause-cost : goal.returns-clause-cost
returns-clause-cost c =
    let case = c.args.case.now in
    let setting = setting_of case c.args.phase.now in
    let xs = servers_with_places case setting.start in
    c.loop-server.invariant.0
    ∙ ap (sum_by (fixed_cost case setting)) (take_all c.loop-server.server xs (omega (arith, c.len-server-end.ensures, length-assigned case c.args.phase.now c.requires)))
    ∙ sym (sum_by-filter (λ s. not (is_movable case setting.active s)) (move_cost case.moves) xs)
