use Rattle.std.proofs.Common.{◌≡◌, ◌<◌, true, length, arith, ap, sym, ◌∙◌, below_more}
use Rattle.plan_model.specs.declared.cases.Want.{Want}
use Rattle.plan_model.specs.Allowed.{survives}
use Rattle.plan_model.specs.Losses.{losses_named, loss_at}
use Rattle.plan_model.specs.Units.{want_of}
use Rattle.steady_plans.specs.Tables.{one_part}
use Rattle.steady_plans.proofs.Bounds.{cell-within}
use Rattle.steady_plans.proofs.Columns.{total-is}
use Rattle.steady_plans.proofs.Needs.{too-few, one-fails, each-passes}
use Rattle.steady_plans.proofs.local.keeps_need.Goals as goal

pub units-requires : goal.units-requires
units-requires c =
    let one : 0 < 1 = omega arith in
    let inside = cell-within c.args.case.now c.requires.sums.0 one_part 1 c.args.sums.now.all.items c.requires.sums.1.all 0 c.args.r one c.requires.there in
    omega (arith, inside, ap length c.as_slice-whole.ensures.value)

pub survives-requires-clause-named : goal.survives-requires-clause-named
survives-requires-clause-named c =
    let named = ap (λ (w : Want). losses_named c.args.case.now w.protection) c.want_at-want.ensures.want in
    omega (arith, named, c.losses_named-number-end.ensures, c.loop-number-test.true)

pub returns-then-units-from : goal.returns-then-units-from
returns-then-units-from c = λ a are.
    let total = c.units.ensures ∙ total-is c.args.case.now a c.args.sums.now are c.args.r c.requires.there c.as_slice-whole.result.now c.as_slice-whole.ensures.value in
    let need = c.from.ensures ∙ ap (λ (w : Want). w.need) c.want_at-want.ensures.want in
    too-few c.args.case.now a c.args.r (omega (arith, total, need, c.if-units-from.true))

pub loop-number-init : goal.loop-number-init
loop-number-init c = λ a are n h. absurd (omega (arith, h))

pub loop-number-preserved : goal.loop-number-preserved
loop-number-preserved c = λ a are.
    below_more (λ n. survives c.args.case.now a c.args.r (loss_at (want_of c.args.case.now c.args.r).protection n) ≡ true) c.loop-number.number (c.loop-number.invariant a are)
    (sym (c.survives.ensures a are) ∙ c.if-not-survives.false)

pub returns-then-not-survives : goal.returns-then-not-survives
returns-then-not-survives c = λ a are.
    let named = ap (λ (w : Want). losses_named c.args.case.now w.protection) c.want_at-want.ensures.want in
    one-fails c.args.case.now a c.args.r c.loop-number.number (omega (arith, named, c.losses_named-number-end.ensures, c.loop-number-test.true))
    (sym (c.survives.ensures a are) ∙ c.if-not-survives.true)

pub returns : goal.returns
returns c = λ a are.
    let named = ap (λ (w : Want). losses_named c.args.case.now w.protection) c.want_at-want.ensures.want in
    let total = c.units.ensures ∙ total-is c.args.case.now a c.args.sums.now are c.args.r c.requires.there c.as_slice-whole.result.now c.as_slice-whole.ensures.value in
    let need = c.from.ensures ∙ ap (λ (w : Want). w.need) c.want_at-want.ensures.want in
    each-passes c.args.case.now a c.args.r (omega (arith, total, need, c.if-units-from.false))
    (λ number within. c.loop-number.invariant a are number (omega (arith, within, named, c.losses_named-number-end.ensures, c.loop-number-test.false)))
