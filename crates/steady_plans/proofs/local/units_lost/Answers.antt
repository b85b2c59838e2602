use Rattle.std.proofs.Common.{ℕ, ◌<◌, List, length, arith, ap, sym, ◌∙◌, subst}
use Rattle.ras_requests.specs.declared.requests.Protection.{Protection}
use Rattle.plan_model.specs.Losses.{is_lost, losses_named, loss_at}
use Rattle.plan_model.specs.Units.{units_where}
use Rattle.steady_plans.specs.Tables.{cell}
use Rattle.steady_plans.proofs.Bounds.{cell-within, reservation-small}
use Rattle.steady_plans.proofs.local.units_lost.Goals as goal

pub units-requires : goal.units-requires
units-requires c =
    let named : c.args.number < c.args.case.now.boards = subst (λ (p : Protection). c.args.number < losses_named c.args.case.now p) c.in-Board.is c.requires.named in
    let inside = cell-within c.args.case.now c.requires.sums.0 (λ s. s.board) c.args.case.now.boards c.args.sums.now.boards.items c.requires.sums.1.boards c.args.number c.args.r named c.requires.there in
    omega (arith, inside, ap length c.as_slice.ensures.value)

pub units-requires-in-Center : goal.units-requires-in-Center
units-requires-in-Center c =
    let named : c.args.number < c.args.case.now.centers = subst (λ (p : Protection). c.args.number < losses_named c.args.case.now p) c.in-Center.is c.requires.named in
    let inside = cell-within c.args.case.now c.requires.sums.0 (λ s. s.center) c.args.case.now.centers c.args.sums.now.centers.items c.requires.sums.1.centers c.args.number c.args.r named c.requires.there in
    omega (arith, inside, ap length c.as_slice-in-Center.ensures.value)

pub returns-in-Total : goal.returns-in-Total
returns-in-Total c = λ a are.
    let named : c.args.number < 0 = subst (λ (p : Protection). c.args.number < losses_named c.args.case.now p) c.in-Total.is c.requires.named in
    absurd (omega (arith, named))

pub returns-in-Board : goal.returns-in-Board
returns-in-Board c = λ a are.
    let named : c.args.number < c.args.case.now.boards = subst (λ (p : Protection). c.args.number < losses_named c.args.case.now p) c.in-Board.is c.requires.named in
    c.units.ensures
    ∙ ap (λ (xs : List ℕ). cell xs c.args.number c.args.r) c.as_slice.ensures.value
    ∙ are.boards.counted c.args.number c.args.r named (reservation-small c.args.case.now c.args.r c.requires.there)
    ∙ sym (ap (λ p. units_where (is_lost (loss_at p c.args.number)) c.args.case.now a c.args.r) c.in-Board.is)

pub returns-in-Center : goal.returns-in-Center
returns-in-Center c = λ a are.
    let named : c.args.number < c.args.case.now.centers = subst (λ (p : Protection). c.args.number < losses_named c.args.case.now p) c.in-Center.is c.requires.named in
    c.units-in-Center.ensures
    ∙ ap (λ (xs : List ℕ). cell xs c.args.number c.args.r) c.as_slice-in-Center.ensures.value
    ∙ are.centers.counted c.args.number c.args.r named (reservation-small c.args.case.now c.args.r c.requires.there)
    ∙ sym (ap (λ p. units_where (is_lost (loss_at p c.args.number)) c.args.case.now a c.args.r) c.in-Center.is)
