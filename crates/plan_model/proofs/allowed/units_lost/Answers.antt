use Rattle.std.proofs.Common.{◌≡◌, ◌+◌, ◌<◌, ℕ, ap, arith, sym, ◌∙◌}
use Rattle.plan_model.specs.declared.levels.Level.TheVariants.{Board, Center}
use Rattle.ras_requests.specs.declared.requests.Protection.{Protection}
use Rattle.ras_requests.specs.declared.requests.Protection.TheVariants as protection
use Rattle.plan_model.specs.Units.{units_where}
use Rattle.plan_model.specs.Levels.{units_at}
use Rattle.plan_model.specs.Losses.{is_lost, loss_at, losses_named}
use Rattle.plan_model.proofs.CaseFacts.{few-boards, few-centers}
use Rattle.plan_model.proofs.PartSums.{read_from_take}
use Rattle.plan_model.proofs.allowed.units_lost.Goals as goal

pub returns-in-Total : goal.returns-in-Total
returns-in-Total c n within =
    let none : losses_named c.args.case.now c.args.protection ≡ 0 = ap (losses_named c.args.case.now) c.in-Total.is in
    absurd (omega (arith, none, within))

pub returns-in-Board : goal.returns-in-Board
returns-in-Board c n within =
    let named : losses_named c.args.case.now c.args.protection ≡ c.args.case.now.boards = ap (losses_named c.args.case.now) c.in-Board.is in
    read_from_take (units_at Board c.args.case.now c.args.a.now c.args.r) c.units_by_number.result n
    (c.units_by_number.ensures (n + 1) (omega (arith, few-boards c.args.case.now, named, within)))
    ∙ sym (ap (λ p. units_where (is_lost (loss_at p n)) c.args.case.now c.args.a.now c.args.r) c.in-Board.is)

pub returns-in-Center : goal.returns-in-Center
returns-in-Center c n within =
    let named : losses_named c.args.case.now c.args.protection ≡ c.args.case.now.centers = ap (losses_named c.args.case.now) c.in-Center.is in
    read_from_take (units_at Center c.args.case.now c.args.a.now c.args.r) c.units_by_number-in-Center.result n
    (c.units_by_number-in-Center.ensures (n + 1) (omega (arith, few-centers c.args.case.now, named, within)))
    ∙ sym (ap (λ p. units_where (is_lost (loss_at p n)) c.args.case.now c.args.a.now c.args.r) c.in-Center.is)
