use Rattle.std.proofs.Common.{◌≡◌, ◌∙◌, ap, sym, arith}
use Rattle.plan_model.specs.Units.{want_of, units_where}
use Rattle.plan_model.specs.Losses.{is_lost, losses_named, loss_at}
use Rattle.online_mover.specs.Without.{without}
use Rattle.online_mover.specs.Sums.{Counted}
use Rattle.online_mover.proofs.NeedFacts.{lost-most, loss-breaks, keeps-all}
use Rattle.online_mover.proofs.counting.Counting.keeps_need_without.Goals as goal

pub overflow_sub-all : goal.overflow_sub-all
overflow_sub-all c = lost-most c.args.self.now.case (without c.args.self.now.counts c.args.server) c.args.r c.loss_at.result c.units_without-all.result c.units_lost_without-lost.result c.units_without-all.ensures c.units_lost_without-lost.ensures

pub returns-then-all-lost : goal.returns-then-all-lost
returns-then-all-lost c =
    let want : c.want-want.result.now ≡ want_of c.args.self.now.case c.args.r = c.want-want.ensures ∙ ap (λ (v : Counted). want_of v.case c.args.r) c.self.view_is in
    let named : c.losses_named-number-end.result ≡ losses_named c.args.self.now.case c.want-want.result.now.protection =
    c.losses_named-number-end.ensures ∙ ap (λ (v : Counted). losses_named v.case c.want-want.result.now.protection) c.self.view_is in
    let gone : c.units_lost_without-lost.result ≡ units_where (is_lost (loss_at c.want-want.result.now.protection c.loop-number.number)) c.args.self.now.case (without c.args.self.now.counts c.args.server) c.args.r =
    c.units_lost_without-lost.ensures ∙ ap (λ l. units_where (is_lost l) c.args.self.now.case (without c.args.self.now.counts c.args.server) c.args.r) c.loss_at.ensures in
    sym (loss-breaks c.args.self.now.case (without c.args.self.now.counts c.args.server) c.args.r c.loop-number.number c.want-want.result.now c.losses_named-number-end.result c.units_without-all.result c.units_lost_without-lost.result
    want named c.loop-number-test.true c.units_without-all.ensures gone (omega (arith, c.if-all-lost.true, c.from-need.ensures)))

pub returns : goal.returns
returns c =
    let want : c.want-want.result.now ≡ want_of c.args.self.now.case c.args.r = c.want-want.ensures ∙ ap (λ (v : Counted). want_of v.case c.args.r) c.self.view_is in
    let named : c.losses_named-number-end.result ≡ losses_named c.args.self.now.case c.want-want.result.now.protection =
    c.losses_named-number-end.ensures ∙ ap (λ (v : Counted). losses_named v.case c.want-want.result.now.protection) c.self.view_is in
    sym (keeps-all c.args.self.now.case (without c.args.self.now.counts c.args.server) c.args.r c.loop-number.number c.want-want.result.now c.losses_named-number-end.result c.units_without-all.result
    c.loop-number.invariant want named c.units_without-all.ensures (omega (arith, c.if-all-need.false, c.from-need.ensures)) c.loop-number-test.false)
