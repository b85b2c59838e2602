use Rattle.std.proofs.Common.{◌≡◌, ◌<◌, ◌+◌, ◌-◌, ap, arith, true, false, cond, ◌∙◌, sym, Some, get_or}
use Rattle.std.proofs.lemmas.Bool.Decides.{nat_tests}
use Rattle.std.specs.Prelude.{map}
use Rattle.std.specs.List.{range_with_len}
use Rattle.plan_model.specs.Units.{want_of, units_where}
use Rattle.plan_model.specs.Allowed.{survives, first_lost}
use Rattle.plan_model.specs.Losses.{is_lost, loss_at, losses_named}
use Rattle.plan_model.proofs.AllowedLaws.{lost-from, loss-fails, loss-passes}
use Rattle.plan_model.proofs.allowed.first_named.Goals as goal

pub returns-then-saturating_sub-need : goal.returns-then-saturating_sub-need
returns-then-saturating_sub-need c =
    let case = c.args.case.now in
    let a = c.args.a.now in
    let r = c.args.r in
    let p = (want_of case r).protection in
    let n = c.loop-number.number in
    let named : c.losses_named-number-end.result ≡ losses_named case p = c.losses_named-number-end.ensures ∙ ap (λ w. losses_named case w.protection) c.want_at.ensures.want in
    let lost : c.loss_at.result ≡ loss_at p n = c.loss_at.ensures ∙ ap (λ w. loss_at w.protection n) c.want_at.ensures.want in
    let within : n < losses_named case p = omega (arith, named, c.loop-number-test.true) in
    let gone = c.units_lost-lost.ensures n (omega (arith, within, ap (λ w. losses_named case w.protection) c.want_at.ensures.want)) ∙ ap (λ w. units_where (is_lost (loss_at w.protection n)) case a r) c.want_at.ensures.want in
    let fails : survives case a r (loss_at p n) ≡ false = loss-fails case a r (loss_at p n) c.args.need c.args.all (get_or c.units_lost-lost.result n 0) c.requires.need c.requires.all gone (omega (arith, c.saturating_sub.ensures, c.if-saturating_sub-need.true)) in
    ap (λ l. Some l) lost
    ∙ sym (c.loop-number.invariant ∙ lost-from case a r p n (losses_named case p) within
    ∙ ap (λ b. cond b (first_lost case a r (map (loss_at p) (range_with_len (n + 1) (losses_named case p - (n + 1))))) (Some (loss_at p n))) fails)

pub loop-number-preserved : goal.loop-number-preserved
loop-number-preserved c =
    let case = c.args.case.now in
    let a = c.args.a.now in
    let r = c.args.r in
    let p = (want_of case r).protection in
    let n = c.loop-number.number in
    let named : c.losses_named-number-end.result ≡ losses_named case p = c.losses_named-number-end.ensures ∙ ap (λ w. losses_named case w.protection) c.want_at.ensures.want in
    let within : n < losses_named case p = omega (arith, named, c.loop-number-test.true) in
    let gone = c.units_lost-lost.ensures n (omega (arith, within, ap (λ w. losses_named case w.protection) c.want_at.ensures.want)) ∙ ap (λ w. units_where (is_lost (loss_at w.protection n)) case a r) c.want_at.ensures.want in
    let passes : survives case a r (loss_at p n) ≡ true = loss-passes case a r (loss_at p n) c.args.need c.args.all (get_or c.units_lost-lost.result n 0) c.requires.need c.requires.all gone (omega (arith, c.saturating_sub.ensures, c.if-saturating_sub-need.false)) in
    c.loop-number.invariant ∙ lost-from case a r p n (losses_named case p) within
    ∙ ap (λ b. cond b (first_lost case a r (map (loss_at p) (range_with_len (n + 1) (losses_named case p - (n + 1))))) (Some (loss_at p n))) passes
