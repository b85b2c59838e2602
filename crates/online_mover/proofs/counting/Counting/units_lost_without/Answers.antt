use Rattle.std.proofs.Common.{◌≡◌, ◌∙◌, ap, sym, subst, arith, true, false}
use Rattle.std.specs.Prelude.{IsTrue}
use Rattle.online_mover.specs.Sums.{Counted}
use Rattle.plan_model.specs.Units.{place_of, value_for}
use Rattle.plan_model.specs.Allowed.{fits}
use Rattle.plan_model.specs.Losses.{is_lost}
use Rattle.online_mover.proofs.NeedFacts.{where-without-same, where-without-other}
use Rattle.online_mover.proofs.counting.Counting.units_lost_without.Goals as goal

pub overflow_sub-result : goal.overflow_sub-result
overflow_sub-result c =
    let at : Counted = c.args.self.now in
    let fitting : IsTrue (fits at.case at.counts) = subst (λ (v : Counted). IsTrue (fits v.case v.counts)) c.self.view_is c.self.invariant.0 in
    let worth : c.value.result ≡ value_for at.case c.args.r (place_of at.case c.args.server).kind =
    c.value.ensures ∙ ap (λ (v : Counted). value_for v.case c.args.r (place_of v.case c.args.server).kind) c.self.view_is in
    let here : is_lost c.args.lost (place_of at.case c.args.server) ≡ true =
    sym (ap (λ (v : Counted). is_lost c.args.lost (place_of v.case c.args.server)) c.self.view_is) ∙ sym (ap (is_lost c.args.lost) c.place.ensures) ∙ sym c.is_lost.ensures ∙ c.if-is_lost.true in
    omega (arith, where-without-same (is_lost c.args.lost) at.case at.counts c.args.r c.args.server fitting c.requires.there c.requires.counts here, c.units_lost-all.ensures, worth)

pub returns-then-is_lost : goal.returns-then-is_lost
returns-then-is_lost c =
    let at : Counted = c.args.self.now in
    let fitting : IsTrue (fits at.case at.counts) = subst (λ (v : Counted). IsTrue (fits v.case v.counts)) c.self.view_is c.self.invariant.0 in
    let worth : c.value.result ≡ value_for at.case c.args.r (place_of at.case c.args.server).kind =
    c.value.ensures ∙ ap (λ (v : Counted). value_for v.case c.args.r (place_of v.case c.args.server).kind) c.self.view_is in
    let here : is_lost c.args.lost (place_of at.case c.args.server) ≡ true =
    sym (ap (λ (v : Counted). is_lost c.args.lost (place_of v.case c.args.server)) c.self.view_is) ∙ sym (ap (is_lost c.args.lost) c.place.ensures) ∙ sym c.is_lost.ensures ∙ c.if-is_lost.true in
    omega (arith, where-without-same (is_lost c.args.lost) at.case at.counts c.args.r c.args.server fitting c.requires.there c.requires.counts here, c.units_lost-all.ensures, worth)

pub returns-else-is_lost : goal.returns-else-is_lost
returns-else-is_lost c =
    let at : Counted = c.args.self.now in
    let fitting : IsTrue (fits at.case at.counts) = subst (λ (v : Counted). IsTrue (fits v.case v.counts)) c.self.view_is c.self.invariant.0 in
    let here : is_lost c.args.lost (place_of at.case c.args.server) ≡ false =
    sym (ap (λ (v : Counted). is_lost c.args.lost (place_of v.case c.args.server)) c.self.view_is) ∙ sym (ap (is_lost c.args.lost) c.place.ensures) ∙ sym c.is_lost.ensures ∙ c.if-is_lost.false in
    omega (arith, where-without-other (is_lost c.args.lost) at.case at.counts c.args.r c.args.server fitting c.requires.there c.requires.counts here, c.units_lost-all.ensures)
