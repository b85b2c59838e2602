use Rattle.std.proofs.Common.{◌≡◌, ◌∙◌, ap, subst, arith}
use Rattle.std.specs.Prelude.{IsTrue}
use Rattle.online_mover.specs.Sums.{Counted}
use Rattle.plan_model.specs.Units.{place_of, value_for}
use Rattle.plan_model.specs.Allowed.{fits}
use Rattle.online_mover.proofs.NeedFacts.{units-without}
use Rattle.online_mover.proofs.counting.Counting.units_without.Goals as goal

pub overflow_sub-result : goal.overflow_sub-result
overflow_sub-result c =
    let at : Counted = c.args.self.now in
    let fitting : IsTrue (fits at.case at.counts) = subst (λ (v : Counted). IsTrue (fits v.case v.counts)) c.self.view_is c.self.invariant.0 in
    let worth : c.value.result ≡ value_for at.case c.args.r (place_of at.case c.args.server).kind =
    c.value.ensures ∙ ap (λ (v : Counted). value_for v.case c.args.r (place_of v.case c.args.server).kind) c.self.view_is in
    omega (arith, units-without at.case at.counts c.args.r c.args.server fitting c.requires.there c.requires.counts, c.units.ensures, worth)

pub returns : goal.returns
returns c =
    let at : Counted = c.args.self.now in
    let fitting : IsTrue (fits at.case at.counts) = subst (λ (v : Counted). IsTrue (fits v.case v.counts)) c.self.view_is c.self.invariant.0 in
    let worth : c.value.result ≡ value_for at.case c.args.r (place_of at.case c.args.server).kind =
    c.value.ensures ∙ ap (λ (v : Counted). value_for v.case c.args.r (place_of v.case c.args.server).kind) c.self.view_is in
    omega (arith, units-without at.case at.counts c.args.r c.args.server fitting c.requires.there c.requires.counts, c.units.ensures, worth)
