use Rattle.std.proofs.Common.{◌<◌, ◌+◌, ◌∙◌, ℕ, ap, sym, subst, length, get_or, List, None}
use Rattle.std.specs.Prelude.{Option}
use Rattle.spare_pool.specs.States.{State}
use Rattle.spare_pool.specs.Choices.{larger}
use Rattle.spare_pool.specs.Spares.{IsGreatestAmong}
use Rattle.spare_pool.proofs.Rules.{rule-long}
use Rattle.spare_pool.proofs.ChoiceFacts.{larger-next, greatest-within}
use Rattle.spare_pool.proofs.pool.Pool.greater.Goals as goal

pub larger-requires-clause-there : goal.larger-requires-clause-there
larger-requires-clause-there c =
    let at : State = record { case = c.self.inside.case; servers = c.self.inside.servers } in
    let best : IsGreatestAmong at c.args.r c.args.kind c.args.best = subst (λ (t : State). IsGreatestAmong t c.args.r c.args.kind c.args.best) (sym c.self.view_is) c.requires.best in
    greatest-within at c.args.r c.args.kind (length at.case.places) c.args.best (rule-long at c.self.invariant.0) best

pub returns : goal.returns
returns c =
    let at : State = record { case = c.self.inside.case; servers = c.self.inside.servers } in
    let best : IsGreatestAmong at c.args.r c.args.kind c.args.best = subst (λ (t : State). IsGreatestAmong t c.args.r c.args.kind c.args.best) (sym c.self.view_is) c.requires.best in
    let there : c.args.kind < at.case.kinds = subst (λ (t : State). c.args.kind < t.case.kinds) (sym c.self.view_is) c.requires.kind in
    let is = c.larger.ensures ∙ ap (λ (xs : List (Option ℕ)). larger at.case c.args.r c.args.kind c.args.best (get_or xs c.args.kind None)) c.as_slice.ensures.items in
    subst (λ (t : State). IsGreatestAmong t c.args.r (c.args.kind + 1) c.larger.result) c.self.view_is
    (subst (λ (o : Option ℕ). IsGreatestAmong at c.args.r (c.args.kind + 1) o) (sym is)
    (larger-next at c.args.r c.args.kind c.args.best (get_or c.self.inside.firsts c.args.kind None) (c.self.invariant.2.each c.args.kind there) best))
