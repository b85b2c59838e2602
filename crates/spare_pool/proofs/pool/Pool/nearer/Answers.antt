use Rattle.std.proofs.Common.{◌<◌, ◌+◌, ◌∙◌, ℕ, ap, sym, subst, length, get_or, List, None}
use Rattle.std.specs.Prelude.{Option}
use Rattle.spare_pool.specs.States.{State}
use Rattle.spare_pool.specs.Choices.{lesser}
use Rattle.spare_pool.specs.Spares.{IsLeastAmong}
use Rattle.spare_pool.proofs.Rules.{rule-long}
use Rattle.spare_pool.proofs.ChoiceFacts.{lesser-next, least-within}
use Rattle.spare_pool.proofs.pool.Pool.nearer.Goals as goal

pub lesser-requires-clause-there : goal.lesser-requires-clause-there
lesser-requires-clause-there c =
    let at : State = record { case = c.self.inside.case; servers = c.self.inside.servers } in
    let best : IsLeastAmong at c.args.r c.args.least c.args.kind c.args.best = subst (λ (t : State). IsLeastAmong t c.args.r c.args.least c.args.kind c.args.best) (sym c.self.view_is) c.requires.best in
    least-within at c.args.r c.args.least c.args.kind (length at.case.places) c.args.best (rule-long at c.self.invariant.0) best

pub returns : goal.returns
returns c =
    let at : State = record { case = c.self.inside.case; servers = c.self.inside.servers } in
    let best : IsLeastAmong at c.args.r c.args.least c.args.kind c.args.best = subst (λ (t : State). IsLeastAmong t c.args.r c.args.least c.args.kind c.args.best) (sym c.self.view_is) c.requires.best in
    let there : c.args.kind < at.case.kinds = subst (λ (t : State). c.args.kind < t.case.kinds) (sym c.self.view_is) c.requires.kind in
    let is = c.lesser.ensures ∙ ap (λ (xs : List (Option ℕ)). lesser at.case c.args.r c.args.least c.args.kind c.args.best (get_or xs c.args.kind None)) c.as_slice.ensures.items in
    subst (λ (t : State). IsLeastAmong t c.args.r c.args.least (c.args.kind + 1) c.lesser.result) c.self.view_is
    (subst (λ (o : Option ℕ). IsLeastAmong at c.args.r c.args.least (c.args.kind + 1) o) (sym is)
    (lesser-next at c.args.r c.args.least c.args.kind c.args.best (get_or c.self.inside.firsts c.args.kind None) (c.self.invariant.2.each c.args.kind there) best))
