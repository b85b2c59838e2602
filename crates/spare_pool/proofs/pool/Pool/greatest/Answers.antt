use Rattle.std.proofs.Common.{◌≤◌, sym, subst, arith}
use Rattle.spare_pool.specs.States.{State}
use Rattle.spare_pool.specs.Spares.{IsGreatestAmong, FindsGreatest}
use Rattle.spare_pool.proofs.ChoiceFacts.{greatest-start, greatest-end}
use Rattle.spare_pool.proofs.pool.Pool.greatest.Goals as goal

pub loop-kind-init : goal.loop-kind-init
loop-kind-init c = greatest-start c.args.self.now c.args.r

pub returns : goal.returns
returns c =
    let at : State = record { case = c.self.inside.case; servers = c.self.inside.servers } in
    let all : at.case.kinds ≤ c.loop-kind.kind = omega arith in
    subst (λ (t : State). FindsGreatest t c.args.r c.loop-kind.best) c.self.view_is
    (greatest-end at c.args.r c.loop-kind.kind c.loop-kind.best c.self.invariant.0 all
    (subst (λ (t : State). IsGreatestAmong t c.args.r c.loop-kind.kind c.loop-kind.best) (sym c.self.view_is) c.loop-kind.invariant))
