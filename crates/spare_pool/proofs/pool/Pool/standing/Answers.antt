use Rattle.std.proofs.Common.{◌<◌, ap, sym, subst, length, get_or, List}
use Rattle.std.specs.Prelude.{IfSome}
use Rattle.spare_pool.specs.declared.standings.Standing.{Standing}
use Rattle.spare_pool.specs.States.{State, no_standing, value_of}
use Rattle.spare_pool.proofs.Rules.{serves-there}
use Rattle.spare_pool.proofs.pool.Pool.standing.Goals as goal

pub returns-clause-serves : goal.returns-clause-serves
returns-clause-serves c =
    let at : State = record { case = c.self.inside.case; servers = c.self.inside.servers } in
    let within : c.args.server < length at.servers = subst (λ (t : State). c.args.server < length t.servers) (sym c.self.view_is) c.requires in
    let read = ap (λ (xs : List Standing). get_or xs c.args.server no_standing) c.as_slice.ensures.items in
    subst (λ (t : State). IfSome (get_or c.as_slice.result.now c.args.server no_standing).serves (λ r. (r < length t.case.wants) × (0 < value_of t r c.args.server))) c.self.view_is
    (subst (λ (x : Standing). IfSome x.serves (λ r. (r < length at.case.wants) × (0 < value_of at r c.args.server))) (sym read) (serves-there at c.args.server c.self.invariant.0 within))
