use Rattle.std.proofs.Common.{◌≡◌, ◌<◌, ◌∙◌, ℕ, ap, sym, subst, true, length, get_or, List, arith}
use Rattle.std.specs.Prelude.{Option}
use Rattle.std.proofs.lemmas.List.{length-set}
use Rattle.plan_model.specs.Units.{place_of}
use Rattle.spare_pool.specs.declared.standings.Standing.{Standing}
use Rattle.spare_pool.specs.States.{State, standing_of, no_standing, counts_for, may_stand, state_rule}
use Rattle.spare_pool.specs.Sums.{AreUnits, HasUnits, HasRoom, lessened, raised}
use Rattle.spare_pool.proofs.Rules.{rule-long, put-rule}
use Rattle.spare_pool.proofs.SumFacts.{has-units, has-room, units-put}
use Rattle.spare_pool.proofs.pool.Pool.put.Goals as goal

pub lessen-requires-clause-there : goal.lessen-requires-clause-there
lessen-requires-clause-there c =
    let at : State = record { case = c.self.inside.case; servers = c.self.inside.servers } in
    let within : c.args.server < length at.servers = subst (λ (t : State). c.args.server < length t.servers) (sym c.self.view_is) c.requires.there in
    omega (arith, within, rule-long at c.self.invariant.0)

pub lessen-requires-clause-some : goal.lessen-requires-clause-some
lessen-requires-clause-some c =
    let at : State = record { case = c.self.inside.case; servers = c.self.inside.servers } in
    let within : c.args.server < length at.servers = subst (λ (t : State). c.args.server < length t.servers) (sym c.self.view_is) c.requires.there in
    let from : c.counts_for.result ≡ counts_for (standing_of at c.args.server) =
    c.counts_for.ensures ∙ ap (λ (xs : List Standing). counts_for (get_or xs c.args.server no_standing)) c.as_slice.ensures.items in
    subst (λ (o : Option ℕ). HasUnits at.case c.args.server o c.self.inside.units) (sym from) (has-units at c.args.server c.self.inside.units c.self.invariant.0 within c.self.invariant.1)

pub raise-requires-clause-there : goal.raise-requires-clause-there
raise-requires-clause-there c =
    let at : State = record { case = c.self.inside.case; servers = c.self.inside.servers } in
    let within : c.args.server < length at.servers = subst (λ (t : State). c.args.server < length t.servers) (sym c.self.view_is) c.requires.there in
    omega (arith, within, rule-long at c.self.invariant.0)

pub raise-requires-clause-room : goal.raise-requires-clause-room
raise-requires-clause-room c =
    let at : State = record { case = c.self.inside.case; servers = c.self.inside.servers } in
    let within : c.args.server < length at.servers = subst (λ (t : State). c.args.server < length t.servers) (sym c.self.view_is) c.requires.there in
    let stands : may_stand at.case (place_of at.case c.args.server, c.args.new) ≡ true =
    subst (λ (t : State). may_stand t.case (place_of t.case c.args.server, c.args.new) ≡ true) (sym c.self.view_is) c.requires.stands in
    let from : c.counts_for.result ≡ counts_for (standing_of at c.args.server) =
    c.counts_for.ensures ∙ ap (λ (xs : List Standing). counts_for (get_or xs c.args.server no_standing)) c.as_slice.ensures.items in
    let left : c.lessen.new.units ≡ lessened at.case c.args.server (counts_for (standing_of at c.args.server)) c.self.inside.units =
    c.lessen.ensures ∙ ap (λ (o : Option ℕ). lessened at.case c.args.server o c.self.inside.units) from in
    subst (λ (o : Option ℕ). HasRoom at.case o c.lessen.new.units) (sym c.counts_for-2.ensures)
    (has-room at c.args.server c.args.new c.self.inside.units c.lessen.new.units c.self.invariant.0 within c.self.invariant.1 left stands)

pub renew-requires-clause-long : goal.renew-requires-clause-long
renew-requires-clause-long c =
    let at : State = record { case = c.self.inside.case; servers = c.self.inside.servers } in
    ap (λ (xs : List Standing). length xs) c.set.ensures ∙ length-set c.self.inside.servers c.args.server c.args.new ∙ rule-long at c.self.invariant.0

pub renew-requires-clause-there : goal.renew-requires-clause-there
renew-requires-clause-there c =
    let within : c.args.server < length c.self.inside.servers = subst (λ (t : State). c.args.server < length t.servers) (sym c.self.view_is) c.requires.there in
    omega (arith, within, ap (λ (xs : List Standing). length xs) c.set.ensures, length-set c.self.inside.servers c.args.server c.args.new)

pub renew-requires-clause-kinds : goal.renew-requires-clause-kinds
renew-requires-clause-kinds c = c.self.invariant.2.long

pub invariant_of-self : goal.invariant_of-self
invariant_of-self c =
    let at : State = record { case = c.self.inside.case; servers = c.self.inside.servers } in
    let within : c.args.server < length at.servers = subst (λ (t : State). c.args.server < length t.servers) (sym c.self.view_is) c.requires.there in
    let stands : may_stand at.case (place_of at.case c.args.server, c.args.new) ≡ true =
    subst (λ (t : State). may_stand t.case (place_of t.case c.args.server, c.args.new) ≡ true) (sym c.self.view_is) c.requires.stands in
    let from : c.counts_for.result ≡ counts_for (standing_of at c.args.server) =
    c.counts_for.ensures ∙ ap (λ (xs : List Standing). counts_for (get_or xs c.args.server no_standing)) c.as_slice.ensures.items in
    let left : c.lessen.new.units ≡ lessened at.case c.args.server (counts_for (standing_of at c.args.server)) c.self.inside.units =
    c.lessen.ensures ∙ ap (λ (o : Option ℕ). lessened at.case c.args.server o c.self.inside.units) from in
    let all : c.raise.new.units ≡ raised at.case c.args.server (counts_for c.args.new) c.lessen.new.units =
    c.raise.ensures ∙ ap (λ (o : Option ℕ). raised at.case c.args.server o c.lessen.new.units) c.counts_for-2.ensures in
    let some : HasUnits at.case c.args.server (counts_for (standing_of at c.args.server)) c.self.inside.units = has-units at c.args.server c.self.inside.units c.self.invariant.0 within c.self.invariant.1 in
    let room : HasRoom at.case (counts_for c.args.new) c.lessen.new.units =
    has-room at c.args.server c.args.new c.self.inside.units c.lessen.new.units c.self.invariant.0 within c.self.invariant.1 left stands in (
      subst (λ (xs : List Standing). state_rule (record { case = at.case; servers = xs }) ≡ true) (sym c.set.ensures) (put-rule at c.args.server c.args.new c.self.invariant.0 within stands),
      subst (λ (xs : List Standing). AreUnits (record { case = at.case; servers = xs }) c.raise.new.units) (sym c.set.ensures)
          (units-put at c.args.server c.args.new c.self.inside.units c.lessen.new.units c.raise.new.units (rule-long at c.self.invariant.0) within c.self.invariant.1 some left room all),
      c.renew.ensures c.self.inside.servers c.args.new c.set.ensures c.self.invariant.2,
    )
