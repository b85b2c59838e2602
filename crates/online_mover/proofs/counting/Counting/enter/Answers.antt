use Rattle.std.proofs.Common.{◌≡◌, ◌<◌, length, get_or, sym, ap, subst, arith, None}
use Rattle.online_mover.specs.Sums.{Counted}
use Rattle.plan_model.specs.declared.cases.Place.{Place}
use Rattle.plan_model.specs.Units.{place_of}
use Rattle.plan_model.proofs.SumLemmas.{value-most}
use Rattle.online_mover.proofs.SumsFacts.{total-few, board-most, center-most, enter-at, board-few, center-few}
use Rattle.online_mover.proofs.counting.Counting.enter.Goals as goal

pub raise-requires-clause-board : goal.raise-requires-clause-board
raise-requires-clause-board c =
    let there : c.args.server < length c.self.inside.case.places = subst (λ (v : Counted). c.args.server < length v.case.places) (sym c.self.view_is) c.requires.there in
    omega (arith, ap (λ (p : Place). p.board) c.place-at.ensures, board-few c.self.inside.case c.args.server there)

pub raise-requires-clause-center : goal.raise-requires-clause-center
raise-requires-clause-center c =
    let there : c.args.server < length c.self.inside.case.places = subst (λ (v : Counted). c.args.server < length v.case.places) (sym c.self.view_is) c.requires.there in
    omega (arith, ap (λ (p : Place). p.center) c.place-at.ensures, center-few c.self.inside.case c.args.server there)

pub raise-requires-clause-units : goal.raise-requires-clause-units
raise-requires-clause-units c =
    let in_range : c.args.r < length c.self.inside.case.wants = subst (λ (v : Counted). c.args.r < length v.case.wants) (sym c.self.view_is) c.requires.in_range in
    omega (arith, value-most c.self.inside.case c.args.r (place_of c.self.inside.case c.args.server).kind in_range, c.value-units.ensures)

pub raise-requires-clause-total : goal.raise-requires-clause-total
raise-requires-clause-total c =
    let in_range : c.args.r < length c.self.inside.case.wants = subst (λ (v : Counted). c.args.r < length v.case.wants) (sym c.self.view_is) c.requires.in_range in
    omega (arith, total-few c.self.inside.case c.self.inside.counts c.self.inside.sums c.args.r c.self.invariant.0 c.self.invariant.1 in_range)

pub raise-requires-clause-on_board : goal.raise-requires-clause-on_board
raise-requires-clause-on_board c =
    let in_range : c.args.r < length c.self.inside.case.wants = subst (λ (v : Counted). c.args.r < length v.case.wants) (sym c.self.view_is) c.requires.in_range in
    omega (arith, board-most c.self.inside.case c.self.inside.counts c.self.inside.sums c.args.r c.place-at.result.board c.self.invariant.0 c.self.invariant.1 in_range)

pub raise-requires-clause-in_center : goal.raise-requires-clause-in_center
raise-requires-clause-in_center c =
    let in_range : c.args.r < length c.self.inside.case.wants = subst (λ (v : Counted). c.args.r < length v.case.wants) (sym c.self.view_is) c.requires.in_range in
    omega (arith, center-most c.self.inside.case c.self.inside.counts c.self.inside.sums c.args.r c.place-at.result.center c.self.invariant.0 c.self.invariant.1 in_range)

pub invariant_of-self : goal.invariant_of-self
invariant_of-self c =
    let in_range : c.args.r < length c.self.inside.case.wants = subst (λ (v : Counted). c.args.r < length v.case.wants) (sym c.self.view_is) c.requires.in_range in
    let there : c.args.server < length c.self.inside.case.places = subst (λ (v : Counted). c.args.server < length v.case.places) (sym c.self.view_is) c.requires.there in
    let free : get_or c.self.inside.counts.of c.args.server None ≡ None = subst (λ (v : Counted). get_or v.counts.of c.args.server None ≡ None) (sym c.self.view_is) c.requires.free in
    enter-at c.self.inside.case c.self.inside.counts c.self.inside.sums c.raise.new.sums c.set.new.self c.args.r c.args.server c.place-at.result c.value-units.result
    c.self.invariant.0 there free c.self.invariant.1 in_range c.place-at.ensures c.value-units.ensures c.raise.ensures c.set.ensures
