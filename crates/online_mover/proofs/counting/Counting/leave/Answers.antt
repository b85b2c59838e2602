use Rattle.std.proofs.Common.{◌≡◌, ◌∙◌, ◌<◌, ℕ, List, length, get_or, sym, ap, subst, arith, Some, None}
use Rattle.std.specs.Prelude.{Option}
use Rattle.online_mover.specs.Sums.{Counted, sums_of}
use Rattle.plan_model.specs.declared.cases.Place.{Place}
use Rattle.online_mover.proofs.SumsFacts.{leave-total, leave-board, leave-center, leave-at, counts-range, board-few, center-few}
use Rattle.online_mover.proofs.counting.Counting.leave.Goals as goal

pub lessen-requires-clause-board : goal.lessen-requires-clause-board
lessen-requires-clause-board c =
    let there : c.args.server < length c.self.inside.case.places = subst (λ (v : Counted). c.args.server < length v.case.places) (sym c.self.view_is) c.requires in
    omega (arith, ap (λ (p : Place). p.board) c.place-at.ensures, board-few c.self.inside.case c.args.server there)

pub lessen-requires-clause-center : goal.lessen-requires-clause-center
lessen-requires-clause-center c =
    let there : c.args.server < length c.self.inside.case.places = subst (λ (v : Counted). c.args.server < length v.case.places) (sym c.self.view_is) c.requires in
    omega (arith, ap (λ (p : Place). p.center) c.place-at.ensures, center-few c.self.inside.case c.args.server there)

pub lessen-requires-clause-total : goal.lessen-requires-clause-total
lessen-requires-clause-total c =
    let there : c.args.server < length c.self.inside.case.places = subst (λ (v : Counted). c.args.server < length v.case.places) (sym c.self.view_is) c.requires in
    let counts : get_or c.self.inside.counts.of c.args.server None ≡ Some c.in-Some.r = sym (ap (λ (xs : List (Option ℕ)). get_or xs c.args.server None) c.as_slice.ensures.items) ∙ c.in-Some.is in
    let in_range = counts-range c.self.inside.case c.self.inside.counts c.args.server c.in-Some.r c.self.invariant.0 there counts in
    omega (arith, leave-total c.self.inside.case c.self.inside.counts c.self.inside.sums c.in-Some.r c.args.server c.self.invariant.0 there counts c.self.invariant.1 in_range, c.value-units.ensures)

pub lessen-requires-clause-on_board : goal.lessen-requires-clause-on_board
lessen-requires-clause-on_board c =
    let there : c.args.server < length c.self.inside.case.places = subst (λ (v : Counted). c.args.server < length v.case.places) (sym c.self.view_is) c.requires in
    let counts : get_or c.self.inside.counts.of c.args.server None ≡ Some c.in-Some.r = sym (ap (λ (xs : List (Option ℕ)). get_or xs c.args.server None) c.as_slice.ensures.items) ∙ c.in-Some.is in
    let in_range = counts-range c.self.inside.case c.self.inside.counts c.args.server c.in-Some.r c.self.invariant.0 there counts in
    omega (
      arith,
      leave-board c.self.inside.case c.self.inside.counts c.self.inside.sums c.in-Some.r c.args.server c.self.invariant.0 there counts c.self.invariant.1 in_range,
      ap (λ (p : Place). get_or (sums_of c.self.inside.sums c.in-Some.r).boards p.board 0) c.place-at.ensures,
      c.value-units.ensures,
    )

pub lessen-requires-clause-in_center : goal.lessen-requires-clause-in_center
lessen-requires-clause-in_center c =
    let there : c.args.server < length c.self.inside.case.places = subst (λ (v : Counted). c.args.server < length v.case.places) (sym c.self.view_is) c.requires in
    let counts : get_or c.self.inside.counts.of c.args.server None ≡ Some c.in-Some.r = sym (ap (λ (xs : List (Option ℕ)). get_or xs c.args.server None) c.as_slice.ensures.items) ∙ c.in-Some.is in
    let in_range = counts-range c.self.inside.case c.self.inside.counts c.args.server c.in-Some.r c.self.invariant.0 there counts in
    omega (
      arith,
      leave-center c.self.inside.case c.self.inside.counts c.self.inside.sums c.in-Some.r c.args.server c.self.invariant.0 there counts c.self.invariant.1 in_range,
      ap (λ (p : Place). get_or (sums_of c.self.inside.sums c.in-Some.r).centers p.center 0) c.place-at.ensures,
      c.value-units.ensures,
    )

pub invariant_of-self : goal.invariant_of-self
invariant_of-self c =
    let there : c.args.server < length c.self.inside.case.places = subst (λ (v : Counted). c.args.server < length v.case.places) (sym c.self.view_is) c.requires in
    let counts : get_or c.self.inside.counts.of c.args.server None ≡ Some c.in-Some.r = sym (ap (λ (xs : List (Option ℕ)). get_or xs c.args.server None) c.as_slice.ensures.items) ∙ c.in-Some.is in
    leave-at c.self.inside.case c.self.inside.counts c.self.inside.sums c.lessen.new.sums c.set.new.self c.in-Some.r c.args.server c.place-at.result c.value-units.result
    c.self.invariant.0 there counts c.self.invariant.1 c.place-at.ensures c.value-units.ensures c.lessen.ensures c.set.ensures
