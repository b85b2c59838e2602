use Rattle.std.proofs.Common.{ℕ, List, Option, arith, ap, sym, subst, ◌∙◌}
use Rattle.std.specs.Prelude.{IsTrue}
use Rattle.plan_model.specs.declared.cases.Place.{Place}
use Rattle.plan_model.specs.declared.losses.Lost.TheVariants.{Board, Center}
use Rattle.plan_model.specs.Allowed.{fits}
use Rattle.plan_model.specs.Losses.{is_lost}
use Rattle.plan_model.specs.Units.{value_for}
use Rattle.first_plans.specs.declared.sums.Sums.{Sums}
use Rattle.first_plans.specs.FirstPlan.{given}
use Rattle.first_plans.specs.Sums.{AreSums}
use Rattle.plan_model.proofs.SumLemmas.{units-most}
use Rattle.first_plans.proofs.Given.{given-fits}
use Rattle.first_plans.proofs.Running.{give-sums, where-most}
use Rattle.first_plans.proofs.filling.give.Goals as goal

pub add-requires-clause-all : goal.add-requires-clause-all
add-requires-clause-all c = omega (arith, c.requires.sums.all, units-most c.args.case.now c.args.a.now c.args.r c.requires.fitting c.requires.in_range)

pub add-requires-clause-on_board : goal.add-requires-clause-on_board
add-requires-clause-on_board c =
    let lost = Board c.place_at-place.result.now.board in
    omega (arith, c.requires.sums.lost lost c.place_at-place.ensures.board, where-most (is_lost lost) c.args.case.now c.args.a.now c.args.r c.requires.fitting c.requires.in_range)

pub add-requires-clause-in_center : goal.add-requires-clause-in_center
add-requires-clause-in_center c =
    let lost = Center c.place_at-place.result.now.center in
    omega (arith, c.requires.sums.lost lost c.place_at-place.ensures.center, where-most (is_lost lost) c.args.case.now c.args.a.now c.args.r c.requires.fitting c.requires.in_range)

pub returns-clause-fitting : goal.returns-clause-fitting
returns-clause-fitting c =
    subst (λ (of : List (Option ℕ)). IsTrue (fits c.args.case.now (record { of = of }))) (sym c.set.ensures)
    (given-fits c.args.case.now c.args.a.now c.args.server c.args.r c.requires.fitting c.requires.in_range)

pub returns-clause-sums : goal.returns-clause-sums
returns-clause-sums c =
    subst (λ (of : List (Option ℕ)). AreSums c.args.case.now (record { of = of }) c.args.r c.add.new.self) (sym c.set.ensures)
    (subst (λ (sums : Sums). AreSums c.args.case.now (given c.args.a.now c.args.server c.args.r) c.args.r sums) (sym c.add.ensures)
    (give-sums c.args.case.now c.args.a.now c.args.r c.args.server c.place_at-place.result.now c.value.result c.args.sums.now c.requires.fitting c.requires.there c.requires.free
    c.place_at-place.ensures.board c.place_at-place.ensures.center c.place_at-place.ensures.place
    (c.value.ensures.value ∙ ap (λ (s : Place). value_for c.args.case.now c.args.r s.kind) c.place_at-place.ensures.place) c.requires.sums))
