use Rattle.std.proofs.Common.{◌<◌, arith, ap, sym, ◌∙◌, refl, subst, None}
use Rattle.std.proofs.lemmas.List.{length-set}
use Rattle.plan_model.specs.declared.cases.Place.{Place}
use Rattle.plan_model.specs.Units.{value_for}
use Rattle.steady_plans.specs.Tables.{one_part}
use Rattle.steady_plans.proofs.Bounds.{cell-within, board-in_range, center-in_range}
use Rattle.steady_plans.proofs.Costs.{rack-in_range}
use Rattle.steady_plans.proofs.Writes.{take-table}
use Rattle.steady_plans.proofs.sums.take.Goals as goal

one : 0 < 1
one = omega arith

pub subtract-requires : goal.subtract-requires
subtract-requires c = cell-within c.args.case.now c.requires.sums.0 one_part 1 c.args.sums.now.all.items c.requires.sums.1.all 0 c.args.r one c.requires.there

pub subtract-requires-2 : goal.subtract-requires-2
subtract-requires-2 c = cell-within c.args.case.now c.requires.sums.0 (λ t. t.board) c.args.case.now.boards c.args.sums.now.boards.items c.requires.sums.1.boards c.place_at-place.result.board c.args.r (subst (λ (p : Place). p.board < c.args.case.now.boards) (sym c.place_at-place.ensures) (board-in_range c.args.case.now c.args.server c.requires.in_range)) c.requires.there

pub subtract-requires-3 : goal.subtract-requires-3
subtract-requires-3 c = cell-within c.args.case.now c.requires.sums.0 (λ t. t.rack) c.args.case.now.racks c.args.sums.now.racks.items c.requires.sums.1.racks c.place_at-place.result.rack c.args.r (subst (λ (p : Place). p.rack < c.args.case.now.racks) (sym c.place_at-place.ensures) (rack-in_range c.args.case.now c.args.server c.requires.in_range)) c.requires.there

pub subtract-requires-4 : goal.subtract-requires-4
subtract-requires-4 c = cell-within c.args.case.now c.requires.sums.0 (λ t. t.center) c.args.case.now.centers c.args.sums.now.centers.items c.requires.sums.1.centers c.place_at-place.result.center c.args.r (subst (λ (p : Place). p.center < c.args.case.now.centers) (sym c.place_at-place.ensures) (center-in_range c.args.case.now c.args.server c.requires.in_range)) c.requires.there

pub returns : goal.returns
returns c = λ a are given. record {
  places = length-set a.of c.args.server None ∙ are.places;
  all = take-table c.args.case.now a one_part 1 c.args.sums.now.all.items c.subtract.new.cells.items c.args.server c.args.r 0 c.value-amount.result are.all are.places c.requires.in_range c.requires.there one
      refl (c.value-amount.ensures.value ∙ ap (λ (p : Place). value_for c.args.case.now c.args.r p.kind) c.place_at-place.ensures) given c.subtract.ensures;
  boards = take-table c.args.case.now a (λ t. t.board) c.args.case.now.boards c.args.sums.now.boards.items c.subtract-2.new.cells.items c.args.server c.args.r c.place_at-place.result.board c.value-amount.result are.boards are.places c.requires.in_range c.requires.there (board-in_range c.args.case.now c.args.server c.requires.in_range)
      (ap (λ (p : Place). p.board) c.place_at-place.ensures) (c.value-amount.ensures.value ∙ ap (λ (p : Place). value_for c.args.case.now c.args.r p.kind) c.place_at-place.ensures) given c.subtract-2.ensures;
  racks = take-table c.args.case.now a (λ t. t.rack) c.args.case.now.racks c.args.sums.now.racks.items c.subtract-3.new.cells.items c.args.server c.args.r c.place_at-place.result.rack c.value-amount.result are.racks are.places c.requires.in_range c.requires.there (rack-in_range c.args.case.now c.args.server c.requires.in_range)
      (ap (λ (p : Place). p.rack) c.place_at-place.ensures) (c.value-amount.ensures.value ∙ ap (λ (p : Place). value_for c.args.case.now c.args.r p.kind) c.place_at-place.ensures) given c.subtract-3.ensures;
  centers = take-table c.args.case.now a (λ t. t.center) c.args.case.now.centers c.args.sums.now.centers.items c.subtract-4.new.cells.items c.args.server c.args.r c.place_at-place.result.center c.value-amount.result are.centers are.places c.requires.in_range c.requires.there (center-in_range c.args.case.now c.args.server c.requires.in_range)
      (ap (λ (p : Place). p.center) c.place_at-place.ensures) (c.value-amount.ensures.value ∙ ap (λ (p : Place). value_for c.args.case.now c.args.r p.kind) c.place_at-place.ensures) given c.subtract-4.ensures;
}
