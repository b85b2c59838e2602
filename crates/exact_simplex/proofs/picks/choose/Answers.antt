use Rattle.std.proofs.Common.{arith, add-one, ap, subst, ◌≡◌, ◌∙◌, inl, inr, ℕ, List, []}
use Rattle.std.proofs.lemmas.List.{get_or_read}
use Rattle.exact_fraction.specs.declared.fraction.Fraction.{Fraction}
use Rattle.exact_simplex.specs.Cells.{cell_of, row_of}
use Rattle.exact_simplex.specs.Choices.{ChoiceFits, IsHeld}
use Rattle.exact_simplex.proofs.HeldSteps.{first_held, first_fits}
use Rattle.exact_simplex.proofs.picks.choose.Goals as goal

pub loop-other-init : goal.loop-other-init
loop-other-init c =
    let first = c.requires.first in
    let cells = c.args.cells.now in
    let is_row : c.index-cells-place.result ≡ row_of cells c.args.place = get_or_read cells c.args.place c.index-cells-place.result c.requires.place c.index-cells-place.is [] in
    record {
      within = omega (arith);
      candidate = first.1;
      held = λ t h. rw add-one (first_held c.args.cells.now t c.args.place c.args.units c.args.first first, first_fits c.args.cells.now t c.args.place c.args.units c.args.first first);
      rising = c.taken_at.ensures.rising;
      values = λ k p. c.taken_at.ensures.later k (omega arith) ∙ c.kept_from-seen.ensures.values k (omega arith) ∙ c.kept.ensures.values k ∙ ap (λ (xs : List Fraction). cell_of xs k) is_row;
    }

pub loop-other-preserved : goal.loop-other-preserved
loop-other-preserved c =
    let w = c.loop-other.invariant.within in
    record {
      within = elim c.in-Some.ensures.next [ inl e ↦ omega arith | inr e ↦ omega arith ];
      candidate = c.in-Some.ensures.candidate;
      held = λ t h.
          (let before = c.loop-other.invariant.held t h in
          let next = c.in-Some.ensures.gives c.args.units t h c.loop-other-test.true before.0 in
          rw add-one (next.0, next.1 before.1));
      rising = c.taken_at-in-loop-other.ensures.rising;
      values = λ k p. c.taken_at-in-loop-other.ensures.later k (omega arith) ∙ c.loop-other.invariant.values k (omega arith);
    }

pub returns-clause-gives : goal.returns-clause-gives
returns-clause-gives c = λ t h.
    let first = c.requires.first.0 in
    let same : c.loop-other.other ≡ c.args.units = omega arith in
    subst (λ (m : ℕ). IsHeld c.args.cells.now t c.args.place m c.loop-other.held × ChoiceFits m c.args.cells.now t c.args.place) same (c.loop-other.invariant.held t h)

pub returns-in_default-clause-gives : goal.returns-in_default-clause-gives
returns-in_default-clause-gives c = λ t h. c.in_default.ensures.gives c.args.units t h c.loop-other-test.true (c.loop-other.invariant.held t h).0
