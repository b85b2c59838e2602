use Rattle.std.proofs.Common.{◌≡◌, ℕ, ◌<◌, Bool, true, false, get_or, set, length, ap, sym, ◌∙◌, arith, refl}
use Rattle.std.specs.Prelude.{◌==◌, ◌&&◌}
use Rattle.std.specs.List.{list_any}
use Rattle.std.proofs.lemmas.List.{length-set, take_all}
use Rattle.std.proofs.lemmas.List.FromFn.{fill_by_all}
use Rattle.plan_model.specs.declared.cases.Place.{Place}
use Rattle.plan_model.specs.Units.{is_for, no_place}
use Rattle.program_rows.specs.Programs.{board_in_center}
use Rattle.program_rows.proofs.Marks.{marks-put, marks-keep}
use Rattle.program_rows.proofs.lines.boards_in.Goals as goal
use Rattle.program_rows.proofs.lines.boards_in.Goals.{then-stands_in, else-stands_in}

and-true : (a b : Bool) → b ≡ true → (a && b) ≡ a
and-true true b e = e
and-true false b e = refl

and-false : (a b : Bool) → b ≡ false → (a && b) ≡ false
and-false true b e = e
and-false false b e = refl

pub loop-place-preserved : goal.loop-place-preserved
loop-place-preserved c =
    let case = c.args.case.now in
    let i = c.loop-place.place-index in
    let given = c.as_slice-place-items.result.now in
    let same : given ≡ case.places = c.as_slice-place-items.ensures.items in
    let within : i < length case.places = omega (arith, ap length same) in
    let t : ℕ → Place → Bool = λ k s. (s.board == k) && is_for s.center c.args.center in
    let read = ap (λ ps. get_or ps i no_place) same in
    let answer = ap (λ p. is_for p.center c.args.center) (sym read) ∙ sym c.stands_in.ensures in
    elim c.if-stands_in.branch [
      | then-stands_in w ↦ (
        ap (λ v. length v.items) w.flags-is ∙ length-set c.loop-place.flags.items (get_or given i no_place).board true ∙ c.loop-place.invariant.0,
        λ k below. ap (λ v. get_or v.items k false) w.flags-is
            ∙ ap (λ p. get_or (set c.loop-place.flags.items p.board true) k false) read
            ∙ marks-put c.loop-place.flags.items case.boards t case.places i no_place within c.loop-place.invariant.0 c.loop-place.invariant.1 (get_or case.places i no_place).board
            (λ j. and-true ((get_or case.places i no_place).board == j) (is_for (get_or case.places i no_place).center c.args.center) (answer ∙ w.if-stands_in.true)) k below,
      )
      | else-stands_in w ↦ (
        ap (λ v. length v.items) w.flags-is ∙ c.loop-place.invariant.0,
        λ k below. ap (λ v. get_or v.items k false) w.flags-is
            ∙ marks-keep c.loop-place.flags.items case.boards t case.places i no_place within c.loop-place.invariant.0 c.loop-place.invariant.1 (λ k. and-false ((get_or case.places i no_place).board == k) (is_for (get_or case.places i no_place).center c.args.center) (answer ∙ w.if-stands_in.false)) k below,
      )
    ]

pub returns : goal.returns
returns c =
    let case = c.args.case.now in
    let all = c.as_slice-place-items.ensures.items in
    fill_by_all (board_in_center case c.args.center) c.loop-place.flags.items case.boards false c.loop-place.invariant.0
    (λ k within. c.loop-place.invariant.1 k within
    ∙ ap (λ ps. list_any (λ s. (s.board == k) && is_for s.center c.args.center) ps) (take_all c.loop-place.place-index case.places (omega (arith, ap length all))))
