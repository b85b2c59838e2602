use Rattle.std.proofs.Common.{refl, sym, ◌∙◌, arith, inl, inr}
use Rattle.std.proofs.lemmas.Bool.{true≢false}
use Rattle.closed_boxes.proofs.Serving.{tops_column}
use Rattle.closed_boxes.proofs.Weights.{no_helper, no_weight, weighed, above_none}
use Rattle.closed_boxes.proofs.boxes.weigh_row.Goals.{then-left-helper-eq0-via-then-left-helper-eq0, then-left-helper-eq0-via-else-left-helper-eq0+then-point-helper-eq0, then-left-helper-eq0-via-else-left-helper-eq0+else-point-helper-eq0+then-not-is_tight}
use Rattle.closed_boxes.proofs.boxes.weigh_row.Goals as goal

pub returns-in_default : goal.returns-in_default
returns-in_default c = no_helper c.args.program.now c.args.point.now c.args.row c.args.tops.now.items c.args.left.now c.requires.so_far c.in_default.ensures.none

pub returns-then-left-helper-eq0 : goal.returns-then-left-helper-eq0
returns-then-left-helper-eq0 c =
    let none = no_weight c.args.program.now c.args.point.now c.args.row c.args.tops.now.items c.args.left.now c.in-Some.helper c.requires.so_far c.in-Some.ensures.some in
    elim c.then-left-helper-eq0.branch [
      | then-left-helper-eq0-via-then-left-helper-eq0 w ↦ none (inl w.if-left-helper-eq0.true)
      | then-left-helper-eq0-via-else-left-helper-eq0+then-point-helper-eq0 w ↦ none (inr (inl w.if-point-helper-eq0.true))
      | then-left-helper-eq0-via-else-left-helper-eq0+else-point-helper-eq0+then-not-is_tight w ↦ none (inr (inr (λ e. true≢false (sym (w.is_tight.ensures.1 e) ∙ w.if-not-is_tight.true))))
    ]

pub returns : goal.returns
returns c =
    let some = c.if-left-helper-eq0.false in
    let columns = tops_column c.args.program.now.columns c.in-Some.helper c.in-Some.ensures.some.helper in
    let size = c.requires.so_far.size in
    rw c.in_ok-push.ensures.items
    (weighed c.args.program.now c.args.point.now c.args.row c.args.tops.now.items c.args.left.now c.in-Some.helper (record { row = c.args.row; num = c.from.result }) c.requires.so_far c.in-Some.ensures.some (omega (arith, size, columns))
    (c.is_tight.ensures.0 c.if-not-is_tight.false) (above_none _ some) refl c.from.ensures)
