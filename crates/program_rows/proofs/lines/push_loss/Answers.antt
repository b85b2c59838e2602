use Rattle.std.proofs.Common.{◌≡◌, Some, [], ◌∷◌, ◌++◌, ap, sym, ◌∙◌}
use Rattle.std.specs.Prelude.{map, not}
use Rattle.std.specs.List.{range_with_len}
use Rattle.plan_model.specs.declared.losses.Lost.TheVariants.{Center}
use Rattle.program_rows.specs.Programs.{loss_line, board_in_center}
use Rattle.program_rows.specs.declared.sums.Among.TheVariants.{OffBoards}
use Rattle.program_rows.proofs.CenterBoards.{flags-are, left-row}
use Rattle.program_rows.proofs.lines.push_loss.Goals as goal

pub returns-in_ok-push_left-in-Center : goal.returns-in_ok-push_left-in-Center
returns-in_ok-push_left-in-Center c =
    let case = c.args.case.now in
    let d = c.in-Center.center in
    let is : c.args.lost ≡ Center d = cc in
    let flags : c.as_slice.result.now ≡ map (board_in_center case (Some d)) (range_with_len 0 case.boards) = c.as_slice.ensures.value ∙ c.in_ok-flags-in-Center.ensures in
    c.in_ok-push_left-in-Center.ensures
    ∙ ap (λ l. c.args.rows.now.items ++ l ∷ []) (left-row case c.args.classes.now c.args.columns.now c.args.r (Center d) (OffBoards c.as_slice.result) (λ class. ap not (flags-are case (Some d) c.as_slice.result.now flags class.board))
    ∙ ap (loss_line case c.args.classes.now c.args.columns.now c.args.r) (sym is))
