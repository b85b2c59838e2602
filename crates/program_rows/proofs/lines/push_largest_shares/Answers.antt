use Rattle.std.proofs.Common.{◌≡◌, ℕ, ◌<◌, ◌++◌, List, [], ◌∷◌, get_or, take, cond, ap, ◌∙◌, arith, length}
use Rattle.std.specs.Prelude.{map}
use Rattle.ip_model.specs.declared.parts.Line.{Line}
use Rattle.program_rows.specs.Reach.{reach_shares}
use Rattle.program_rows.specs.Sums.{share_line}
use Rattle.program_rows.proofs.Steps.{appended, map-more}
use Rattle.program_rows.proofs.lines.push_largest_shares.Goals as goal

pub loop-board-preserved : goal.loop-board-preserved
loop-board-preserved c =
    let case = c.args.case.now in
    let classes = c.args.classes.now in
    let columns = c.args.columns.now in
    let r = c.args.reach.now.reservation in
    let i = c.loop-board.board-index in
    let given = c.share_boards-board-items.result.now in
    let numbers : List ℕ = cond (reach_shares case c.args.reach.now) c.args.reach.now.boards [] in
    let same : given ≡ numbers = c.share_boards-board-items.ensures in
    let within : i < length numbers = omega (arith, ap length same) in
    let make : ℕ → Line = share_line case classes columns r in
    let row = ap make (ap (λ ys. get_or ys i 0) same) in
    appended c.loop-board.rows.items c.args.rows.now.items (map make (take i numbers)) (make (get_or numbers i 0) ∷ [])
    (c.in_ok-push_row.ensures ∙ ap (λ l. c.loop-board.rows.items ++ l ∷ []) row) c.loop-board.invariant (map-more make numbers i 0 within)
