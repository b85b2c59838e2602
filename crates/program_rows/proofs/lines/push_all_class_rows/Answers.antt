use Rattle.std.proofs.Common.{ℕ, ◌++◌, List, [], ◌∷◌, take, ap, sym, ◌∙◌}
use Rattle.std.specs.Prelude.{flat_map}
use Rattle.std.specs.List.{enumerate_from}
use Rattle.ip_model.specs.declared.parts.Line.{Line}
use Rattle.program_rows.specs.Programs.{class_lines}
use Rattle.program_rows.specs.Sums.{line_of, most_row, least_row}
use Rattle.program_rows.proofs.Steps.{appended, numbered-more}
use Rattle.program_rows.proofs.lines.push_all_class_rows.Goals as goal

pub loop-number-preserved : goal.loop-number-preserved
loop-number-preserved c =
    let case = c.args.case.now in
    let classes = c.args.classes.now in
    let columns = c.args.columns.now in
    let number = c.loop-number.number in
    let class = c.index-classes-number.result in
    let f = class_lines columns in
    let added = flat_map f (enumerate_from 0 (take number classes)) in
    let pair : ℕ → List Line = λ n. line_of case classes columns (most_row number n) ∷ line_of case classes columns (least_row number n) ∷ [] in
    appended c.loop-number.rows.items c.args.rows.now.items added (f (number, class))
    (c.in_ok-push_class_rows.ensures ∙ ap (λ ls. c.loop-number.rows.items ++ ls) (ap pair c.len.ensures)) c.loop-number.invariant
    (numbered-more f classes number class c.loop-number-test.true ∙ ap (λ k. added ++ f (number, k)) (sym c.index-classes-number.is))
