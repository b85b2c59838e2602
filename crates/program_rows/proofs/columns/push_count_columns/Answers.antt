use Rattle.std.proofs.Common.{◌++◌, take, ap, sym, ◌∙◌}
use Rattle.std.specs.Prelude.{flat_map}
use Rattle.std.specs.List.{enumerate_from}
use Rattle.program_rows.specs.Reach.{columns_of_class}
use Rattle.program_rows.proofs.Steps.{appended, numbered-more}
use Rattle.program_rows.proofs.columns.push_count_columns.Goals as goal

pub loop-number-preserved : goal.loop-number-preserved
loop-number-preserved c =
    let number = c.loop-number.number in
    let classes = c.args.classes.now in
    let class = c.index-classes-number.result in
    let f = columns_of_class c.args.case.now c.args.active.now in
    let added = flat_map f (enumerate_from 0 (take number classes)) in
    appended c.loop-number.columns.items c.args.columns.now.items added (f (number, class)) c.in_ok-push_class_columns.ensures c.loop-number.invariant
    (numbered-more f classes number class c.loop-number-test.true ∙ ap (λ k. added ++ f (number, k)) (sym c.index-classes-number.is))
