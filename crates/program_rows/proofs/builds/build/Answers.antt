use Rattle.std.proofs.Common.{length, ap, ◌∙◌, arith, refl}
use Rattle.std.specs.Prelude.{map}
use Rattle.program_rows.specs.Settings.{setting_of}
use Rattle.program_rows.specs.Programs.{program_columns, program_lines}
use Rattle.program_rows.specs.Reach.{reach_of}
use Rattle.program_rows.proofs.Assembly.{rows-total, rows-fault}
use Rattle.program_rows.proofs.builds.build.Goals as goal

pub returns-then-rows-gt-MOST-clause-fault : goal.returns-then-rows-gt-MOST-clause-fault
returns-then-rows-gt-MOST-clause-fault c =
    let case = c.args.case.now in
    let setting = setting_of case c.args.phase.now in
    let list = c.lent-list.result.now in
    let found = c.as_slice-found.result.now in
    let active = c.as_slice.ensures.value ∙ c.in_ok-active.ensures.active in
    let total = rows-total case setting setting.active found list refl (c.as_slice-found.ensures.value ∙ c.in_ok-reaches.ensures.reaches ∙ ap (map (reach_of case setting)) active) in
    let same = ap (λ cs. length (program_lines case setting cs)) c.lent-list.ensures.classes in
    let same_columns = ap (λ cs. length (program_columns case setting cs)) c.lent-list.ensures.classes in
    rows-fault (length (program_columns case setting c.args.classes.now.list)) (length (program_lines case setting c.args.classes.now.list)) _
    (omega (arith, same_columns, c.count_columns-columns.ensures))
    (omega (arith, same, total, c.rows_of_kind.ensures.count, c.rows_of_kind-2.ensures.count, c.rows_of_kind-3.ensures.count, c.rows_of_kind-4.ensures.count, c.rows_of_kind-5.ensures.count, c.rows_of_kind-6.ensures.count, c.rows_of_kind-7.ensures.count, c.rows_of_kind-8.ensures.count))
    (omega arith)

pub program_of-requires-clause-rows : goal.program_of-requires-clause-rows
program_of-requires-clause-rows c =
    let case = c.args.case.now in
    let setting = setting_of case c.args.phase.now in
    let list = c.lent-list.result.now in
    let found = c.as_slice-found.result.now in
    let active = c.as_slice.ensures.value ∙ c.in_ok-active.ensures.active in
    let total = rows-total case setting setting.active found list refl (c.as_slice-found.ensures.value ∙ c.in_ok-reaches.ensures.reaches ∙ ap (map (reach_of case setting)) active) in
    omega (arith, total, c.rows_of_kind.ensures.count, c.rows_of_kind-2.ensures.count, c.rows_of_kind-3.ensures.count, c.rows_of_kind-4.ensures.count, c.rows_of_kind-5.ensures.count, c.rows_of_kind-6.ensures.count, c.rows_of_kind-7.ensures.count, c.rows_of_kind-8.ensures.count)

pub returns-clause-rows : goal.returns-clause-rows
returns-clause-rows c = c.in_ok-program.ensures.rows ∙ ap (program_lines c.args.case.now (setting_of c.args.case.now c.args.phase.now)) c.lent-list.ensures.classes
