use Rattle.std.proofs.Common.{length, ap, ◌∙◌, arith}
use Rattle.program_rows.specs.Settings.{setting_of}
use Rattle.program_rows.proofs.Assembly.{columns-are, lines-are, rule-kept}
use Rattle.program_rows.proofs.builds.program_of.Goals as goal

pub rows_of-requires-clause-columns : goal.rows_of-requires-clause-columns
rows_of-requires-clause-columns c =
    let same = c.in_ok-columns.ensures ∙ columns-are c.args.case.now (setting_of c.args.case.now c.args.phase.now) c.args.active.now c.args.found.now c.args.classes.now c.requires.active c.requires.found in
    omega (arith, ap length c.as_slice.ensures.value, ap length same, c.requires.columns)

pub from_vec-requires : goal.from_vec-requires
from_vec-requires c =
    let same = c.in_ok-columns.ensures ∙ columns-are c.args.case.now (setting_of c.args.case.now c.args.phase.now) c.args.active.now c.args.found.now c.args.classes.now c.requires.active c.requires.found in
    omega (arith, ap length same, c.requires.columns)

pub from_vec-requires-2 : goal.from_vec-requires-2
from_vec-requires-2 c =
    let setting = setting_of c.args.case.now c.args.phase.now in
    let columns = c.in_ok-columns.ensures ∙ columns-are c.args.case.now setting c.args.active.now c.args.found.now c.args.classes.now c.requires.active c.requires.found in
    let rows = c.in_ok-rows.ensures
    ∙ lines-are c.args.case.now setting c.args.active.now c.args.found.now c.args.classes.now c.as_slice.result.now c.requires.active c.requires.found (c.as_slice.ensures.value ∙ columns) in
    omega (arith, ap length rows, c.requires.rows)

pub invariant_of-result : goal.invariant_of-result
invariant_of-result c =
    let setting = setting_of c.args.case.now c.args.phase.now in
    let columns = c.in_ok-columns.ensures ∙ columns-are c.args.case.now setting c.args.active.now c.args.found.now c.args.classes.now c.requires.active c.requires.found in
    let rows = c.in_ok-rows.ensures
    ∙ lines-are c.args.case.now setting c.args.active.now c.args.found.now c.args.classes.now c.as_slice.result.now c.requires.active c.requires.found (c.as_slice.ensures.value ∙ columns) in
    record {
      kept = rule-kept c.args.case.now c.args.phase.now c.args.classes.now c.requires.start c.requires.grouped c.requires.columns c.requires.rows
          c.base-base.result c.from_vec.result c.from_vec-2.result c.base-base.ensures (c.from_vec.ensures ∙ columns) (c.from_vec-2.ensures ∙ rows);
    }

pub returns-clause-columns : goal.returns-clause-columns
returns-clause-columns c =
    c.from_vec.ensures ∙ c.in_ok-columns.ensures
    ∙ columns-are c.args.case.now (setting_of c.args.case.now c.args.phase.now) c.args.active.now c.args.found.now c.args.classes.now c.requires.active c.requires.found

pub returns-clause-rows : goal.returns-clause-rows
returns-clause-rows c =
    let setting = setting_of c.args.case.now c.args.phase.now in
    let columns = c.in_ok-columns.ensures ∙ columns-are c.args.case.now setting c.args.active.now c.args.found.now c.args.classes.now c.requires.active c.requires.found in
    c.from_vec-2.ensures ∙ c.in_ok-rows.ensures
    ∙ lines-are c.args.case.now setting c.args.active.now c.args.found.now c.args.classes.now c.as_slice.result.now c.requires.active c.requires.found (c.as_slice.ensures.value ∙ columns)
