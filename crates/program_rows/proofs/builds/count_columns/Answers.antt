use Rattle.std.proofs.Common.{length, ap, arith}
use Rattle.std.specs.Prelude.{flat_map}
use Rattle.std.specs.List.{enumerate_from}
use Rattle.std.proofs.lemmas.List.{length-append}
use Rattle.program_rows.specs.Settings.{setting_of}
use Rattle.program_rows.specs.Reach.{columns_of_class, reach_columns}
use Rattle.program_rows.proofs.Assembly.{columns-are}
use Rattle.program_rows.proofs.builds.count_columns.Goals as goal

pub returns : goal.returns
returns c =
    let case = c.args.case.now in
    let active = c.args.active.now in
    let found = c.args.found.now in
    let classes = c.args.classes.now in
    let whole = ap length (columns-are case (setting_of case c.args.phase.now) active found classes c.requires.active c.requires.found) in
    let split = length-append (flat_map (columns_of_class case active) (enumerate_from 0 classes)) (flat_map (reach_columns case) found) in
    omega (arith, whole, split, c.count_class_columns.ensures.count, c.count_helpers.ensures.count)
