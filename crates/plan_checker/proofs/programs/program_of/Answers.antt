use Rattle.program_rows.specs.Settings.{setting_of}
use Rattle.plan_checker.proofs.Sized.{built-is}
use Rattle.plan_checker.proofs.programs.program_of.Goals as goal

pub build-requires-clause-grouped : goal.build-requires-clause-grouped
build-requires-clause-grouped c = (c.args.how, c.in_ok-classes.ensures)

pub returns-in-Ok-clause-program : goal.returns-in-Ok-clause-program
returns-in-Ok-clause-program c =
    built-is c.args.case.now (setting_of c.args.case.now c.args.phase.now) c.args.how c.in_ok-classes.classes.list c.in-Ok.program c.in_ok-classes.ensures
    c.in-Ok.ensures.base c.in-Ok.ensures.columns c.in-Ok.ensures.rows
