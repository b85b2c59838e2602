use Rattle.std.proofs.Common.{ap, sym, ◌∙◌, true}
use Rattle.std.specs.Option.{option_map_or}
use Rattle.program_rows.specs.Settings.{makes_active}
use Rattle.program_rows.proofs.Actives.{none_or_in-is}
use Rattle.program_rows.proofs.servers.starts_active.Goals as goal

pub returns-in-Some : goal.returns-in-Some
returns-in-Some c =
    let place = c.in-Some.ensures in
    sym (none_or_in-is c.args.case.now c.args.phase.now c.args.server c.requires.start c.requires.in_range
    ∙ ap (λ o. option_map_or (makes_active c.args.phase.now) o true) (sym place)
    ∙ sym c.makes_active.ensures)
