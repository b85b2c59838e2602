use Rattle.std.proofs.Common.{ap, sym, ◌∙◌, None, get_or}
use Rattle.program_rows.specs.declared.phases.Phase.{Phase}
use Rattle.program_rows.specs.Settings.{setting_of}
use Rattle.steady_plans.proofs.Twins.{region-start}
use Rattle.steady_plans.proofs.alike.start_of.Goals as goal

pub returns-in-Region : goal.returns-in-Region
returns-in-Region c = sym (ap (λ (ph : Phase). get_or (setting_of c.args.case.now ph).start.of c.args.server None) c.in-Region.is ∙ region-start c.args.case.now c.args.server)
