use Rattle.std.proofs.Common.{◌∙◌, ap}
use Rattle.ras_answers.specs.Answered.{seen}
use Rattle.ras_cli.proofs.HeadlineLemmas.{at-zero}
use Rattle.ras_cli.proofs.RunLemmas.{alone}
use Rattle.ras_cli.specs.Runs.{is_printed}
use Rattle.ras_cli.proofs.top.run_command.Goals as goal

pub returns-in-Ok-clause-alone : goal.returns-in-Ok-clause-alone
returns-in-Ok-clause-alone g c =
    λ none. alone _ c.args.command.now (seen c.in-Ok.answer) c.deliver.result c.in-Ok.ensures.answer (λ three. (c.deliver.ensures.invalid three).0) c.deliver.ensures.known none

pub returns-in-Ok-clause-headline : goal.returns-in-Ok-clause-headline
returns-in-Ok-clause-headline g c =
    λ zero. at-zero _ c.args.command.now (seen c.in-Ok.answer) c.in-Ok.ensures.answer ((c.deliver.ensures.printed (ap is_printed zero)).0 ∙ zero)
