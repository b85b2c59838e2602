use Rattle.std.proofs.Common.{◌∙◌, ap₂}
use Rattle.std.proofs.lemmas.Result.{IfOk-weaker}
use Rattle.clap.specs.Words.{with_rule}
use Rattle.ras_words.proofs.spare.spare_command.Goals as goal

pub returns : goal.returns
returns c =
    let one = c.in_ok-arg.ensures.shape c.needed-plan.ensures.local ∙ ap₂ with_rule c.in_ok-files_command.ensures c.needed-plan.ensures.rule in
    IfOk-weaker c.arg-2.result _ _ (λ r h. h.shape c.needed-failures.ensures.local ∙ ap₂ with_rule one c.needed-failures.ensures.rule) c.arg-2.ensures
