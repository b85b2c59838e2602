use Rattle.std.proofs.Common.{◌∙◌, ap₂}
use Rattle.std.proofs.lemmas.Result.{IfOk-weaker}
use Rattle.clap.specs.Words.{with_rule}
use Rattle.ras_words.proofs.cores.core_command.Goals as goal

pub returns : goal.returns
returns c =
    IfOk-weaker c.arg.result _ _ (λ r h. h.shape c.nodes_option-nodes.ensures.local ∙ ap₂ with_rule c.in_ok-files_command.ensures c.nodes_option-nodes.ensures.rule) c.arg.ensures
