use Rattle.std.proofs.Common.{◌∙◌, ap₂}
use Rattle.std.proofs.lemmas.Result.{IfOk-weaker}
use Rattle.clap.specs.Words.{with_rule}
use Rattle.ras_words.proofs.solve.solve_command.Goals as goal

pub returns : goal.returns
returns c =
    let one = c.in_ok-arg.ensures.shape c.gap_option-gap.ensures.local ∙ ap₂ with_rule c.in_ok-files_command.ensures c.gap_option-gap.ensures.rule in
    let two = c.in_ok-arg-2.ensures.shape c.nodes_option-nodes.ensures.local ∙ ap₂ with_rule one c.nodes_option-nodes.ensures.rule in
    IfOk-weaker c.arg-3.result _ _ (λ r h. h.shape c.racks_option-racks.ensures.local ∙ ap₂ with_rule two c.racks_option-racks.ensures.rule) c.arg-3.ensures
