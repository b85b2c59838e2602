use Rattle.std.proofs.Common.{◌∙◌, ap₂}
use Rattle.std.proofs.lemmas.Result.{IfOk-weaker}
use Rattle.clap.specs.Words.{with_rule}
use Rattle.ras_words.proofs.sample.sample_command.Goals as goal

pub returns : goal.returns
returns c =
    let one = c.in_ok-arg.ensures.shape c.number_word-number.ensures.local ∙ ap₂ with_rule c.new.ensures.app c.number_word-number.ensures.rule in
    IfOk-weaker c.arg-2.result _ _ (λ r h. h.shape c.size_word-size.ensures.local ∙ ap₂ with_rule one c.size_word-size.ensures.rule) c.arg-2.ensures
