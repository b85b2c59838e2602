use Rattle.std.proofs.Common.{◌∙◌, ap₂}
use Rattle.std.proofs.lemmas.Result.{IfOk-weaker}
use Rattle.clap.specs.Words.{with_rule}
use Rattle.ras_words.proofs.check.files_command.Goals as goal

pub returns : goal.returns
returns c =
    let one = c.in_ok-arg.ensures.shape c.needed-inventory.ensures.local ∙ ap₂ with_rule c.new.ensures.app c.needed-inventory.ensures.rule in
    let two = c.in_ok-arg-2.ensures.shape c.needed-requests.ensures.local ∙ ap₂ with_rule one c.needed-requests.ensures.rule in
    IfOk-weaker c.arg-3.result _ _ (λ r h. h.shape c.needed-bindings.ensures.local ∙ ap₂ with_rule two c.needed-bindings.ensures.rule) c.arg-3.ensures
