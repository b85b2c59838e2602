use Rattle.std.proofs.lemmas.Result.{IfOk-weaker}
use Rattle.ras_answers.proofs.sampling.solved_summary.Goals as goal

pub returns-in-Ok : goal.returns-in-Ok
returns-in-Ok c =
    IfOk-weaker c.summary_answer.result _ _ (λ a h. record { document = c.in-Ok.document; solution = c.in-Ok.ensures.solution; printed = h })
    c.summary_answer.ensures
