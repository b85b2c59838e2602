use Rattle.std.proofs.Common.{string_bytes}
use Rattle.std.proofs.lemmas.Result.{IfOk-weaker}
use Rattle.ras_answers.specs.Answered.{seen}
use Rattle.ras_answers.specs.Inputs.{failures_read}
use Rattle.ras_answers.specs.Spare.{ReplacesFrom}
use Rattle.ras_answers.proofs.CheckLemmas.{shape-of}
use Rattle.ras_answers.proofs.TargetLemmas.{answers-first, answers-lines}
use Rattle.ras_answers.proofs.spares.spare_answer.Goals as goal

pub spares_over-requires : goal.spares_over-requires
spares_over-requires c = record {
  each = c.in-Ok.ensures.each;
  shape = shape-of c.args.inventory.now c.args.requests.now c.args.bindings.now c.args.plan.now c.in-Ok.inputs c.in-Ok.ensures.inputs;
  failures = c.requires.failures;
}

pub returns-in-Ok : goal.returns-in-Ok
returns-in-Ok c =
    IfOk-weaker c.spares_over.result _ _
    (λ a h. answers-lines ReplacesFrom (λ servers. failures_read servers c.args.failures.now) c.args.inventory.now c.args.requests.now c.args.bindings.now c.args.plan.now c.in-Ok.inputs (seen a) c.in-Ok.ensures.inputs h)
    c.spares_over.ensures

pub returns-in-Err-Invalid : goal.returns-in-Err-Invalid
returns-in-Err-Invalid c =
    rw c.in-Err-Invalid.field-0-is
    (answers-first ReplacesFrom (λ servers. failures_read servers c.args.failures.now) c.args.inventory.now c.args.requests.now c.args.bindings.now c.args.plan.now (string_bytes c.in-Err-Invalid.note)
    (rw c.in-Err-Invalid.field-0-is at c.in-Err-Invalid.ensures.inputs))
