use Rattle.std.proofs.Common.{string_bytes}
use Rattle.std.proofs.lemmas.Result.{IfOk-weaker}
use Rattle.ras_inventory.specs.RegionRule.{server_names}
use Rattle.ras_answers.specs.Answered.{seen}
use Rattle.ras_answers.specs.Inputs.{failures_read}
use Rattle.ras_answers.specs.Spare.{ReplacesFrom}
use Rattle.ras_answers.proofs.TargetLemmas.{lines-note, lines-read}
use Rattle.ras_answers.proofs.spares.spares_over.Goals as goal

pub returns-in-Ok : goal.returns-in-Ok
returns-in-Ok c =
    IfOk-weaker c.spares_answer.result _ _
    (λ a h. lines-read ReplacesFrom c.args.inputs.now (failures_read (server_names c.args.inputs.now.files.region.servers) c.args.failures.now) c.in-Ok.failures (seen a) c.in-Ok.ensures.failures h)
    c.spares_answer.ensures

pub returns-in-Err-Invalid : goal.returns-in-Err-Invalid
returns-in-Err-Invalid c =
    rw c.in-Err-Invalid.field-0-is
    (lines-note ReplacesFrom c.args.inputs.now (failures_read (server_names c.args.inputs.now.files.region.servers) c.args.failures.now) (string_bytes c.in-Err-Invalid.note)
    (rw c.in-Err-Invalid.field-0-is at c.in-Err-Invalid.ensures.failures))
