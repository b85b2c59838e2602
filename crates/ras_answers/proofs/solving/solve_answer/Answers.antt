use Rattle.std.proofs.Common.{ap, string_bytes}
use Rattle.std.proofs.lemmas.Result.{IfOk-weaker}
use Rattle.ras_answers.specs.Answered.{seen}
use Rattle.ras_answers.specs.Inputs.{note_in}
use Rattle.ras_answers.specs.Solve.{IsSolveOf}
use Rattle.ras_answers.proofs.CaseLemmas.{answers-files, answers-note-on}
use Rattle.ras_answers.proofs.solving.solve_answer.Goals as goal

pub returns-in-Ok : goal.returns-in-Ok
returns-in-Ok c =
    IfOk-weaker c.solve_files.result _ _
    (λ a h. answers-files (λ files. IsSolveOf files c.args.options) c.args.inventory.now c.args.requests.now c.args.bindings.now c.in-Ok.files (seen a) c.in-Ok.ensures.files h)
    c.solve_files.ensures

pub returns-in-Err-Invalid : goal.returns-in-Err-Invalid
returns-in-Err-Invalid c =
    rw c.in-Err-Invalid.field-0-is
    (answers-note-on (λ files. IsSolveOf files c.args.options) c.args.inventory.now c.args.requests.now c.args.bindings.now (string_bytes c.in-Err-Invalid.note)
    (ap note_in (rw c.in-Err-Invalid.field-0-is at c.in-Err-Invalid.ensures.files)))
