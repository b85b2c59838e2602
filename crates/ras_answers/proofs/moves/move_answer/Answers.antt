use Rattle.std.proofs.Common.{string_bytes}
use Rattle.std.proofs.lemmas.Result.{IfOk-weaker}
use Rattle.ras_answers.specs.Answered.{seen}
use Rattle.ras_answers.specs.Inputs.{events_read}
use Rattle.ras_answers.specs.Move.{MovesTo}
use Rattle.ras_answers.proofs.CheckLemmas.{shape-of}
use Rattle.ras_answers.proofs.TargetLemmas.{answers-first, answers-lines}
use Rattle.ras_answers.proofs.moves.move_answer.Goals as goal

pub moves_over-requires : goal.moves_over-requires
moves_over-requires c = record {
  each = c.in-Ok.ensures.each;
  shape = shape-of c.args.inventory.now c.args.requests.now c.args.bindings.now c.args.plan.now c.in-Ok.inputs c.in-Ok.ensures.inputs;
  events = c.requires.events;
  some = c.requires.some;
  few = c.requires.few;
}

pub returns-in-Ok : goal.returns-in-Ok
returns-in-Ok c =
    IfOk-weaker c.moves_over.result _ _
    (λ a h. answers-lines (MovesTo c.args.at_once) (λ servers. events_read servers c.args.events.now) c.args.inventory.now c.args.requests.now c.args.bindings.now c.args.plan.now c.in-Ok.inputs (seen a) c.in-Ok.ensures.inputs h)
    c.moves_over.ensures

pub returns-in-Err-Invalid : goal.returns-in-Err-Invalid
returns-in-Err-Invalid c =
    rw c.in-Err-Invalid.field-0-is
    (answers-first (MovesTo c.args.at_once) (λ servers. events_read servers c.args.events.now) c.args.inventory.now c.args.requests.now c.args.bindings.now c.args.plan.now (string_bytes c.in-Err-Invalid.note)
    (rw c.in-Err-Invalid.field-0-is at c.in-Err-Invalid.ensures.inputs))
