use Rattle.std.proofs.Common.{string_bytes}
use Rattle.std.proofs.lemmas.Result.{IfOk-weaker}
use Rattle.ras_inventory.specs.RegionRule.{server_names}
use Rattle.ras_answers.specs.Answered.{seen}
use Rattle.ras_answers.specs.Inputs.{events_read}
use Rattle.ras_answers.specs.Move.{MovesTo}
use Rattle.ras_answers.proofs.TargetLemmas.{lines-note, lines-read}
use Rattle.ras_answers.proofs.moves.moves_over.Goals as goal

pub returns-in-Ok : goal.returns-in-Ok
returns-in-Ok c =
    IfOk-weaker c.moves_answer.result _ _
    (λ a h. lines-read (MovesTo c.args.at_once) c.args.inputs.now (events_read (server_names c.args.inputs.now.files.region.servers) c.args.events.now) c.in-Ok.events (seen a) c.in-Ok.ensures.events h)
    c.moves_answer.ensures

pub returns-in-Err-Invalid : goal.returns-in-Err-Invalid
returns-in-Err-Invalid c =
    rw c.in-Err-Invalid.field-0-is
    (lines-note (MovesTo c.args.at_once) c.args.inputs.now (events_read (server_names c.args.inputs.now.files.region.servers) c.args.events.now) (string_bytes c.in-Err-Invalid.note)
    (rw c.in-Err-Invalid.field-0-is at c.in-Err-Invalid.ensures.events))
