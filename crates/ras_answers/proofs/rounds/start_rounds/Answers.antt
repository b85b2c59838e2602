use Rattle.std.proofs.Common.{string_bytes}
use Rattle.ras_answers.proofs.RoundsLemmas.{answers-noted, begun-stands}
use Rattle.ras_answers.proofs.rounds.start_rounds.Goals as goal

pub returns-in_ok-begin-in-Ok : goal.returns-in_ok-begin-in-Ok
returns-in_ok-begin-in-Ok c =
    begun-stands c.args.inventory.now c.args.requests.now c.args.bindings.now c.args.script.now c.args.options c.in-Ok.read.files c.in-Ok.read.entries c.in_ok-begin-in-Ok.field-0
    c.in-Ok.ensures.files.files c.in-Ok.ensures.files.script_is c.in_ok-begin-in-Ok.ensures

pub returns-in-Err-Invalid : goal.returns-in-Err-Invalid
returns-in-Err-Invalid c =
    rw c.in-Err-Invalid.field-0-is
    (answers-noted c.args.inventory.now c.args.requests.now c.args.bindings.now c.args.script.now c.args.options (string_bytes c.in-Err-Invalid.note)
    (rw c.in-Err-Invalid.field-0-is at c.in-Err-Invalid.ensures.files))
