use Rattle.std.proofs.Common.{string_bytes}
use Rattle.ras_answers.specs.declared.rounds.RoundsRun.{RoundsRun}
use Rattle.ras_answers.proofs.RoundsLemmas.{gives-round, too-large}
use Rattle.ras_answers.proofs.rounds.RoundsRun.next.Goals as goal

pub returns-in-Ok : goal.returns-in-Ok
returns-in-Ok c inventory requests bindings script options texts stands =
    let after : RoundsRun = record { rounds = c.next.new.self; spent = c.spent_after-self.result } in
    gives-round inventory requests bindings script options texts c.args.self.now stands c.in-Ok.round after c.end_with-end.result c.in-Ok.ensures.round c.spent_after-self.ensures
    c.end_with-end.ensures

pub returns-in_ok-note-in-Err : goal.returns-in_ok-note-in-Err
returns-in_ok-note-in-Err c inventory requests bindings script options texts stands =
    too-large inventory requests bindings script options texts c.args.self.now stands c.in-Err.fault (string_bytes c.in_ok-note-in-Err.note) c.in-Err.ensures.fault c.in_ok-note-in-Err.ensures
