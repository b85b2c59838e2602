use Rattle.std.proofs.Common.{inl}
use Rattle.std.proofs.lemmas.Result.{IfOk-weaker}
use Rattle.ras_answers.proofs.CoreLemmas.{can-print}
use Rattle.ras_answers.proofs.cores.core_of_files.Goals as goal

pub printed-requires : goal.printed-requires
printed-requires c = can-print c.args.files.now c.args.nodes c.in-Ok.answer c.requires.each c.in-Ok.ensures.answer

pub returns-in-Ok : goal.returns-in-Ok
returns-in-Ok c =
    IfOk-weaker c.printed.result _ _ (λ a h. inl (record { answer = c.in-Ok.answer; found = c.in-Ok.ensures.answer; print = h })) c.printed.ensures
