use Rattle.std.proofs.Common.{◌∙◌}
use Rattle.clap.specs.Words.{app_of, found_of, rows_of}
use Rattle.ras_words.proofs.ReadLemmas.{words-taken, words-refused}
use Rattle.ras_words.proofs.matches.matches_of.Goals as goal

pub returns-in-Ok : goal.returns-in-Ok
returns-in-Ok c =
    words-taken (app_of c.args.command) c.args.words.now (rows_of (found_of c.in-Ok.matches)) (c.in-Ok.ensures.kinds c.requires.free) (c.in-Ok.ensures.matches c.requires.simple).0

pub returns : goal.returns
returns c =
    words-refused (app_of c.args.command) c.args.words.now c.in-Err.error c.refused.result (c.in-Err.ensures.kinds c.requires.free)
    (λ h. c.in_default.not-OutOfMemory (c.kind.ensures ∙ h)) c.refused.ensures
