use Rattle.std.proofs.lemmas.Result.{err_from_is_err_and}
use Rattle.clap.specs.Words.{app_of, found_of, rows_of}
use Rattle.ras_words.specs.Words.{sample_app, sample_words}
use Rattle.ras_words.proofs.ReadLemmas.{sample-free, sample-simple, free-of, simple-of, made-of, none-made}
use Rattle.ras_words.proofs.sample.read_sample.Goals as goal

pub matches_of-requires : goal.matches_of-requires
matches_of-requires c = record {
  simple = simple-of (app_of c.in-Ok.command) sample_app c.in-Ok.ensures sample-simple;
  free = free-of (app_of c.in-Ok.command) sample_app c.in-Ok.ensures sample-free;
}

pub returns-in_err-matches-clause-words : goal.returns-in_err-matches-clause-words
returns-in_err-matches-clause-words c =
    let p = err_from_is_err_and c.from_residual.result c.from_residual.ensures.1 in
    rw (p.1, p.2) (none-made sample_words sample_app (app_of c.in-Ok.command) c.args.words.now c.in_err-matches.field-0.0 c.in-Ok.ensures c.in_err-matches.ensures)

pub returns-clause-words : goal.returns-clause-words
returns-clause-words c =
    made-of sample_words sample_app (app_of c.in-Ok.command) c.args.words.now (rows_of (found_of c.in_ok-matches.matches)) c.words_at.result c.in-Ok.ensures
    c.in_ok-matches.ensures c.words_at.ensures.words
