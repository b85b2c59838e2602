use Rattle.std.proofs.lemmas.Result.{err_from_is_err_and}
use Rattle.clap.specs.Words.{app_of, found_of, rows_of}
use Rattle.ras_words.specs.Words.{spare_app, spare_words}
use Rattle.ras_words.proofs.ReadLemmas.{spare-free, spare-simple, free-of, simple-of, made-of, none-made}
use Rattle.ras_words.proofs.spare.read_spare.Goals as goal

pub matches_of-requires : goal.matches_of-requires
matches_of-requires c = record {
  simple = simple-of (app_of c.in-Ok.command) spare_app c.in-Ok.ensures spare-simple;
  free = free-of (app_of c.in-Ok.command) spare_app c.in-Ok.ensures spare-free;
}

pub returns-in_err-matches : goal.returns-in_err-matches
returns-in_err-matches c =
    let p = err_from_is_err_and c.from_residual.result c.from_residual.ensures.1 in
    rw (p.1, p.2) (none-made spare_words spare_app (app_of c.in-Ok.command) c.args.words.now c.in_err-matches.field-0.0 c.in-Ok.ensures c.in_err-matches.ensures)

pub returns-in-Ok-words_at : goal.returns-in-Ok-words_at
returns-in-Ok-words_at c =
    made-of spare_words spare_app (app_of c.in-Ok.command) c.args.words.now (rows_of (found_of c.in_ok-matches.matches)) c.in-Ok-words_at.found c.in-Ok.ensures
    c.in_ok-matches.ensures c.in-Ok-words_at.ensures
