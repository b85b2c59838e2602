use Rattle.std.proofs.Common.{◌≡◌, ◌∙◌, sym, ap, List, ℕ, [], Some, None, unwrap_or, Option}
use Rattle.std.proofs.lemmas.Result.{IfOk-weaker}
use Rattle.clap.specs.Words.{found_of, first_of, first_value, rows_of}
use Rattle.clap.proofs.WalkLemmas.{first_value-rows}
use Rattle.ras_words.proofs.matches.value_of.Goals as goal

pub returns-in-Some : goal.returns-in-Some
returns-in-Some c =
    let same = ap (λ (o : Option (List ℕ)). unwrap_or o []) (c.in-Some.ensures ∙ first_value-rows (found_of c.args.matches.now) c.args.id.now) in
    IfOk-weaker c.new.result _ _ (λ w h. h ∙ same) c.new.ensures

pub returns-in-None : goal.returns-in-None
returns-in-None c =
    let same = ap (λ (o : Option (List ℕ)). unwrap_or o []) (c.in-None.ensures ∙ first_value-rows (found_of c.args.matches.now) c.args.id.now) in
    IfOk-weaker c.new-in-None.result _ _ (λ w h. h ∙ same) c.new-in-None.ensures
