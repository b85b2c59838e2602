use Rattle.std.proofs.Common.{◌≡◌, ◌∙◌, ap, List, ℕ, Option}
use Rattle.std.specs.Option.{option_map_or}
use Rattle.clap.specs.Words.{found_of}
use Rattle.clap.proofs.WalkLemmas.{first_value-rows}
use Rattle.ras_words.specs.Rows.{number_of}
use Rattle.ras_words.proofs.matches.number_in.Goals as goal

pub returns-in-None-clause-number : goal.returns-in-None-clause-number
returns-in-None-clause-number c =
    let number = λ (o : Option (List ℕ)). option_map_or (number_of c.args.least c.args.most c.args.default) o c.args.default in
    ap number (c.in-None.ensures ∙ first_value-rows (found_of c.args.matches.now) c.args.id.now)

pub returns-in-Some-clause-number : goal.returns-in-Some-clause-number
returns-in-Some-clause-number c =
    let number = λ (o : Option (List ℕ)). option_map_or (number_of c.args.least c.args.most c.args.default) o c.args.default in
    c.number_of.ensures ∙ ap number (c.in-Some.ensures ∙ first_value-rows (found_of c.args.matches.now) c.args.id.now)
