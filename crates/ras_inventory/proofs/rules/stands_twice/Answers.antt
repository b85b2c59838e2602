use Rattle.std.proofs.Common.{◌∙◌, ap, is_some, Option, ℕ, List}
use Rattle.ras_table.specs.Names.{number_of}
use Rattle.ras_inventory.proofs.LinesLemmas.{stands_found}
use Rattle.ras_inventory.proofs.rules.stands_twice.Goals as goal

pub returns : goal.returns
returns c =
    c.is_some.ensures ∙ ap (λ (o : Option ℕ). is_some o) (c.find.ensures ∙ ap (λ (n : List ℕ). number_of c.args.register.now.names n) c.bytes.ensures.bytes)
    ∙ stands_found c.args.before.now c.args.register.now c.args.line.now c.requires
