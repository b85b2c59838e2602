use Rattle.std.proofs.Common.{◌∙◌, ap, is_some, Option, ℕ, List}
use Rattle.ras_table.specs.Names.{number_of}
use Rattle.ras_inventory.proofs.BoundsLemmas.{bound-found}
use Rattle.ras_inventory.proofs.bound.stands_twice.Goals as goal

pub returns : goal.returns
returns c =
    c.is_some.ensures ∙ ap (λ (o : Option ℕ). is_some o) (c.find.ensures ∙ ap (λ (n : List ℕ). number_of c.args.names.now n) c.bytes.ensures.bytes)
    ∙ bound-found c.args.names.now c.args.before.now c.args.bound.now c.requires
