use Rattle.std.proofs.Common.{◌∙◌, ap, sym}
use Rattle.ras_table.specs.Names.{number_of}
use Rattle.plan_model.proofs.JoinLemmas.{units-found, units-none}
use Rattle.plan_model.proofs.joins.units_of.Goals as goal

pub returns-in-Some : goal.returns-in-Some
returns-in-Some c =
    units-found c.args.values.now c.args.name.now c.in-Some.at c.index-values-at.result
    (ap (λ names. number_of names c.args.name.now) (sym c.requires) ∙ sym c.find.ensures ∙ c.in-Some.is)

pub returns-in-None : goal.returns-in-None
returns-in-None c = units-none c.args.values.now c.args.name.now (ap (λ names. number_of names c.args.name.now) (sym c.requires) ∙ sym c.find.ensures ∙ c.in-None.is)
