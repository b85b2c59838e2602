use Rattle.std.proofs.Common.{◌∙◌, ap, sym, not, is_some}
use Rattle.plan_model.proofs.AllowedLaws.{list_all-position}
use Rattle.plan_model.specs.Allowed.{serves}
use Rattle.plan_model.specs.Units.{servers_with_places}
use Rattle.ras_rounds.proofs.carries.mover_of.Goals as goal

-- where the first server that does not serve is none, each of them serves
pub start-requires-clause-serving : goal.start-requires-clause-serving
start-requires-clause-serving c =
    list_all-position (serves c.args.case.now) (servers_with_places c.args.case.now c.args.target.now)
    ∙ ap (λ o. not (is_some o)) (sym c.first_not_served.ensures)
    ∙ ap not (sym c.is_some.ensures ∙ c.if-is_some.false)
