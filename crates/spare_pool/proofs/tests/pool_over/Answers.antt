use Rattle.std.proofs.Common.{◌≡◌, ◌∙◌, ap, sym, not, is_some, length, arith}
use Rattle.plan_model.specs.declared.cases.Case.{Case}
use Rattle.plan_model.proofs.AllowedLaws.{list_all-position}
use Rattle.plan_model.specs.Allowed.{serves}
use Rattle.plan_model.specs.Units.{servers_with_places}
use Rattle.spare_pool.proofs.tests.pool_over.Goals as goal

-- where the first server that does not serve is none, each of them serves
pub start-requires-clause-serving : goal.start-requires-clause-serving
start-requires-clause-serving c =
    list_all-position (serves c.args.case.now) (servers_with_places c.args.case.now c.args.a.now)
    ∙ ap (λ o. not (is_some o)) (sym c.first_not_served.ensures)
    ∙ ap not (sym c.is_some.ensures ∙ c.if-is_some.false)

pub returns-clause-wants : goal.returns-clause-wants
returns-clause-wants c =
    let one : length c.args.case.now.wants ≡ 1 = omega arith in
    ap (λ (k : Case). length k.wants) c.in_ok-pool.ensures.case ∙ one

pub returns-clause-servers : goal.returns-clause-servers
returns-clause-servers c =
    let four : length c.args.case.now.places ≡ 4 = omega arith in
    c.in_ok-pool.ensures.servers ∙ four
