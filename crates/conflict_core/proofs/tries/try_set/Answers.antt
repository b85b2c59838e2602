use Rattle.conflict_core.proofs.Documents.{no-plan}
use Rattle.conflict_core.proofs.tries.try_set.Goals as goal

pub returns-in-Limit-clause-stop : goal.returns-in-Limit-clause-stop
returns-in-Limit-clause-stop g c =
    let none = no-plan c.in-Ok.document.region.plan c.is_some.result c.is_some.ensures c.if-is_some.false in (
      c.requires.those,
      record { is = c.in-Ok.ensures.document; answer = c.in-Limit.is; no_plan = none; no_first = c.in-Ok.ensures.document.solution.no_first c.in-Limit.is none },
    )
