use Rattle.conflict_core.proofs.Documents.{core-is}
use Rattle.conflict_core.proofs.Trying.{plans-found}
use Rattle.conflict_core.proofs.cores.core_of.Goals as goal

pub returns-in-Plans-clause-answer : goal.returns-in-Plans-clause-answer
returns-in-Plans-clause-answer g c =
    let clash = c.in_ok-narrow.ensures.fewer.clashes in
    let plans = plans-found c.args.region.now c.args.requests.now c.args.bindings.now c.args.nodes c.narrow.new.clash.members c.in_ok-plans.field-0 c.in-Plans.plans c.in-Plans.is
    c.in_ok-plans.ensures.found in
    (core-is c.args.region.now c.args.requests.now c.args.bindings.now c.narrow.new.clash.members c.args.nodes c.narrow.new.clash.refutation c.in-Plans.plans clash.those clash.refuted plans, clash.refuted, plans)
