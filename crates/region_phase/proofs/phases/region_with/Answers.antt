use Rattle.region_phase.proofs.Regions.{first-allowed, first-is, region-result}
use Rattle.region_phase.proofs.phases.region_with.Goals as goal

pub solve-requires-clause-first : goal.solve-requires-clause-first
solve-requires-clause-first c = first-allowed c.args.case.now c.in_ok-first.first c.as_ref.result c.as_ref.ensures.value c.in_ok-first.ensures.allowed

pub returns-clause-solved : goal.returns-clause-solved
returns-clause-solved c =
    region-result c.args.case.now c.args.classes.now.list c.args.gap c.args.nodes _ _ c.solve.result
    (first-is c.args.case.now c.in_ok-first.first c.as_ref.result c.as_ref.ensures.value c.in_ok-first.ensures.plan) c.solve.ensures.solved
