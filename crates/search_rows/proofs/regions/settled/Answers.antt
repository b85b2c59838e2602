use Rattle.class_expand.proofs.Phases.{region-phase_allowed}
use Rattle.search_rows.proofs.regions.settled.Goals as goal

pub settle-requires-clause-allowed : goal.settle-requires-clause-allowed
settle-requires-clause-allowed c = region-phase_allowed c.args.case.now c.args.plan.now c.requires
