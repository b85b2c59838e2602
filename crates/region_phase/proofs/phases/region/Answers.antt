use Rattle.plan_model.specs.Allowed.{region_allowed}
use Rattle.plan_model.specs.Costs.{region_cost}
use Rattle.program_rows.specs.Settings.{region_setting}
use Rattle.first_plans.specs.FirstPlan.{first_plan_of}
use Rattle.phase_search.proofs.Converted.{solved-by, faults-by}
use Rattle.region_phase.proofs.phases.region.Goals as goal

pub region_with-requires-clause-classes : goal.region_with-requires-clause-classes
region_with-requires-clause-classes c = (c.args.how, c.in_ok-classes.ensures)

pub returns-clause-solved : goal.returns-clause-solved
returns-clause-solved c =
    solved-by c.args.case.now (region_setting c.args.case.now) c.args.how (region_allowed c.args.case.now) (region_cost c.args.case.now) c.args.gap c.args.nodes (first_plan_of c.args.case.now)
    c.in_ok-classes.classes.list c.region_with.result c.in_ok-classes.ensures c.region_with.ensures.solved

pub returns-clause-fault : goal.returns-clause-fault
returns-clause-fault c =
    faults-by c.args.case.now (region_setting c.args.case.now) c.args.how c.in_ok-classes.classes.list c.region_with.result c.in_ok-classes.ensures c.region_with.ensures.fault
