use Rattle.phase_search.proofs.Prepared.{prepared-by, fits-by}
use Rattle.phase_search.proofs.Converted.{solved-part}
use Rattle.phase_search.proofs.Ends.{plan-under, plan-ends, empty-ends, limit-under, bare-ends, closed-ends, wide-ends}
use Rattle.phase_search.proofs.solving.solve.Goals as goal

pub plan_of-requires-clause-lower : goal.plan_of-requires-clause-lower
plan_of-requires-clause-lower c =
    plan-under c.args.case.now c.args.phase.now c.requires.classes.0 c.args.classes.now.list c.in_ok-program.program
    (prepared-by c.args.case.now c.args.phase.now c.requires.classes.0 c.args.classes.now.list c.in_ok-program.program c.requires.start c.requires.chosen c.requires.classes.1
    c.in_ok-program.ensures.base c.in_ok-program.ensures.columns c.in_ok-program.ensures.rows)
    (fits-by c.args.case.now c.args.phase.now c.requires.classes.0 c.args.classes.now.list c.requires.classes.1 c.in_ok-program.ensures.fits) c.args.gap c.args.nodes _ _ _ c.in_ok-point.ensures c.as_ref.ensures.value
    c.in_ok-point-2.field-0 c.in_ok-point-2.ensures c.in-Plan.point c.in-Plan.value c.in-Plan.lower c.in-Plan.tree c.in-Plan.is

pub returns-in-Plan-clause-solved : goal.returns-in-Plan-clause-solved
returns-in-Plan-clause-solved c =
    λ how grouped.
    solved-part _ _ _ _ _ _ _ _ _ _ _ c.planned.ensures
    (plan-ends c.args.case.now c.args.phase.now how c.args.classes.now.list c.in_ok-program.program
    (prepared-by c.args.case.now c.args.phase.now how c.args.classes.now.list c.in_ok-program.program c.requires.start c.requires.chosen grouped
    c.in_ok-program.ensures.base c.in_ok-program.ensures.columns c.in_ok-program.ensures.rows)
    (fits-by c.args.case.now c.args.phase.now how c.args.classes.now.list grouped c.in_ok-program.ensures.fits) c.args.gap c.args.nodes _ _ _ c.in_ok-point.ensures c.as_ref.ensures.value
    c.in_ok-point-2.field-0 c.in_ok-point-2.ensures c.in-Plan.point c.in-Plan.value c.in-Plan.lower c.in-Plan.tree c.in-Plan.is c.in_ok-plan-in-Plan.plan c.without_points.result
    c.in_ok-plan-in-Plan.ensures c.without_points.ensures)

pub returns-in-Empty-clause-solved : goal.returns-in-Empty-clause-solved
returns-in-Empty-clause-solved c =
    λ how grouped.
    solved-part _ _ _ _ _ _ _ _ _ _ _ c.planless.ensures
    (empty-ends c.args.case.now c.args.phase.now how c.args.classes.now.list c.in_ok-program.program
    (prepared-by c.args.case.now c.args.phase.now how c.args.classes.now.list c.in_ok-program.program c.requires.start c.requires.chosen grouped
    c.in_ok-program.ensures.base c.in_ok-program.ensures.columns c.in_ok-program.ensures.rows)
    (fits-by c.args.case.now c.args.phase.now how c.args.classes.now.list grouped c.in_ok-program.ensures.fits) c.args.gap c.args.nodes _ _ _ c.in_ok-point.ensures c.as_ref.ensures.value
    c.in_ok-point-2.field-0 c.in_ok-point-2.ensures c.in-Empty.tree c.in-Empty.is c.without_points-in-Empty.result c.without_points-in-Empty.ensures)

pub returns-in_default-clause-solved : goal.returns-in_default-clause-solved
returns-in_default-clause-solved c =
    λ how grouped.
    solved-part _ _ _ _ _ _ _ _ _ _ _ c.planless-in_default.ensures
    (bare-ends c.args.case.now c.args.phase.now how c.args.classes.now.list c.in_ok-program.program
    (prepared-by c.args.case.now c.args.phase.now how c.args.classes.now.list c.in_ok-program.program c.requires.start c.requires.chosen grouped
    c.in_ok-program.ensures.base c.in_ok-program.ensures.columns c.in_ok-program.ensures.rows)
    (fits-by c.args.case.now c.args.phase.now how c.args.classes.now.list grouped c.in_ok-program.ensures.fits) c.args.gap c.args.nodes _ _ _ c.in_ok-point.ensures c.as_ref.ensures.value
    c.in_ok-point-2.field-0 c.in_ok-point-2.ensures c.in-Limit.best c.in-Limit.lower c.in-Limit.tree c.in-Limit.is c.in_default.is)

pub steady_plan_of-requires-clause-lower : goal.steady_plan_of-requires-clause-lower
steady_plan_of-requires-clause-lower c =
    limit-under c.args.case.now c.args.phase.now c.requires.classes.0 c.args.classes.now.list c.in_ok-program.program
    (prepared-by c.args.case.now c.args.phase.now c.requires.classes.0 c.args.classes.now.list c.in_ok-program.program c.requires.start c.requires.chosen c.requires.classes.1
    c.in_ok-program.ensures.base c.in_ok-program.ensures.columns c.in_ok-program.ensures.rows)
    (fits-by c.args.case.now c.args.phase.now c.requires.classes.0 c.args.classes.now.list c.requires.classes.1 c.in_ok-program.ensures.fits) c.args.gap c.args.nodes _ _ _ c.in_ok-point.ensures c.as_ref.ensures.value
    c.in_ok-point-2.field-0 c.in_ok-point-2.ensures c.in-Limit.best c.in-Limit.lower c.in-Limit.tree c.in-Limit.is

pub returns-then-plan-gap-clause-solved : goal.returns-then-plan-gap-clause-solved
returns-then-plan-gap-clause-solved c =
    λ how grouped.
    solved-part _ _ _ _ _ _ _ _ _ _ _ c.planned-then-plan-gap.ensures
    (wide-ends c.args.case.now c.args.phase.now how c.args.classes.now.list c.in_ok-program.program
    (prepared-by c.args.case.now c.args.phase.now how c.args.classes.now.list c.in_ok-program.program c.requires.start c.requires.chosen grouped
    c.in_ok-program.ensures.base c.in_ok-program.ensures.columns c.in_ok-program.ensures.rows)
    (fits-by c.args.case.now c.args.phase.now how c.args.classes.now.list grouped c.in_ok-program.ensures.fits) c.args.gap c.args.nodes _ _ _ c.in_ok-point.ensures c.as_ref.ensures.value
    c.in_ok-point-2.field-0 c.in_ok-point-2.ensures c.in-Limit.best c.in-Limit.lower c.in-Limit.tree c.in-Limit.is c.in-Some.best c.in-Some.is c.in_ok-plan-in-Limit.plan c.in_ok-plan-in-Limit.ensures.plan c.in_ok-plan-in-Limit.ensures.steady c.if-plan-gap.true)

pub returns-clause-solved : goal.returns-clause-solved
returns-clause-solved c =
    λ how grouped.
    solved-part _ _ _ _ _ _ _ _ _ _ _ c.planned-in-Limit.ensures
    (closed-ends c.args.case.now c.args.phase.now how c.args.classes.now.list c.in_ok-program.program
    (prepared-by c.args.case.now c.args.phase.now how c.args.classes.now.list c.in_ok-program.program c.requires.start c.requires.chosen grouped
    c.in_ok-program.ensures.base c.in_ok-program.ensures.columns c.in_ok-program.ensures.rows)
    (fits-by c.args.case.now c.args.phase.now how c.args.classes.now.list grouped c.in_ok-program.ensures.fits) c.args.gap c.args.nodes _ _ _ c.in_ok-point.ensures c.as_ref.ensures.value
    c.in_ok-point-2.field-0 c.in_ok-point-2.ensures c.in-Limit.best c.in-Limit.lower c.in-Limit.tree c.in-Limit.is c.in-Some.best c.in-Some.is c.in_ok-plan-in-Limit.plan c.without_points-in-Limit.result
    c.in_ok-plan-in-Limit.ensures.plan c.if-plan-gap.false c.without_points-in-Limit.ensures)
