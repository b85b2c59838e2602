use Rattle.program_rows.specs.Settings.{rack_setting}
use Rattle.phase_search.proofs.Converted.{faults-by}
use Rattle.rack_phase.proofs.Racks.{start-fits, start-allowed, are-chosen, chosen-fits, fitting-faults, by-classes, rack-result, has-plan, not-closed}
use Rattle.rack_phase.proofs.phases.rack.Goals as goal

pub phase_classes-requires : goal.phase_classes-requires
phase_classes-requires c = start-fits c.args.case.now c.args.a1.now c.requires.allowed

pub solve-requires-clause-chosen : goal.solve-requires-clause-chosen
solve-requires-clause-chosen c = are-chosen c.args.case.now c.args.a1.now c.args.chosen.now c.requires.chosen.0 c.requires.chosen.1

pub solve-requires-clause-classes : goal.solve-requires-clause-classes
solve-requires-clause-classes c = (c.args.how, c.in_ok-classes.ensures)

pub solve-requires-clause-first : goal.solve-requires-clause-first
solve-requires-clause-first c = start-allowed c.args.case.now c.args.a1.now c.args.chosen.now c.requires.allowed

pub returns-clause-solved : goal.returns-clause-solved
returns-clause-solved c =
    rack-result c.args.case.now c.args.a1.now c.args.chosen.now c.requires.allowed (are-chosen c.args.case.now c.args.a1.now c.args.chosen.now c.requires.chosen.0 c.requires.chosen.1)
    c.args.how c.args.gap c.args.nodes c.solve.result
    (by-classes c.args.case.now c.args.a1.now c.args.chosen.now c.requires.allowed (are-chosen c.args.case.now c.args.a1.now c.args.chosen.now c.requires.chosen.0 c.requires.chosen.1)
    c.args.how c.args.gap c.args.nodes c.in_ok-classes.classes.list c.solve.result c.in_ok-classes.ensures c.solve.ensures.solved)

pub returns-clause-plan : goal.returns-clause-plan
returns-clause-plan c = has-plan _ _ _ _ _ _ _ _ c.solve.result
    (by-classes c.args.case.now c.args.a1.now c.args.chosen.now c.requires.allowed (are-chosen c.args.case.now c.args.a1.now c.args.chosen.now c.requires.chosen.0 c.requires.chosen.1)
    c.args.how c.args.gap c.args.nodes c.in_ok-classes.classes.list c.solve.result c.in_ok-classes.ensures c.solve.ensures.solved)

pub returns-clause-answer : goal.returns-clause-answer
returns-clause-answer c = not-closed _ _ _ _ _ _ _ _ c.solve.result
    (by-classes c.args.case.now c.args.a1.now c.args.chosen.now c.requires.allowed (are-chosen c.args.case.now c.args.a1.now c.args.chosen.now c.requires.chosen.0 c.requires.chosen.1)
    c.args.how c.args.gap c.args.nodes c.in_ok-classes.classes.list c.solve.result c.in_ok-classes.ensures c.solve.ensures.solved)

pub returns-clause-fault : goal.returns-clause-fault
returns-clause-fault c =
    faults-by c.args.case.now (rack_setting c.args.case.now c.args.a1.now c.args.chosen.now) c.args.how c.in_ok-classes.classes.list c.solve.result c.in_ok-classes.ensures c.solve.ensures.fault

pub returns-clause-fits : goal.returns-clause-fits
returns-clause-fits c = fitting-faults c.args.case.now (rack_setting c.args.case.now c.args.a1.now c.args.chosen.now) c.args.how c.solve.result
    (chosen-fits c.args.case.now c.args.a1.now c.args.chosen.now c.requires.chosen.0 c.requires.chosen.1 c.requires.some_chosen)
    (faults-by c.args.case.now (rack_setting c.args.case.now c.args.a1.now c.args.chosen.now) c.args.how c.in_ok-classes.classes.list c.solve.result c.in_ok-classes.ensures c.solve.ensures.fault)
