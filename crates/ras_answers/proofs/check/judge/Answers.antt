use Rattle.ras_answers.proofs.JoinLemmas.{places-many, servers-many, wants-many}
use Rattle.ras_answers.proofs.check.judge.Goals as goal

pub check-requires : goal.check-requires
check-requires c =
    let inputs = c.args.inputs.now in
    c.requires.shape c.in_ok-case.case
    (places-many inputs.files.region inputs.files.requests inputs.files.bindings c.in_ok-case.case c.requires.each c.in_ok-case.ensures)
    (wants-many inputs.files.region inputs.files.requests inputs.files.bindings c.in_ok-case.case c.in_ok-case.ensures)

pub returns-clause-shape : goal.returns-clause-shape
returns-clause-shape c =
    let inputs = c.args.inputs.now in
    c.requires.shape c.in_ok-case.case
    (places-many inputs.files.region inputs.files.requests inputs.files.bindings c.in_ok-case.case c.requires.each c.in_ok-case.ensures)
    (wants-many inputs.files.region inputs.files.requests inputs.files.bindings c.in_ok-case.case c.in_ok-case.ensures)

pub returns-clause-places : goal.returns-clause-places
returns-clause-places c =
    let inputs = c.args.inputs.now in
    servers-many inputs.files.region inputs.files.requests inputs.files.bindings c.in_ok-case.case c.requires.each c.in_ok-case.ensures
