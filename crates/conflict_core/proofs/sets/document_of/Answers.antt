use Rattle.conflict_core.proofs.Documents.{documents-of, faults-of}
use Rattle.conflict_core.proofs.sets.document_of.Goals as goal

pub returns-clause-document : goal.returns-clause-document
returns-clause-document g c =
    documents-of c.args.region.now c.args.requests.now c.args.bindings.now c.args.members.now c.args.nodes c.args.case.now c.solve_case.result
    (record { kept = c.args.kept.now; is_kept = c.requires.is_kept; joined = c.requires.joined }) c.solve_case.ensures.solution

pub returns-clause-fault : goal.returns-clause-fault
returns-clause-fault g c =
    faults-of c.args.region.now c.args.requests.now c.args.bindings.now c.args.members.now c.args.case.now c.solve_case.result c.requires.those
    (record { kept = c.args.kept.now; is_kept = c.requires.is_kept; joined = c.requires.joined }) c.solve_case.ensures.fault
