use Rattle.exact_simplex.specs.Forms.{parts_of}
use Rattle.exact_simplex.proofs.CertificateSteps.{refutation_refutes, row_apart, units_differ}
use Rattle.exact_simplex.proofs.run.empty.Goals as goal

pub exact_refutation-requires-clause-units : goal.exact_refutation-requires-clause-units
exact_refutation-requires-clause-units c = let r = c.requires.standing in units_differ (parts_of c.args.program.now c.args.bounds.now) c.args.at r.scaled r.stands

pub exact_refutation-requires-clause-apart : goal.exact_refutation-requires-clause-apart
exact_refutation-requires-clause-apart c = let r = c.requires.standing in row_apart (parts_of c.args.program.now c.args.bounds.now) c.args.at r.scaled c.args.row r.stands c.requires.below

pub misfit-requires-clause-units : goal.misfit-requires-clause-units
misfit-requires-clause-units c = let r = c.requires.standing in units_differ (parts_of c.args.program.now c.args.bounds.now) c.args.at r.scaled r.stands

pub returns : goal.returns
returns c =
    let r = c.requires.standing in
    let are = rw c.in-Some.is at c.in_ok-duals.ensures.refutation in
    let refutes = refutation_refutes c.args.program.now c.args.bounds.now c.args.at r.scaled c.args.row c.in-Some.duals c.requires.is_box r.stands c.requires.below c.requires.none are in
    λ from pivots within. (within, record { row = c.args.row; below = c.requires.below; none = c.requires.none }, are.there, refutes, are)
