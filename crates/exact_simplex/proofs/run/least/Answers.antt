use Rattle.exact_simplex.specs.Forms.{parts_of}
use Rattle.std.proofs.Common.{inl}
use Rattle.exact_simplex.proofs.CertificateSteps.{certificate_of, steps_from, units_differ}
use Rattle.exact_simplex.proofs.AnswerSteps.{misfit_answer}
use Rattle.exact_simplex.proofs.run.least.Goals as goal

pub point_of-requires-clause-steps : goal.point_of-requires-clause-steps
point_of-requires-clause-steps c = let r = c.requires.standing in steps_from c.args.program.now c.args.bounds.now c.args.at r.scaled c.requires.is_box r.stands c.requires.least

pub misfit-requires-clause-units : goal.misfit-requires-clause-units
misfit-requires-clause-units c = let r = c.requires.standing in units_differ (parts_of c.args.program.now c.args.bounds.now) c.args.at r.scaled r.stands

pub exact_duals-requires-clause-units : goal.exact_duals-requires-clause-units
exact_duals-requires-clause-units c = let r = c.requires.standing in units_differ (parts_of c.args.program.now c.args.bounds.now) c.args.at r.scaled r.stands

pub misfit-requires-in_default-2-clause-units : goal.misfit-requires-in_default-2-clause-units
misfit-requires-in_default-2-clause-units c = let r = c.requires.standing in units_differ (parts_of c.args.program.now c.args.bounds.now) c.args.at r.scaled r.stands

pub returns-in_default-2 : goal.returns-in_default-2
returns-in_default-2 c = misfit_answer c.misfit-in_default-2.result c.args.program.now c.args.bounds.now c.args.at (inl (c.requires.least, λ fits. (rw c.in_default-2.is at c.in_ok-duals.ensures.none) fits.duals fits.are_duals)) c.misfit-in_default-2.ensures

pub returns : goal.returns
returns c =
    let r = c.requires.standing in
    let is = rw c.in-Some.is at c.in_ok-point.ensures.point in
    let are = rw c.in-Some-2.is at c.in_ok-duals.ensures.duals in
    let certain = certificate_of c.args.program.now c.args.bounds.now c.args.at r.scaled c.in-Some.point c.in-Some-2.duals c.requires.is_box r.stands c.requires.least is are in
    λ from pivots within. (within, c.requires.least, are.there, certain, is, are)
