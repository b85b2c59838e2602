use Rattle.plan_checker.proofs.Parts.{gap_range}
use Rattle.plan_checker.proofs.certificates.certificate_reason.Goals as goal

pub bound_reason-requires-clause-gap : goal.bound_reason-requires-clause-gap
bound_reason-requires-clause-gap c = gap_range c.args.case.now c.args.stated.now.plan c.requires.stated.plan
