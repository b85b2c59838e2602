use Rattle.std.proofs.Common.{◌∙◌}
use Rattle.steady_plans.proofs.Next.{there-of}
use Rattle.steady_plans.proofs.Writes.{unplaced}
use Rattle.steady_plans.proofs.sums.take_place.Goals as goal

pub take-requires-clause-there : goal.take-requires-clause-there
take-requires-clause-there c = there-of c.args.case.now c.args.from c.in-Some.r c.requires.there c.in-Some.is

pub returns-in-Some : goal.returns-in-Some
returns-in-Some c = λ a are some. c.take.ensures a are (some ∙ c.in-Some.is)

pub returns-in-None : goal.returns-in-None
returns-in-None c = λ a are some. unplaced c.args.case.now a c.args.server c.args.sums.now are (some ∙ c.in-None.is)
