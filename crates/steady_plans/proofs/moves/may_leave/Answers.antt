use Rattle.std.proofs.Common.{true, ap, sym, ◌∙◌, None}
use Rattle.plan_model.specs.Allowed.{keeps_need}
use Rattle.std.specs.Option.{option_map_or}
use Rattle.steady_plans.specs.Steady.{replaced}
use Rattle.steady_plans.proofs.Next.{there-of}
use Rattle.steady_plans.proofs.moves.may_leave.Goals as goal

pub keeps_need-requires-clause-sums : goal.keeps_need-requires-clause-sums
keeps_need-requires-clause-sums c = (replaced c.args.a.now c.args.server None, c.requires.sums)

pub returns-in-Some : goal.returns-in-Some
returns-in-Some c =
    c.keeps_need.ensures (replaced c.args.a.now c.args.server None) c.requires.sums
    ∙ sym (ap (λ o. option_map_or (keeps_need c.args.case.now (replaced c.args.a.now c.args.server None)) o true) c.in-Some.is)

pub keeps_need-requires-clause-there : goal.keeps_need-requires-clause-there
keeps_need-requires-clause-there c = there-of c.args.case.now c.args.from c.in-Some.r c.requires.there c.in-Some.is
