use Rattle.std.proofs.Common.{sym, ◌∙◌}
use Rattle.steady_plans.proofs.Starts.{active-is}
use Rattle.steady_plans.proofs.local.is_active.Goals as goal

pub returns : goal.returns
returns c = c.makes_active.ensures ∙ sym (active-is c.args.case.now c.args.phase.now c.args.r c.requires)
