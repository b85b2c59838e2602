use Rattle.std.proofs.Common.{◌≡◌, None, map, take, if◌then◌else◌}
use Rattle.ip_model.specs.declared.parts.Mark.TheVariants.{Count, Share}
use Rattle.branch_bound.proofs.tests.columns_of.Given as goal

abbrev pub invariant-loop-triple : goal.invariant-loop-triple
invariant-loop-triple l = l.columns.items ≡ map (λ g. record { cost = g.0; top = g.1; mark = if g.2 then Share 0 else Count 0 None }) (take l.triple-index l.given)
