use Rattle.std.proofs.Common.{◌≡◌, None, map, take}
use Rattle.ip_model.specs.declared.parts.Mark.TheVariants.{Count}
use Rattle.exact_simplex.proofs.tests.counts.Given as goal

abbrev pub invariant-loop-pair : goal.invariant-loop-pair
invariant-loop-pair l = l.columns.items ≡ map (λ g. record { cost = g.0; top = g.1; mark = Count 0 None }) (take l.pair-index l.given)
