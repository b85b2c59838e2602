use Rattle.std.proofs.Common.{◌≡◌, map, take}
use Rattle.ip_model.specs.declared.parts.RowKind.TheVariants.{Total}
use Rattle.exact_simplex.proofs.tests.lines.Given as goal

abbrev pub invariant-loop-pair : goal.invariant-loop-pair
invariant-loop-pair l = l.lines.items ≡ map (λ g. record { terms = map (λ t. record { column = t.0; factor = t.1 }) g.0.now; least = g.1; kind = Total }) (take l.pair-index l.given)
