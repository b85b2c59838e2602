use Rattle.std.proofs.Common.{◌≡◌, map, take}
use Rattle.exact_simplex.proofs.tests.line.Given as goal

abbrev pub invariant-loop-pair : goal.invariant-loop-pair
invariant-loop-pair l = l.terms.items ≡ map (λ g. record { column = g.0; factor = g.1 }) (take l.pair-index l.given)
