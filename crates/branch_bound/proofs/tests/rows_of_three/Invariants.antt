use Rattle.std.proofs.Common.{◌≡◌, map, take}
use Rattle.ip_model.specs.declared.parts.RowKind.TheVariants.{Total}
use Rattle.branch_bound.proofs.tests.rows_of_three.Given as goal

abbrev pub invariant-loop-pair : goal.invariant-loop-pair
invariant-loop-pair l = l.rows.items ≡ map (λ g. record { terms = map (λ t. record { column = t.0; factor = t.1 }) g.0; least = g.1; kind = Total }) (take l.pair-index l.given)
