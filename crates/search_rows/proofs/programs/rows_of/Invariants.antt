use Rattle.std.proofs.Common.{◌≡◌, map, take}
use Rattle.ip_model.specs.declared.parts.RowKind.TheVariants.{Total}
use Rattle.search_rows.proofs.programs.rows_of.Given as goal

abbrev pub invariant-loop-pair : goal.invariant-loop-pair
invariant-loop-pair l = l.rows.items ≡ map (λ g. record { terms = map (λ t. record { column = t.0; factor = t.1 }) g.0.now; least = g.1; kind = Total }) (take l.pair-index l.given)
