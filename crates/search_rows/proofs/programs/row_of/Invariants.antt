use Rattle.std.proofs.Common.{◌≡◌, map, take}
use Rattle.search_rows.proofs.programs.row_of.Given as goal

abbrev pub invariant-loop-pair : goal.invariant-loop-pair
invariant-loop-pair l = l.terms.items ≡ map (λ t. record { column = t.0; factor = t.1 }) (take l.pair-index l.given)
