use Rattle.std.proofs.Common.{◌≡◌, ◌++◌, drop, map, length, All}
use Rattle.std.specs.List.{list_all}
use Rattle.bound_certificate.specs.Rising.{TopInRange}
use Rattle.plan_document.specs.Shapes.{pair_fits}
use Rattle.plan_document.specs.Seen.{seen_top}
use Rattle.plan_document.proofs.node.tops_of.Given as goal

abbrev pub invariant-loop-pair : goal.invariant-loop-pair
invariant-loop-pair l =
    (list_all pair_fits (drop l.pair-index l.pairs) ≡ list_all pair_fits l.pairs) × (map seen_top l.tops.items ++ drop l.pair-index l.pairs ≡ l.pairs) × All TopInRange l.tops.items
    × (length l.tops.items ≡ l.pair-index)
