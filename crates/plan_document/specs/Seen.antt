-- Nodes and trees as a document states them.
use Rattle.std.specs.Prelude.{map, option_map}
use Rattle.ip_model.specs.declared.point.Point.{Point}
use Rattle.bound_certificate.specs.declared.multipliers.Top.{Top}
use Rattle.bound_certificate.specs.declared.multipliers.Multipliers.{Multipliers}
use Rattle.bound_certificate.specs.declared.tree.Node.{Node}
use Rattle.bound_certificate.specs.declared.tree.Node.TheVariants as node
use Rattle.plan_document.specs.declared.shape.Pair.{Pair}
use Rattle.plan_document.specs.declared.shape.Weights.{Weights}
use Rattle.plan_document.specs.declared.shape.Fractions.{Fractions}
use Rattle.plan_document.specs.declared.shape.Shape.{Shape}
use Rattle.plan_document.specs.declared.shape.Shape.TheVariants.{Split, Bound, Refute}

abbrev pub seen_top : Top → Pair
seen_top t = record { row = t.row; num = t.num }

abbrev pub seen_multipliers : Multipliers → Weights
seen_multipliers m = record { den = m.den; pairs = map seen_top m.tops }

abbrev pub seen_point : Point → Fractions
seen_point p = record { den = p.den; whole = p.whole; part = p.part }

abbrev pub seen_node : Node → Shape
seen_node (node.Split column at low high shown) = Split (record { column = column; at = at; low = low; high = high; shown = option_map seen_point shown })
seen_node (node.Bound m) = Bound (seen_multipliers m)
seen_node (node.Refute m) = Refute (seen_multipliers m)
