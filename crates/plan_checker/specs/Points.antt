-- Trees whose splits show no points.
use Rattle.std.specs.Prelude.{Bool, false, List, None}
use Rattle.std.specs.List.{list_any}
use Rattle.std.specs.Option.{is_some}
use Rattle.bound_certificate.specs.declared.tree.Node.{Node}
use Rattle.bound_certificate.specs.declared.tree.Node.TheVariants.{Split, Bound, Refute}

-- whether a node shows a point
abbrev pub shows_point : Node → Bool
shows_point (Split column at low high shown) = is_some shown
shows_point (Bound y) = false
shows_point (Refute y) = false

abbrev pub shows_points : List Node → Bool
shows_points nodes = list_any shows_point nodes

-- a node without the point that it shows
abbrev pub without_point : Node → Node
without_point (Split column at low high shown) = Split column at low high None
without_point (Bound y) = Bound y
without_point (Refute y) = Refute y
