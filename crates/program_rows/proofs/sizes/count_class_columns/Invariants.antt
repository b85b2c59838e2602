use Rattle.std.proofs.Common.{◌≡◌, ◌≤◌, ◌*◌, take, length}
use Rattle.std.specs.Prelude.{flat_map}
use Rattle.std.specs.List.{enumerate_from}
use Rattle.program_rows.specs.Reach.{columns_of_class}
use Rattle.program_rows.proofs.sizes.count_class_columns.Given as goal

abbrev pub invariant-loop-class : goal.invariant-loop-class
invariant-loop-class l =
    (l.count ≡ length (flat_map (columns_of_class l.case l.active) (enumerate_from 0 (take l.class-index l.classes)))) × (l.count ≤ 65 * l.class-index)
