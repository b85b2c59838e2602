use Rattle.std.proofs.Common.{◌≡◌, ◌++◌, take}
use Rattle.std.specs.Prelude.{map}
use Rattle.program_rows.specs.Sums.{rack_line}
use Rattle.program_rows.proofs.lines.push_rack_overs.Given as goal

abbrev pub invariant-loop-rack : goal.invariant-loop-rack
invariant-loop-rack l = l.rows.items ≡ l.initial.rows.items ++ map (rack_line l.case l.classes l.columns l.reach.reservation) (take l.rack-index l.reach.racks)
