use Rattle.std.proofs.Common.{take}
use Rattle.symmetry_classes.specs.Groups.{flagged_servers}
use Rattle.symmetry_classes.specs.Keys.{IsFound}
use Rattle.symmetry_classes.proofs.grouping.group.Given as goal

abbrev pub invariant-loop-server : goal.invariant-loop-server
invariant-loop-server l = IsFound l.how l.racks l.case (flagged_servers (take l.server l.movable)) l.found.keys.keys l.found.classes.items
