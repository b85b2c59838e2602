use Rattle.std.proofs.Common.{◌≡◌, take}
use Rattle.std.specs.Prelude.{map}
use Rattle.program_rows.specs.Reach.{reach_among}
use Rattle.program_rows.proofs.reach.reaches_among.Given as goal

abbrev pub invariant-loop-r : goal.invariant-loop-r
invariant-loop-r l = l.reaches.items ≡ map (reach_among l.case l.servers l.racks) (take l.r-index l.active)
