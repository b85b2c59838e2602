use Rattle.std.proofs.Common.{length}
use Rattle.conflict_core.specs.Steps.{IsClash}
use Rattle.conflict_core.proofs.cores.core_of.Given as goal

abbrev pub invariant-loop-clash : goal.invariant-loop-clash
invariant-loop-clash g l = IsClash l.region l.requests l.bindings l.nodes l.clash

abbrev pub decreases-loop-clash : goal.decreases-loop-clash
decreases-loop-clash g l = length l.clash.members
