use Rattle.std.proofs.Common.{◌-◌, length}
use Rattle.conflict_core.specs.Steps.{IsFewer}
use Rattle.conflict_core.proofs.tries.narrow.Given as goal

abbrev pub invariant-loop-known : goal.invariant-loop-known
invariant-loop-known g l = IsFewer l.region l.requests l.bindings l.nodes (length l.initial.clash.members) l.clash

abbrev pub decreases-loop-known : goal.decreases-loop-known
decreases-loop-known g l = length l.clash.members - l.known
