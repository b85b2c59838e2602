use Rattle.std.proofs.Common.{◌≤◌, ◌-◌, length}
use Rattle.conflict_core.specs.Steps.{IsFewer}
use Rattle.conflict_core.proofs.tries.halve.Given as goal

abbrev pub invariant-loop-low : goal.invariant-loop-low
invariant-loop-low g l = record {
  fewer : IsFewer l.region l.requests l.bindings l.nodes (length l.initial.clash.members) l.clash;
  within : l.high ≤ length l.clash.members;
}

abbrev pub decreases-loop-low : goal.decreases-loop-low
decreases-loop-low g l = l.high - l.low
