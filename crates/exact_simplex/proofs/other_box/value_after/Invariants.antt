use Rattle.std.proofs.Common.{drop}
use Rattle.exact_simplex.proofs.StepFacts.{ValueUpTo}
use Rattle.exact_simplex.proofs.other_box.value_after.Given as goal

abbrev pub invariant-loop-shift : goal.invariant-loop-shift
invariant-loop-shift l = ValueUpTo l.place l.row l.shifts (drop l.shift-index l.shifts) l.value
