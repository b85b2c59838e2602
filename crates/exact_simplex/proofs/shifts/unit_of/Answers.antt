use Rattle.std.proofs.Common.{◌∙◌, sym, arith, add-one}
use Rattle.exact_simplex.proofs.ShiftSteps.{unit_here, unit_next, unit_past}
use Rattle.exact_simplex.proofs.shifts.unit_of.Goals as goal

pub loop-k-preserved : goal.loop-k-preserved
loop-k-preserved c = record { so_far = c.loop-k.invariant.so_far ∙ rw add-one (unit_next c.args.units.now c.args.row c.loop-k.k (omega arith) c.if-unit-row.false) }

pub returns-then-unit-row : goal.returns-then-unit-row
returns-then-unit-row c = sym (c.loop-k.invariant.so_far ∙ unit_here c.args.units.now c.args.row c.loop-k.k (omega arith) c.if-unit-row.true)

pub returns : goal.returns
returns c = sym (c.loop-k.invariant.so_far ∙ unit_past c.args.units.now c.args.row c.loop-k.k (omega arith))
