use Rattle.std.proofs.Common.{to_z-of_z, FitsSigned}
use Rattle.std.specs.Int.{w64}
use Rattle.exact_simplex.proofs.StepFacts.{moved_when}
use Rattle.exact_simplex.proofs.other_box.moved.Goals as goal

pub returns-clause-value : goal.returns-clause-value
returns-clause-value c =
    let by : FitsSigned w64 c.args.by = c.ranges.by in
    let num = simp to_z-of_z at c.whole.ensures.num in
    moved_when c.joined.result c.args.adds c.args.old c.whole.result c.args.by num c.whole.ensures.den c.joined.ensures.value

pub returns-clause-fits : goal.returns-clause-fits
returns-clause-fits c =
    let by : FitsSigned w64 c.args.by = c.ranges.by in
    let num = simp to_z-of_z at c.whole.ensures.num in
    rw (num, c.whole.ensures.den) at c.joined.ensures.fits

pub returns-clause-none : goal.returns-clause-none
returns-clause-none c =
    let by : FitsSigned w64 c.args.by = c.ranges.by in
    let num = simp to_z-of_z at c.whole.ensures.num in
    rw (num, c.whole.ensures.den) at c.joined.ensures.none
