use Rattle.exact_simplex.proofs.StepFacts.{joined_less}
use Rattle.exact_simplex.proofs.other_box.joined.Goals as goal

pub returns-then-adds-clause-value : goal.returns-then-adds-clause-value
returns-then-adds-clause-value c = rw c.if-adds.true c.add.ensures.value

pub returns-then-adds-clause-fits : goal.returns-then-adds-clause-fits
returns-then-adds-clause-fits c = rw c.if-adds.true c.add.ensures.fits

pub returns-then-adds-clause-none : goal.returns-then-adds-clause-none
returns-then-adds-clause-none c = rw c.if-adds.true c.add.ensures.none

pub returns-else-adds-clause-value : goal.returns-else-adds-clause-value
returns-else-adds-clause-value c = rw c.if-adds.false (joined_less c.sub.result c.args.old c.args.part c.sub.ensures.value)

pub returns-else-adds-clause-fits : goal.returns-else-adds-clause-fits
returns-else-adds-clause-fits c = rw c.if-adds.false c.sub.ensures.fits

pub returns-else-adds-clause-none : goal.returns-else-adds-clause-none
returns-else-adds-clause-none c = rw c.if-adds.false c.sub.ensures.none
