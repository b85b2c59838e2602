use Rattle.exact_simplex.proofs.PickSteps.{order_found, order_none}
use Rattle.exact_simplex.proofs.picks.order_of_quotients.Goals as goal

pub returns-clause-order : goal.returns-clause-order
returns-clause-order c = order_found c.cmp.result c.in-Some.x c.in-Some-div.y c.args.a c.args.p c.args.b c.args.q c.requires.first c.requires.second (rw c.in-Some.is at c.div.ensures.value) (rw c.in-Some-div.is at c.div-2.ensures.value) (rw c.in-Some.is at c.div.ensures.fits) (rw c.in-Some-div.is at c.div-2.ensures.fits) c.cmp.ensures

pub returns-then-is_none-2-clause-order : goal.returns-then-is_none-2-clause-order
returns-then-is_none-2-clause-order c = order_none c.args.a c.args.p c.args.b c.args.q (c.is_none.ensures.0 c.if-is_none.true) (c.is_none-then-is_none.ensures.0 c.if-is_none-2.true)
