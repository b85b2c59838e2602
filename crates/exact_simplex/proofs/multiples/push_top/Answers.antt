use Rattle.std.proofs.Common.{arith, refl}
use Rattle.exact_simplex.proofs.MultiplierSteps.{num_at-none, pushed_own, pushed_other}
use Rattle.exact_simplex.proofs.multiples.push_top.Goals as goal

pub returns-in_ok-push-clause-own : goal.returns-in_ok-push-clause-own
returns-in_ok-push-clause-own c = rw c.in_ok-push.ensures.items (pushed_own c.args.tops.now.items c.args.row c.args.num _ refl refl c.requires.listed.below)

pub returns-in_ok-push-clause-others : goal.returns-in_ok-push-clause-others
returns-in_ok-push-clause-others c = rw c.in_ok-push.ensures.items (λ i h. pushed_other c.args.tops.now.items c.args.row i _ refl h)

pub returns-else-num-gt0-clause-own : goal.returns-else-num-gt0-clause-own
returns-else-num-gt0-clause-own c =
    let none = num_at-none c.args.tops.now.items c.args.row c.args.row c.requires.listed.below (omega arith) in
    let no = c.if-num-gt0.false in
    omega (arith, none, no)
