use Rattle.std.proofs.Common.{refl, arith}
use Rattle.spare_pool.proofs.Rules.{spare-within}
use Rattle.spare_pool.proofs.pool.Pool.fill.Goals as goal

pub take-requires-clause-there : goal.take-requires-clause-there
take-requires-clause-there c = spare-within c.args.self.now c.in-Some.by c.in-Some.ensures.enough.spare

pub take-requires-clause-some : goal.take-requires-clause-some
take-requires-clause-some c = omega (arith, c.in-Some.ensures.enough.value, c.requires.some)

pub fall_short-requires-clause-none : goal.fall_short-requires-clause-none
fall_short-requires-clause-none c = c.in-None.ensures

pub returns-in-Some : goal.returns-in-Some
returns-in-Some c = (refl, c.in-Some.ensures, c.take.ensures)
