use Rattle.std.proofs.Common.{◌<◌, ◌-◌, ℕ, ap, refl, arith}
use Rattle.spare_pool.specs.States.{value_of}
use Rattle.spare_pool.proofs.Rules.{spare-within}
use Rattle.spare_pool.proofs.StepFacts.{gives-less}
use Rattle.spare_pool.proofs.pool.Pool.fall_short.Goals as goal

pub value-given-requires-clause-there : goal.value-given-requires-clause-there
value-given-requires-clause-there c = spare-within c.args.self.now c.in-Some.by c.in-Some.ensures.some.spare

pub overflow_sub-missing : goal.overflow_sub-missing
overflow_sub-missing c =
    let less : value_of c.args.self.now c.args.r c.in-Some.by < c.args.lost = gives-less c.args.self.now c.args.r c.args.lost c.in-Some.by c.in-Some.ensures.some.spare c.requires.none in
    omega (arith, less, c.value-given.ensures)

pub take-requires-clause-there : goal.take-requires-clause-there
take-requires-clause-there c = spare-within c.args.self.now c.in-Some.by c.in-Some.ensures.some.spare

pub take-requires-clause-some : goal.take-requires-clause-some
take-requires-clause-some c = omega (arith, c.in-Some.ensures.some.value)

pub returns-in-Some : goal.returns-in-Some
returns-in-Some c = (refl, c.requires.none, c.in-Some.ensures, ap (λ (n : ℕ). c.args.lost - n) c.value-given.ensures, c.take.ensures)

pub returns-in-None : goal.returns-in-None
returns-in-None c = (refl, c.requires.none, c.in-None.ensures, refl, refl)
