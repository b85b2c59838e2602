use Rattle.spare_pool.proofs.Rules.{may-serve}
use Rattle.spare_pool.proofs.pool.Pool.take.Goals as goal

pub put-requires-clause-stands : goal.put-requires-clause-stands
put-requires-clause-stands c = may-serve c.args.self.now c.args.spare c.args.r c.requires.in_range c.requires.some
