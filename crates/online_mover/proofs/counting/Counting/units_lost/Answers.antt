use Rattle.plan_model.proofs.AllowedLaws.{lost-nothing}
use Rattle.online_mover.proofs.counting.Counting.units_lost.Goals as goal

pub returns-in-Total : goal.returns-in-Total
returns-in-Total c = lost-nothing c.args.self.now.case c.args.self.now.counts c.args.r c.args.lost c.in-Total.is
