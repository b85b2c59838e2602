use Rattle.std.proofs.Common.{ap, ◌∙◌}
use Rattle.plan_model.specs.Allowed.{keeps_need}
use Rattle.online_mover.specs.States.{State, is_protected}
use Rattle.online_mover.proofs.CountingFacts.{counting-at}
use Rattle.online_mover.proofs.mover.Mover.protected.Goals as goal

pub returns : goal.returns
returns c =
    c.keeps_need.ensures
    ∙ ap (λ b. keeps_need c.self.inside.counting.case b c.args.r) (counting-at (record { case = c.self.inside.counting.case; at_once = c.self.inside.at_once; servers = c.self.inside.servers }) c.self.inside.counting.counts c.self.invariant.1)
    ∙ ap (λ (state : State). is_protected state c.args.r) c.self.view_is
