use Rattle.std.proofs.Common.{ap, ◌∙◌}
use Rattle.plan_model.specs.declared.cases.Holder.TheVariants.{Held}
use Rattle.plan_model.specs.Allowed.{keeps_need}
use Rattle.online_mover.specs.States.{State}
use Rattle.online_mover.specs.Commands.{is_protected_without}
use Rattle.online_mover.proofs.CountingFacts.{drain-counting}
use Rattle.online_mover.proofs.mover.Mover.protected_without.Goals as goal

pub returns : goal.returns
returns c =
    c.keeps_need_without.ensures
    ∙ ap (λ b. keeps_need c.self.inside.counting.case b c.args.r)
    (drain-counting (record { case = c.self.inside.counting.case; at_once = c.self.inside.at_once; servers = c.self.inside.servers }) c.self.inside.counting.counts c.args.server (Held c.args.r) c.self.invariant.1)
    ∙ ap (λ (state : State). is_protected_without state c.args.server (Held c.args.r) c.args.r) c.self.view_is
