use Rattle.std.proofs.Common.{◌-◌}
use Rattle.online_mover.specs.States.{in_flight}
use Rattle.online_mover.specs.Steps.{Gives}
use Rattle.online_mover.specs.Changes.{NoneBelow}
use Rattle.online_mover.proofs.mover.Mover.step.Given as goal

abbrev pub invariant-loop-command : goal.invariant-loop-command
invariant-loop-command l = Gives l.initial.self l.out l.self × NoneBelow l.self l.from

abbrev pub decreases-loop-command : goal.decreases-loop-command
decreases-loop-command l = l.self.at_once - in_flight l.self
