use Rattle.online_mover.specs.Changes.{NoneBelow}
use Rattle.online_mover.proofs.mover.Mover.least_command.Given as goal

abbrev pub invariant-loop-server : goal.invariant-loop-server
invariant-loop-server l = NoneBelow l.self l.server
