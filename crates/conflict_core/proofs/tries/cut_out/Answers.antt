use Rattle.conflict_core.proofs.Trying.{cut-are}
use Rattle.conflict_core.proofs.tries.cut_out.Goals as goal

pub try_set-requires-clause-those : goal.try_set-requires-clause-those
try_set-requires-clause-those g c =
    cut-are c.args.clash.now.members c.in_ok-fewer.fewer c.args.from c.args.to _ c.in_ok-fewer.ensures c.requires.order c.requires.clash.those
