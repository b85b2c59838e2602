-- What was taken is kept and counted, in each turn at least one byte, and no more than the most.
use Rattle.std.proofs.Common.{◌≡◌, ◌≤◌, length}
use Rattle.ras_outside.specs.Reading.{Took}
use Rattle.ras_outside.proofs.reading.read_whole.Given as goal

abbrev pub invariant-loop-turn : goal.invariant-loop-turn
invariant-loop-turn g l = Took (g.S.Source.left l.initial.source) (g.S.Source.left l.source) l.initial.taken l.taken l.bytes.items
    × (l.turn ≤ length l.bytes.items) × (length l.bytes.items ≤ l.most)
