-- What is gone from `rest` was appended, in each turn at least one byte.
use Rattle.std.proofs.Common.{◌≡◌, ◌≤◌, ℕ, List, ◌++◌, length}
use Rattle.std.specs.Io.KnownBytes.{Appends}
use Rattle.ras_outside.proofs.writer.write_whole.Given as goal

abbrev pub invariant-loop : goal.invariant-loop
invariant-loop g l = (done : List ℕ) × (l.piece ≡ done ++ l.rest) × (l.counter ≤ length done)
    × Appends (g.W.Write.contents l.initial.writer) (g.W.Write.contents l.writer) done
