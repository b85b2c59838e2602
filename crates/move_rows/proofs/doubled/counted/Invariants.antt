use Rattle.std.proofs.Common.{◌≡◌, length}
use Rattle.move_rows.proofs.doubled.counted.Given as goal

abbrev pub invariant-loop-server : goal.invariant-loop-server
invariant-loop-server l = length l.of.items ≡ l.server
