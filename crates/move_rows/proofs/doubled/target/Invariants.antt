use Rattle.std.proofs.Common.{◌≡◌, length}
use Rattle.move_rows.proofs.doubled.target.Given as goal

abbrev pub invariant-loop-number : goal.invariant-loop-number
invariant-loop-number l = length l.of ≡ l.number
