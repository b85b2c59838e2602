use Rattle.std.proofs.Common.{◌≡◌, ◌≤◌, drop, None, length}
use Rattle.plan_document.specs.Numbers.{paired}
use Rattle.plan_document.proofs.NumbersLemmas.{with_front}
use Rattle.plan_document.proofs.numbers.paired.Given as goal

abbrev pub invariant-loop-number : goal.invariant-loop-number
invariant-loop-number l = (with_front l.found.items (paired l.pending (drop l.number-index l.numbers)) ≡ paired None l.numbers) × (length l.found.items ≤ l.number-index)
