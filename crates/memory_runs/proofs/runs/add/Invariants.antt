use Rattle.std.proofs.Common.{◌≡◌, ◌++◌, map, take}
use Rattle.memory_runs.proofs.runs.add.Given as goal

abbrev pub invariant-loop-text : goal.invariant-loop-text
invariant-loop-text l = l.words.items ≡ l.initial.words.items ++ map (λ w. w.now) (take l.text-index l.line)
