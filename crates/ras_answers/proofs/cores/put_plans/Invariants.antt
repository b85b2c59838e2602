use Rattle.std.proofs.Common.{take}
use Rattle.ras_answers.specs.Cores.{AddsShown, without_each}
use Rattle.ras_answers.proofs.cores.put_plans.Given as goal

abbrev pub invariant-loop-n : goal.invariant-loop-n
invariant-loop-n l = AddsShown l.files (take l.n (without_each l.members l.plans)) l.initial.text.items l.text.items
