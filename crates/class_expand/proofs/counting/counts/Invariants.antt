use Rattle.std.proofs.Common.{◌≡◌, take}
use Rattle.std.specs.Prelude.{map}
use Rattle.class_expand.specs.Lifting.{number_among}
use Rattle.class_expand.proofs.counting.counts.Given as goal

abbrev pub invariant-loop-column : goal.invariant-loop-column
invariant-loop-column l = l.numbers.items ≡ map (λ c. number_among l.case l.classes.list l.a c.mark) (take l.column-index l.program.columns)
