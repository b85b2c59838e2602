use Rattle.std.proofs.Common.{◌≡◌, take}
use Rattle.exact_simplex.proofs.other_box.copied.Given as goal

abbrev pub invariant-loop-unit : goal.invariant-loop-unit
invariant-loop-unit l = record { so_far : l.copy.items ≡ take l.unit-index l.units }
