use Rattle.std.proofs.Common.{◌≡◌, take}
use Rattle.std.specs.Prelude.{map, zip}
use Rattle.ras_rounds.specs.Rounds.{differs}
use Rattle.ras_rounds.proofs.changes.changed_flags.Given as goal

abbrev pub invariant-loop-i : goal.invariant-loop-i
invariant-loop-i l = l.flags.items ≡ map (λ e. differs e.0 e.1) (take l.i (zip l.places l.others))
