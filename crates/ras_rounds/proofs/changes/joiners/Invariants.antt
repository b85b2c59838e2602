use Rattle.std.proofs.Common.{◌≡◌, take}
use Rattle.std.specs.Prelude.{zip}
use Rattle.ras_rounds.proofs.MendSteps.{joining}
use Rattle.ras_rounds.proofs.changes.joiners.Given as goal

abbrev pub invariant-loop-i : goal.invariant-loop-i
invariant-loop-i l = l.joiners.items ≡ joining (take l.i (zip l.places l.others))
