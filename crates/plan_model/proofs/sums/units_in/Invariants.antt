use Rattle.std.proofs.Common.{◌≡◌, ◌≤◌, ◌*◌, take, cond, ◌==◌}
use Rattle.std.specs.Prelude.{sum_by, zip}
use Rattle.plan_model.specs.Levels.{number_at}
use Rattle.plan_model.specs.Units.{share_of}
use Rattle.plan_model.proofs.sums.units_in.Given as goal

abbrev pub invariant-loop-i : goal.invariant-loop-i
invariant-loop-i l =
    (l.sum ≡ sum_by (λ s. cond (number_at l.level s.0 == l.number) (share_of l.case l.r s) 0) (take l.i (zip l.places l.of))) × (l.sum ≤ 1000 * l.i)
