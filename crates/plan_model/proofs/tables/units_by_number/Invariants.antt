use Rattle.std.proofs.Common.{◌≡◌, ℕ, ◌+◌, ◌<◌, ◌≤◌, ◌*◌, ◌==◌, take, get_or, length, cond}
use Rattle.std.specs.Prelude.{sum_by, zip}
use Rattle.plan_model.specs.Units.{share_of}
use Rattle.plan_model.specs.Levels.{number_at}
use Rattle.plan_model.proofs.tables.units_by_number.Given as goal

abbrev pub invariant-loop-i : goal.invariant-loop-i
invariant-loop-i l =
    ((k : ℕ) → k < 256
    → get_or l.table k 0 ≡ sum_by (λ s. cond (number_at l.level s.0 == l.first + k) (share_of l.case l.r s) 0) (take l.i (zip l.places l.of)))
    × ((k : ℕ) → k < 256 → get_or l.table k 0 ≤ 1000 * l.i)
    × (length l.table ≡ 256)
