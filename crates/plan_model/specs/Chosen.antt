-- Lists of reservations of a case.
use Rattle.std.specs.Prelude.{ℕ, ◌≤◌, ◌<◌, ◌==◌, List, length, sum_by, All, if◌then◌else◌}
use Rattle.plan_model.specs.declared.cases.Case.{Case}

-- reservations that are there, each at most once
pub record AreChosen (case : Case) (chosen : List ℕ) : Type 0 where
  pub there : All (λ r. r < length case.wants) chosen
  pub once : (r : ℕ) → sum_by (λ q. if q == r then 1 else 0) chosen ≤ 1
