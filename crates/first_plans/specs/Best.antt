-- The server that is taken, found in one pass over the servers.
use Rattle.std.specs.Prelude.{ℕ, zero, suc, if◌then◌else◌, Option, Some, None}
use Rattle.plan_model.specs.declared.cases.Case.{Case}
use Rattle.plan_model.specs.declared.cases.Assignment.{Assignment}
use Rattle.plan_model.specs.Units.{server_with, place_of}
use Rattle.first_plans.specs.declared.takes.Candidate.{Candidate}
use Rattle.first_plans.specs.Ranks.{rank_of, is_before}
use Rattle.first_plans.specs.FirstPlan.{may_be_taken}

abbrev pub candidate_at : Case → Assignment → ℕ → ℕ → Candidate
candidate_at case a r s = record { server = s; rank = rank_of case a r (place_of case s) }

-- the server of that number, where it may be taken
abbrev pub candidate_of : Case → Assignment → ℕ → ℕ → Option Candidate
candidate_of case a r s = if may_be_taken case r (server_with case a s) then Some (candidate_at case a r s) else None

-- the earlier of two unless the later goes before it
abbrev pub better_of : Option Candidate → Option Candidate → Option Candidate
better_of earlier None = earlier
better_of None (Some later) = Some later
better_of (Some earlier) (Some later) = if is_before later.rank earlier.rank then Some later else Some earlier

-- the best of the first n servers
abbrev pub best_of : Case → Assignment → ℕ → ℕ → Option Candidate
best_of case a r zero = None
best_of case a r (suc n) = better_of (best_of case a r n) (candidate_of case a r n)
