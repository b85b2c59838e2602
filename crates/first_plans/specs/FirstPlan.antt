-- The first plan: servers are taken for one reservation after the other, until each keeps its need.
use Rattle.std.specs.Prelude.{ℕ, zero, suc, Bool, true, not, ◌&&◌, ◌≡◌, ◌≤◌, ◌<◌, nat_lt, if◌then◌else◌, List, [], ◌∷◌, length, position, slice_set, Option, Some, None, is_none, option_and_then}
use Rattle.std.specs.List.{list_all}
use Rattle.plan_model.specs.declared.cases.Place.{Place}
use Rattle.plan_model.specs.declared.cases.Case.{Case}
use Rattle.plan_model.specs.declared.cases.Assignment.{Assignment}
use Rattle.plan_model.specs.Units.{value_for, servers_with_places, all_reservations}
use Rattle.plan_model.specs.Allowed.{fits, keeps_need}
use Rattle.first_plans.specs.Kept.{kept_plan}
use Rattle.first_plans.specs.Ranks.{rank_of, is_before}

-- whether a server may be taken for r: it is up, it has none, and its value is above 0
abbrev pub may_be_taken : Case → ℕ → Place × Option ℕ → Bool
may_be_taken case r s = s.0.up && is_none s.1 && nat_lt 0 (value_for case r s.0.kind)

-- whether a server is taken for r before another
abbrev pub goes_before : Case → Assignment → ℕ → Place → Place → Bool
goes_before case a r s t = is_before (rank_of case a r s) (rank_of case a r t)

-- whether a server may be taken, and no server that may be taken goes before it
abbrev pub is_next : Case → Assignment → ℕ → Place × Option ℕ → Bool
is_next case a r s = may_be_taken case r s && list_all (λ t. not (may_be_taken case r t && goes_before case a r t.0 s.0)) (servers_with_places case a)

-- the server that is taken: the first of these in the file
abbrev pub next_server : Case → Assignment → ℕ → Option ℕ
next_server case a r = position (is_next case a r) (servers_with_places case a)

abbrev pub given : Assignment → ℕ → ℕ → Assignment
given a s r = record { of = slice_set a.of s (Some r) }

-- servers are taken for r until it keeps its need, at most so many
abbrev pub filled : Case → ℕ → ℕ → Assignment → Option Assignment
filled case r zero a = if keeps_need case a r then Some a else None
filled case r (suc most) a = if keeps_need case a r then Some a else option_and_then (λ s. filled case r most (given a s r)) (next_server case a r)

-- the same for these reservations in turn, as long as there are servers
abbrev pub filled_each : Case → Assignment → List ℕ → Option Assignment
filled_each case a [] = Some a
filled_each case a (r ∷ rs) = option_and_then (λ b. filled_each case b rs) (filled case r (length case.places) a)

-- none where a reservation does not keep its need and no server may be taken for it
abbrev pub first_plan_of : Case → Option Assignment
first_plan_of case = filled_each case (kept_plan case) (all_reservations case)

-- no reservation takes more servers than there are
abbrev pub MoreTakesChangeNothing : Type 0
MoreTakesChangeNothing =
    (case : Case) (a : Assignment) (r most : ℕ) → fits case a ≡ true → r < length case.wants → length case.places ≤ most → filled case r most a ≡ filled case r (length case.places) a
