-- Which of two servers is taken first for a reservation.
use Rattle.std.specs.Prelude.{ℕ, Bool, ◌&&◌, ◌||◌, ◌==◌, nat_lt}
use Rattle.ras_requests.specs.declared.requests.Protection.{Protection}
use Rattle.ras_requests.specs.declared.requests.Protection.TheVariants.{Total, Board, Center}
use Rattle.plan_model.specs.declared.cases.Place.{Place}
use Rattle.plan_model.specs.declared.cases.Case.{Case}
use Rattle.plan_model.specs.declared.cases.Assignment.{Assignment}
use Rattle.plan_model.specs.Units.{value_for, want_of, units_on_board, units_in_center}
use Rattle.first_plans.specs.declared.ranks.Rank.{Rank}

-- what a protection looks at: none at the value alone, switchboard also at the units there, and datacenter at both
abbrev pub rank_by : Protection → ℕ → ℕ → ℕ → Rank
rank_by Total in_center on_board value = record { in_center = 0; on_board = 0; value = value }
rank_by Board in_center on_board value = record { in_center = 0; on_board = on_board; value = value }
rank_by Center in_center on_board value = record { in_center = in_center; on_board = on_board; value = value }

-- the rank of a server for r: r's units in its datacenter and on its switchboard, and its value
abbrev pub rank_of : Case → Assignment → ℕ → Place → Rank
rank_of case a r s = rank_by (want_of case r).protection (units_in_center case a r s.center) (units_on_board case a r s.board) (value_for case r s.kind)

-- fewer units in the datacenter, then fewer on the switchboard, then a greater value
abbrev pub is_before : Rank → Rank → Bool
is_before x y =
    nat_lt x.in_center y.in_center
    || (x.in_center == y.in_center && (nat_lt x.on_board y.on_board || (x.on_board == y.on_board && nat_lt y.value x.value)))
