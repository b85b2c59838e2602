-- A reservation whose numbers and lengths are within their limits.
use Rattle.std.specs.Prelude.{◌≡◌, ◌≤◌, true, List, length}
use Rattle.ras_table.specs.Names.{names_differ}
use Rattle.ras_requests.specs.declared.requests.Reservation.{Reservation}
use Rattle.std.specs.List.{list_all}
use Rattle.ras_requests.specs.RequestsRule.{value_in_range, near_in_range, reservation_rule, reservation_names}
use Rattle.ras_requests.specs.Drafts.{seen_units, seen_aim}
use Rattle.ras_requests.specs.declared.draft.Draft.{Draft}

pub record WithinLimits (draft : Draft) : Type 0 where
  pub need : draft.need ≤ 10000000
  pub spread_limit : draft.penalties.spread_limit ≤ 10000000
  pub rack_limit : draft.penalties.rack_limit ≤ 10000000
  pub buffer_weight : draft.penalties.buffer_weight ≤ 10000
  pub spread_weight : draft.penalties.spread_weight ≤ 10000
  pub rack_weight : draft.penalties.rack_weight ≤ 10000
  pub values : list_all (λ v. value_in_range (seen_units v)) draft.values.items ≡ true
  pub near : list_all (λ n. near_in_range (seen_aim n)) draft.near.items ≡ true
  pub few_values : length draft.values.items ≤ 1000
  pub few_near : length draft.near.items ≤ 16

-- reservations that keep their limits, no two of one name
pub record AreReservations (list : List Reservation) : Type 0 where
  pub rules : list_all reservation_rule list ≡ true
  pub names : names_differ (reservation_names list) ≡ true
