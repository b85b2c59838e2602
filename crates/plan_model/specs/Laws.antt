-- Laws of allowed assignments, and the rules worked out on small regions.
use Rattle.std.specs.Prelude.{◌≡◌, ℕ, true, false, None, ◌<◌, ◌≤◌, ◌-◌, length, slice_set, [], ◌∷◌}
use Rattle.plan_model.specs.declared.cases.Case.{Case}
use Rattle.plan_model.specs.declared.cases.Assignment.{Assignment}
use Rattle.ras_inventory.specs.declared.region.Region.{Region}
use Rattle.ras_inventory.specs.declared.bindings.Bindings.{Bindings}
use Rattle.ras_requests.specs.declared.all.Requests.{Requests}
use Rattle.plan_model.specs.Joined.{IsJoined}
use Rattle.plan_model.specs.Units.{want_of, units, units_where, units_on_board}
use Rattle.plan_model.specs.Losses.{is_lost, losses_named, loss_at}
use Rattle.plan_model.specs.Allowed.{fits, keeps_need, region_allowed}
use Rattle.plan_model.specs.Costs.{region_cost, rack_excess, rack_cost}
use Rattle.plan_model.specs.Examples.{six, all_six, five_of_six, four, four_plan, eight, two_racks, four_racks}

-- an allowed assignment gives each reservation what it needs, also after any one loss that its protection names
abbrev pub AllowedSurvivesLosses : Type 0
AllowedSurvivesLosses =
    (case : Case) (a : Assignment) (r number : ℕ) → region_allowed case a ≡ true → r < length case.wants
    → number < losses_named case (want_of case r).protection
    → ((want_of case r).need ≤ units case a r)
    × ((want_of case r).need ≤ units case a r - units_where (is_lost (loss_at (want_of case r).protection number)) case a r)

-- an assignment without what one server gets
abbrev pub without_server : Assignment → ℕ → Assignment
without_server a s = record { of = slice_set a.of s None }

-- taking a server away from its reservation, also its last one on a switchboard, raises nobody's units, in all or on a
-- switchboard
abbrev pub TakingAwayNeverRaises : Type 0
TakingAwayNeverRaises =
    (case : Case) (a : Assignment) (s r board : ℕ) → fits case a ≡ true → s < length case.places
    → (units case (without_server a s) r ≤ units case a r) × (units_on_board case (without_server a s) r board ≤ units_on_board case a r board)

-- a region without servers keeps no need above 0
abbrev pub NoServersNoNeed : Type 0
NoServersNoNeed = (case : Case) (a : Assignment) (r : ℕ) → case.places ≡ [] → 0 < (want_of case r).need → keeps_need case a r ≡ false

-- there is one case that a region, requests and bindings join to
abbrev pub JoinsToOneCase : Type 0
JoinsToOneCase =
    (region : Region) (requests : Requests) (bindings : Bindings) (case other : Case) → IsJoined region requests bindings case
    → IsJoined region requests bindings other → case ≡ other

-- six servers of value 10 on three switchboards for a need of 40: all of them cost 6 and are allowed, and each loss leaves 40
abbrev pub SixServers : Type 0
SixServers =
    (region_cost six all_six ≡ 6) × (region_allowed six all_six ≡ true)
    × (units six all_six 0 - units_on_board six all_six 0 0 ≡ 40)
    × (units six all_six 0 - units_on_board six all_six 0 1 ≡ 40)
    × (units six all_six 0 - units_on_board six all_six 0 2 ≡ 40)

-- five of them are not allowed
abbrev pub FiveServers : Type 0
FiveServers = region_allowed six five_of_six ≡ false

-- an idle server moves from one reservation to the other, and a busy one stays
abbrev pub OneSwap : Type 0
OneSwap = (region_cost four four_plan ≡ 5) × (region_allowed four four_plan ≡ true)

-- two servers on each of two racks, of which one is wanted, at 3 a unit; one server on each of four racks is not above
abbrev pub RacksEvenedOut : Type 0
RacksEvenedOut =
    (rack_excess eight two_racks 0 ≡ 6) × (rack_excess eight four_racks 0 ≡ 0)
    × (region_cost eight two_racks ≡ 4) × (rack_cost eight four_racks (0 ∷ []) ≡ 4)
