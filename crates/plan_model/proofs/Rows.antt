-- Costs of small regions, computed.
use Rattle.std.specs.Prelude.{List, ◌≡◌, true, [], ◌∷◌, refl, Some, None}
use Rattle.plan_model.specs.declared.cases.Holder.TheVariants.{Free}
use Rattle.plan_model.specs.declared.cases.Place.{Place}
use Rattle.plan_model.specs.declared.cases.Want.{Want}
use Rattle.plan_model.specs.declared.cases.Case.{Case}
use Rattle.plan_model.specs.declared.cases.Assignment.{Assignment}
use Rattle.plan_model.specs.CaseRule.{case_rule}
use Rattle.plan_model.specs.Costs.{region_cost}
pub use Rattle.plan_model.specs.Examples.{server, plain_moves, plain_want, six, all_six, four, four_plan}

abbrev pub six_places : List Place
six_places = server 0 0 Free ∷ server 0 0 Free ∷ server 1 1 Free ∷ server 1 1 Free ∷ server 2 2 Free ∷ server 2 2 Free ∷ []

-- the six servers, with another reservation
abbrev pub six_with : (want : Want) → case_rule six_places 1 3 3 1 plain_moves (want ∷ []) ≡ true → Case
six_with want rule =
    record { places = six_places; kinds = 1; racks = 3; boards = 3; centers = 1; moves = plain_moves; wants = want ∷ []; kept = rule }

-- one server on each switchboard
abbrev pub three : Assignment
three = record { of = Some 0 ∷ None ∷ Some 0 ∷ None ∷ Some 0 ∷ None ∷ [] }

cost-plain : region_cost (six_with (plain_want 20 10) refl) three ≡ 3
cost-plain = refl

cost-buffer : region_cost (six_with (record (plain_want 20 10) { buffer_weight = 2 }) refl) three ≡ 23
cost-buffer = refl

cost-spread : region_cost (six_with (record (plain_want 20 10) { spread_limit = 5; spread_weight = 1 }) refl) three ≡ 18
cost-spread = refl

cost-near : region_cost (six_with (record (plain_want 20 10) { near = record { center = Some 0; least = 60; weight = 1 } ∷ [] }) refl) all_six ≡ 6
cost-near = refl

cost-no_center : region_cost (six_with (record (plain_want 20 10) { near = record { center = None; least = 7; weight = 3 } ∷ [] }) refl) three ≡ 24
cost-no_center = refl
