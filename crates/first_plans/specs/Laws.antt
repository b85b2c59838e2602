-- First plans of a small region, worked out.
use Rattle.std.specs.Prelude.{◌≡◌, [], ◌∷◌, refl, false, Some, None}
use Rattle.plan_model.specs.declared.cases.Case.{Case}
use Rattle.plan_model.specs.declared.cases.Holder.TheVariants.{Free, Held}
use Rattle.ras_requests.specs.declared.requests.Protection.{Protection}
use Rattle.ras_requests.specs.declared.requests.Protection.TheVariants.{Total, Board, Center}
use Rattle.plan_model.specs.Examples.{eight, two_racks, server, plain_want, plain_moves}
use Rattle.first_plans.specs.FirstPlan.{first_plan_of}

-- eight servers on two switchboards, and a reservation of value 1 with another need
abbrev pub eight_for_one : Case
eight_for_one = record eight { wants = plain_want 1 1 ∷ []; kept = refl }

abbrev pub eight_for_five : Case
eight_for_five = record eight { wants = plain_want 5 1 ∷ []; kept = refl }

-- the fourth server is held, and the third, though held, is down
abbrev pub eight_held : Case
eight_held = record eight {
  places = server 0 0 Free ∷ server 0 0 Free ∷ record (server 1 0 (Held 0)) { up = false } ∷ server 1 0 (Held 0) ∷ server 2 1 Free ∷ server 2 1 Free ∷ server 3 1 Free ∷ server 3 1 Free ∷ [];
  kept = refl;
}

-- a need of 1 takes a server of each switchboard, and one of 2 a second one; one of 5 is not met by eight servers; a held
-- server is kept
abbrev pub FirstPlansOfEight : Type 0
FirstPlansOfEight =
    (first_plan_of eight_for_one ≡ Some (record { of = Some 0 ∷ None ∷ None ∷ None ∷ Some 0 ∷ None ∷ None ∷ None ∷ [] }))
    × (first_plan_of eight ≡ Some two_racks)
    × (first_plan_of eight_for_five ≡ None)
    × (first_plan_of eight_held ≡ Some (record { of = Some 0 ∷ None ∷ None ∷ Some 0 ∷ Some 0 ∷ Some 0 ∷ None ∷ None ∷ [] }))

-- four servers of one value, each on a switchboard of its own and two in each of two datacenters, for a need of 1 with a
-- protection
abbrev pub four_boards : Protection → Case
four_boards protection = record {
  places =
      server 0 0 Free ∷ server 1 1 Free ∷ record (server 2 2 Free) { center = 1 } ∷ record (server 3 3 Free) { center = 1 } ∷ [];
  kinds = 1;
  racks = 4;
  boards = 4;
  centers = 2;
  moves = plain_moves;
  wants = record (plain_want 1 1) { protection = protection } ∷ [];
  kept = refl;
}

-- protection none takes the first server, switchboard one of the next switchboard too, and datacenter one of the next
-- datacenter
abbrev pub FirstPlansByProtection : Type 0
FirstPlansByProtection =
    (first_plan_of (four_boards Total) ≡ Some (record { of = Some 0 ∷ None ∷ None ∷ None ∷ [] }))
    × (first_plan_of (four_boards Board) ≡ Some (record { of = Some 0 ∷ Some 0 ∷ None ∷ None ∷ [] }))
    × (first_plan_of (four_boards Center) ≡ Some (record { of = Some 0 ∷ None ∷ Some 0 ∷ None ∷ [] }))
