-- The case of some reservations of a case, and what an assignment is there.
use Rattle.std.specs.Prelude.{ℕ, ◌≡◌, ◌==◌, List, map, Option, position, option_and_then}
use Rattle.std.specs.Option.{option_map_or}
use Rattle.plan_model.specs.declared.cases.Holder.{Holder}
use Rattle.plan_model.specs.declared.cases.Holder.TheVariants.{Free, Held, Gone}
use Rattle.plan_model.specs.declared.cases.Place.{Place}
use Rattle.plan_model.specs.declared.cases.Case.{Case}
use Rattle.plan_model.specs.declared.cases.Assignment.{Assignment}
use Rattle.plan_model.specs.Units.{want_of}

-- the number that a reservation has among the members
abbrev pub number_in : List ℕ → ℕ → Option ℕ
number_in members r = position (λ q. q == r) members

-- what a removed reservation holds is held by one that is gone
abbrev pub kept_holder : List ℕ → Holder → Holder
kept_holder members Free = Free
kept_holder members (Held r) = option_map_or (λ n. Held n) (number_in members r) Gone
kept_holder members Gone = Gone

abbrev pub kept_place : List ℕ → Place → Place
kept_place members s =
    record { kind = s.kind; rack = s.rack; board = s.board; center = s.center; holder = kept_holder members s.holder; busy = s.busy; up = s.up }

-- the case of the members alone
pub record IsKeptCase (members : List ℕ) (case other : Case) : Type 0 where
  pub places : other.places ≡ map (kept_place members) case.places
  pub kinds : other.kinds ≡ case.kinds
  pub racks : other.racks ≡ case.racks
  pub boards : other.boards ≡ case.boards
  pub centers : other.centers ≡ case.centers
  pub moves : other.moves ≡ case.moves
  pub wants : other.wants ≡ map (want_of case) members

-- a server of a removed reservation gets none
abbrev pub kept_to : List ℕ → Option ℕ → Option ℕ
kept_to members to = option_and_then (number_in members) to

abbrev pub kept_assignment : List ℕ → Assignment → Assignment
kept_assignment members a = record { of = map (kept_to members) a.of }
