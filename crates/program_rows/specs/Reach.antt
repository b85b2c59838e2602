-- What an active reservation finds among the movable servers, and the columns and rows that follow from it.
use Rattle.std.specs.Prelude.{ℕ, Bool, ◌==◌, ◌&&◌, ◌≤◌, ◌<◌, nat_lt, if◌then◌else◌, List, [], ◌∷◌, ◌++◌, length, map, filter, sum_by, Some, None}
use Rattle.std.specs.List.{list_any, range_with_len}
use Rattle.plan_model.specs.declared.cases.Place.{Place}
use Rattle.plan_model.specs.declared.cases.Case.{Case}
use Rattle.plan_model.specs.Units.{place_of, want_of, value_for}
use Rattle.ras_requests.specs.declared.requests.Protection.{Protection}
use Rattle.plan_model.specs.declared.losses.Lost.{Lost}
use Rattle.plan_model.specs.Losses.{is_lost, losses_named, loss_at}
use Rattle.symmetry_classes.specs.declared.groups.Class.{Class}
use Rattle.ip_model.specs.declared.parts.Mark.TheVariants.{Share, BoardExcess, RackExcess}
use Rattle.ip_model.specs.declared.parts.Column.{Column}
use Rattle.program_rows.specs.declared.reach.Level.{Level}
use Rattle.program_rows.specs.declared.reach.Level.TheVariants.{Board, Rack, Center}
use Rattle.program_rows.specs.declared.reach.Reach.{Reach}
use Rattle.program_rows.specs.Settings.{Setting, movable_servers}
use Rattle.program_rows.specs.Programs.{count_column, helper_column, shortage_columns}

-- the number of a server's switchboard, rack or datacenter, and how many of these there are
abbrev pub number_at : Level → Place → ℕ
number_at Board place = place.board
number_at Rack place = place.rack
number_at Center place = place.center

abbrev pub numbers_at : Level → Case → ℕ
numbers_at Board case = case.boards
numbers_at Rack case = case.racks
numbers_at Center case = case.centers

-- whether one of the servers stands there and has a value above 0 for r
abbrev pub reaches_at : Case → List ℕ → ℕ → Level → ℕ → Bool
reaches_at case servers r level number =
    list_any (λ s. (number_at level (place_of case s) == number) && nat_lt 0 (value_for case r (place_of case s).kind)) servers

-- whether one of the servers would be lost and has a value above 0 for r
abbrev pub reaches_loss : Case → List ℕ → ℕ → Lost → Bool
reaches_loss case servers r lost = list_any (λ s. is_lost lost (place_of case s) && nat_lt 0 (value_for case r (place_of case s).kind)) servers

-- the losses that a protection names and that touch one of the servers, by number
abbrev pub losses_among : Case → List ℕ → ℕ → Protection → List ℕ
losses_among case servers r protection =
    filter (λ number. reaches_loss case servers r (loss_at protection number)) (range_with_len 0 (losses_named case protection))

-- what r finds among the servers
abbrev pub reach_among : Case → List ℕ → Bool → ℕ → Reach
reach_among case servers racks r = record {
  reservation = r;
  value = sum_by (λ s. value_for case r (place_of case s).kind) servers;
  boards = filter (reaches_at case servers r Board) (range_with_len 0 case.boards);
  losses = losses_among case servers r (want_of case r).protection;
  racks = if racks && nat_lt 0 (want_of case r).rack_weight then filter (reaches_at case servers r Rack) (range_with_len 0 case.racks) else [];
}

abbrev pub reach_of : Case → Setting → ℕ → Reach
reach_of case setting r = reach_among case (movable_servers case setting) setting.racks r

-- the limits of its numbers
pub record ReachFits (case : Case) (reach : Reach) : Type 0 where
  pub there : reach.reservation < length case.wants
  pub value : reach.value ≤ 20000000
  pub boards : length reach.boards ≤ 64
  pub losses : length reach.losses ≤ 64
  pub racks : length reach.racks ≤ 20000

-- ---- columns

-- the columns of a class, where these reservations are active
abbrev pub columns_of_class : Case → List ℕ → ℕ × Class → List Column
columns_of_class case active c =
    map (count_column case c) (map (λ r. Some r) (filter (λ r. nat_lt 0 (value_for case r c.1.kind)) active) ++ None ∷ [])

-- whether there is a share column
abbrev pub reach_shares : Case → Reach → Bool
reach_shares case reach = nat_lt 0 (want_of case reach.reservation).buffer_weight && nat_lt 0 reach.value

abbrev pub reach_share : Case → Reach → List Column
reach_share case reach =
    if reach_shares case reach then helper_column (Share reach.reservation) (want_of case reach.reservation).buffer_weight reach.value ∷ [] else []

-- the switchboards of its excess columns
abbrev pub reach_excess : Case → Reach → List ℕ
reach_excess case reach = if nat_lt 0 (want_of case reach.reservation).spread_weight then reach.boards else []

abbrev pub reach_board_excess : Case → Reach → List Column
reach_board_excess case reach =
    map (λ board. helper_column (BoardExcess reach.reservation board) (want_of case reach.reservation).spread_weight reach.value) (reach_excess case reach)

abbrev pub reach_rack_excess : Case → Reach → List Column
reach_rack_excess case reach =
    map (λ rack. helper_column (RackExcess reach.reservation rack) (want_of case reach.reservation).rack_weight reach.value) reach.racks

abbrev pub reach_columns : Case → Reach → List Column
reach_columns case reach =
    reach_share case reach ++ reach_board_excess case reach ++ shortage_columns case reach.reservation ++ reach_rack_excess case reach
