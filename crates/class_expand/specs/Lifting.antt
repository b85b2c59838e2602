-- The point of an assignment, and the assignments of a point.
use Rattle.std.specs.Prelude.{◌≡◌, ℕ, Bool, true, false, ◌&&◌, nat_lt, ◌-◌, ◌<◌, List, length, map, slice_get, slice_index, slice_index_or, Option, Some, None}
use Rattle.std.specs.Option.{option_map_or}
use Rattle.plan_model.specs.declared.cases.Goal.{Goal}
use Rattle.plan_model.specs.declared.cases.Case.{Case}
use Rattle.plan_model.specs.declared.cases.Assignment.{Assignment}
use Rattle.plan_model.specs.declared.cases.Grouping.{Grouping}
use Rattle.plan_model.specs.Units.{want_of, server_with, units_on_board, units_on_rack, units_in_center}
use Rattle.plan_model.specs.Costs.{board_units, greatest}
use Rattle.plan_model.specs.Rack.{is_movable}
use Rattle.ip_model.specs.declared.parts.Mark.{Mark}
use Rattle.ip_model.specs.declared.parts.Column.{Column}
use Rattle.ip_model.specs.declared.parts.Mark.TheVariants.{Count, Share, BoardExcess, Shortage, RackExcess}
use Rattle.ip_model.specs.declared.program.Program.{Program}
use Rattle.symmetry_classes.specs.declared.groups.Class.{Class}
use Rattle.program_rows.specs.Settings.{Setting, phase_classes}
use Rattle.program_rows.specs.Programs.{program_columns, program_lines, program_base}
use Rattle.program_rows.specs.Members.{members_with}

-- what a near entry lacks
abbrev pub lack : Case → Assignment → ℕ → Option Goal → ℕ
lack case a r None = 0
lack case a r (Some goal) = goal.least - option_map_or (units_in_center case a r) goal.center 0

-- the members of the class that get it, and for a helper the least number that its rows allow
abbrev pub number_among : Case → List Class → Assignment → Mark → ℕ
number_among case classes a (Count class to) = members_with a to (slice_get classes class)
number_among case classes a (Share r) = greatest (board_units case a r)
number_among case classes a (BoardExcess r board) = units_on_board case a r board - (want_of case r).spread_limit
number_among case classes a (Shortage r entry) = lack case a r (slice_get (want_of case r).near entry)
number_among case classes a (RackExcess r rack) = units_on_rack case a r rack - (want_of case r).rack_limit

abbrev pub number_of : Case → Setting → Grouping → Assignment → Mark → ℕ
number_of case setting how a mark = number_among case (phase_classes case setting how) a mark

-- whether what a mark names is there
abbrev pub mark_in_range : Case → Mark → Bool
mark_in_range case (Count class to) = true
mark_in_range case (Share r) = nat_lt r (length case.wants)
mark_in_range case (BoardExcess r board) = nat_lt r (length case.wants) && nat_lt board case.boards
mark_in_range case (Shortage r entry) = nat_lt r (length case.wants) && nat_lt entry (length (want_of case r).near)
mark_in_range case (RackExcess r rack) = nat_lt r (length case.wants) && nat_lt rack case.racks

-- the point of an assignment
abbrev pub counts_of : Case → Setting → Grouping → Assignment → List ℕ
counts_of case setting how a = map (λ c. number_of case setting how a c.mark) (program_columns case setting (phase_classes case setting how))

-- the program of a phase and a grouping
pub record IsProgramOf (case : Case) (setting : Setting) (how : Grouping) (program : Program) : Type 0 where
  pub base : program.base ≡ program_base case setting
  pub columns : program.columns ≡ program_columns case setting (phase_classes case setting how)
  pub rows : program.rows ≡ program_lines case setting (phase_classes case setting how)

-- the mark of a column
abbrev pub mark_at : List Column → ℕ → Option Mark
mark_at columns j = slice_get (map (λ c. c.mark) columns) j

-- each class has, for each of its columns, the point's number of members there, and every other server stays
pub record Expands (case : Case) (setting : Setting) (how : Grouping) (point : List ℕ) (a : Assignment) : Type 0 where
  pub size : length a.of ≡ length case.places
  pub stays : (s : ℕ) → s < length case.places → is_movable case setting.active (server_with case setting.start s) ≡ false
      → slice_index_or a.of s None ≡ slice_index_or setting.start.of s None
  pub counts : (j class : ℕ) (to : Option ℕ) → mark_at (program_columns case setting (phase_classes case setting how)) j ≡ Some (Count class to)
      → slice_index point j ≡ members_with a to (slice_get (phase_classes case setting how) class)
