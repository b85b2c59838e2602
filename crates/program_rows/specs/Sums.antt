-- What a row sums up, and the rows of an active reservation.
use Rattle.std.specs.Prelude.{ℕ, Bool, true, false, not, ◌==◌, nat_lt, if◌then◌else◌, List, [], ◌∷◌, ◌++◌, ◌+◌, length, map, sum_by, slice_index_or, ℤ, pos, neg_ℤ, ◌-ℤ◌, ◌+ℤ◌}
use Rattle.plan_model.specs.declared.cases.Case.{Case}
use Rattle.plan_model.specs.declared.cases.Goal.{Goal}
use Rattle.plan_model.specs.Units.{want_of, is_for}
use Rattle.plan_model.specs.Losses.{loss_at}
use Rattle.symmetry_classes.specs.declared.groups.Class.{Class}
use Rattle.ip_model.specs.declared.parts.Mark.{Mark}
use Rattle.ip_model.specs.declared.parts.Mark.TheVariants.{Count, Share, BoardExcess, Shortage, RackExcess}
use Rattle.ip_model.specs.declared.parts.Column.{Column}
use Rattle.ip_model.specs.declared.parts.RowKind.{RowKind}
use Rattle.ip_model.specs.declared.parts.RowKind.TheVariants.{ClassMost, ClassLeast, Total, Loss, LargestShare, BoardOver, CenterShort, RackOver}
use Rattle.ip_model.specs.declared.parts.Line.{Line}
use Rattle.program_rows.specs.declared.reach.Reach.{Reach}
use Rattle.program_rows.specs.declared.sums.Among.{Among}
use Rattle.program_rows.specs.declared.sums.Among.TheVariants.{Every, OffBoard, OnBoard, OnBoards, OffBoards, InRack}
use Rattle.program_rows.specs.declared.sums.Sum.{Sum}
use Rattle.program_rows.specs.declared.sums.Sum.TheVariants.{LessClass, OfClass, Units, HelperLess, HelperPlus}
use Rattle.program_rows.specs.declared.sums.Row.{Row}
use Rattle.program_rows.specs.Programs.{line, board_in_center, in_class, units_at, at_share, at_board_excess, at_shortage, at_rack_excess, total_line, loss_line, center_short_lines, short_entries}
use Rattle.program_rows.specs.Reach.{reach_shares, reach_excess}

-- which classes count
abbrev pub counts_class : Among → Class → Bool
counts_class Every class = true
counts_class (OffBoard board) class = not (class.board == board)
counts_class (OnBoard board) class = class.board == board
counts_class (OffBoards flags) class = not (slice_index_or flags.now class.board false)
counts_class (OnBoards flags) class = slice_index_or flags.now class.board false
counts_class (InRack rack) class = is_for rack class.rack

-- 1 at one helper
abbrev pub at_helper : Mark → Mark → ℕ
at_helper (Count class to) mark = 0
at_helper (Share r) mark = at_share r mark
at_helper (BoardExcess r board) mark = at_board_excess r board mark
at_helper (Shortage r entry) mark = at_shortage r entry mark
at_helper (RackExcess r rack) mark = at_rack_excess r rack mark

-- the factor at a column
abbrev pub factor_of : Case → List Class → Sum → Mark → ℤ
factor_of case classes (LessClass class) mark = neg_ℤ (pos (in_class class mark))
factor_of case classes (OfClass class) mark = pos (in_class class mark)
factor_of case classes (Units r among) mark = pos (units_at case classes (counts_class among) r mark)
factor_of case classes (HelperLess helper r among) mark = pos (at_helper helper mark) -ℤ pos (units_at case classes (counts_class among) r mark)
factor_of case classes (HelperPlus helper r among) mark = pos (at_helper helper mark) +ℤ pos (units_at case classes (counts_class among) r mark)

-- whether the reservation is there
abbrev pub sum_fits : Case → Sum → Bool
sum_fits case (LessClass class) = true
sum_fits case (OfClass class) = true
sum_fits case (Units r among) = nat_lt r (length case.wants)
sum_fits case (HelperLess helper r among) = nat_lt r (length case.wants)
sum_fits case (HelperPlus helper r among) = nat_lt r (length case.wants)

abbrev pub line_of : Case → List Class → List Column → Row → Line
line_of case classes columns row = line columns row.kind (factor_of case classes row.sum) row.least

-- the rows of a class of so many members
abbrev pub most_row : ℕ → ℕ → Row
most_row class members = record { kind = ClassMost; sum = LessClass class; least = neg_ℤ (pos members) }

abbrev pub least_row : ℕ → ℕ → Row
least_row class members = record { kind = ClassLeast; sum = OfClass class; least = pos members }

-- ---- the rows of a reservation

-- the row of what r needs from the classes that count
abbrev pub left_line : Case → List Class → List Column → ℕ → Among → Line
left_line case classes columns r left = line columns Loss (λ mark. pos (units_at case classes (counts_class left) r mark)) (pos (want_of case r).need)

abbrev pub reach_losses : Case → List Class → List Column → Reach → List Line
reach_losses case classes columns reach =
    map (λ number. loss_line case classes columns reach.reservation (loss_at (want_of case reach.reservation).protection number)) reach.losses

abbrev pub share_line : Case → List Class → List Column → ℕ → ℕ → Line
share_line case classes columns r board =
    line columns LargestShare (λ mark. pos (at_share r mark) -ℤ pos (units_at case classes (λ class. class.board == board) r mark)) (pos 0)

abbrev pub reach_largest_shares : Case → List Class → List Column → Reach → List Line
reach_largest_shares case classes columns reach =
    map (share_line case classes columns reach.reservation) (if reach_shares case reach then reach.boards else [])

abbrev pub over_line : Case → List Class → List Column → ℕ → ℕ → Line
over_line case classes columns r board =
    line columns BoardOver (λ mark. pos (at_board_excess r board mark) -ℤ pos (units_at case classes (λ class. class.board == board) r mark))
    (neg_ℤ (pos (want_of case r).spread_limit))

abbrev pub reach_board_overs : Case → List Class → List Column → Reach → List Line
reach_board_overs case classes columns reach = map (over_line case classes columns reach.reservation) (reach_excess case reach)

abbrev pub short_line : Case → List Class → List Column → ℕ → ℕ × Goal → Line
short_line case classes columns r e =
    line columns CenterShort (λ mark. pos (at_shortage r e.0 mark) +ℤ pos (units_at case classes (λ class. board_in_center case e.1.center class.board) r mark)) (pos e.1.least)

abbrev pub rack_line : Case → List Class → List Column → ℕ → ℕ → Line
rack_line case classes columns r rack =
    line columns RackOver (λ mark. pos (at_rack_excess r rack mark) -ℤ pos (units_at case classes (λ class. is_for rack class.rack) r mark))
    (neg_ℤ (pos (want_of case r).rack_limit))

abbrev pub reach_rack_overs : Case → List Class → List Column → Reach → List Line
reach_rack_overs case classes columns reach = map (rack_line case classes columns reach.reservation) reach.racks

abbrev pub reach_lines : Case → List Class → List Column → Reach → List Line
reach_lines case classes columns reach =
    total_line case classes columns reach.reservation
    ∷ (reach_losses case classes columns reach
    ++ reach_largest_shares case classes columns reach
    ++ reach_board_overs case classes columns reach
    ++ center_short_lines case classes columns reach.reservation
    ++ reach_rack_overs case classes columns reach)

-- how many rows of a kind it has
abbrev pub reach_rows : Case → RowKind → Reach → ℕ
reach_rows case ClassMost reach = 0
reach_rows case ClassLeast reach = 0
reach_rows case Total reach = 1
reach_rows case Loss reach = length reach.losses
reach_rows case LargestShare reach = length (if reach_shares case reach then reach.boards else [])
reach_rows case BoardOver reach = length (reach_excess case reach)
reach_rows case CenterShort reach = length (short_entries case reach.reservation)
reach_rows case RackOver reach = length reach.racks

-- how many rows of a kind the classes have
abbrev pub class_rows : RowKind → ℕ → ℕ
class_rows ClassMost classes = classes
class_rows ClassLeast classes = classes
class_rows Total classes = 0
class_rows Loss classes = 0
class_rows LargestShare classes = 0
class_rows BoardOver classes = 0
class_rows CenterShort classes = 0
class_rows RackOver classes = 0

-- and how many the program has
abbrev pub rows_of_kind : Case → RowKind → ℕ → List Reach → ℕ
rows_of_kind case kind classes reaches = class_rows kind classes + sum_by (reach_rows case kind) reaches
