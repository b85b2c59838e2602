-- What holds of each column, and of each row, of the program of a phase, kind by kind.
use Rattle.std.proofs.Common.{◌≡◌, ℕ, ◌<◌, Bool, true, false, cond, List, [], ◌∷◌, ◌++◌, length, get_or, refl, Some, All}
use Rattle.std.specs.Prelude.{flat_map, slice_get, Option, nat_lt, ◌==◌, ◌&&◌, pos, neg_ℤ, ◌+ℤ◌, ◌-ℤ◌}
use Rattle.std.specs.List.{enumerate_from, range_with_len}
use Rattle.std.proofs.lemmas.List.Elements.{All-nil, All-cons, All-head, All-tail, All-append}
use Rattle.plan_model.specs.declared.cases.Case.{Case}
use Rattle.plan_model.specs.declared.cases.Goal.{Goal}
use Rattle.plan_model.specs.declared.cases.Grouping.{Grouping}
use Rattle.plan_model.specs.Units.{want_of, is_for}
use Rattle.plan_model.specs.declared.losses.Lost.{Lost}
use Rattle.plan_model.specs.Losses.{is_lost, losses_named, loss_at}
use Rattle.symmetry_classes.specs.declared.groups.Class.{Class}
use Rattle.ip_model.specs.declared.parts.Mark.TheVariants.{Share, BoardExcess, Shortage, RackExcess}
use Rattle.ip_model.specs.declared.parts.Column.{Column}
use Rattle.ip_model.specs.declared.parts.Line.{Line}
use Rattle.ip_model.specs.declared.parts.RowKind.TheVariants.{ClassMost, ClassLeast, LargestShare, BoardOver, CenterShort, RackOver}
use Rattle.program_rows.specs.Settings.{Setting, phase_classes}
use Rattle.program_rows.specs.Phases.{is_active}
use Rattle.program_rows.specs.Programs.{touches, touched_boards, touched_losses, touched_racks, excess_racks, at_rack_excess, movable_value, has_share, excess_boards, short_entries, destinations, count_column, count_columns, helper_column, share_columns, board_excess_columns, shortage_columns, rack_excess_columns, helper_columns, line, in_class, units_at, at_share, at_board_excess, at_shortage, board_in_center, class_lines, loss_line, loss_lines, total_line, largest_share_lines, board_over_lines, center_short_lines, rack_over_lines, reservation_lines, program_lines}
use Rattle.program_rows.proofs.PhaseSums.{All-active, any-at}
use Rattle.program_rows.proofs.PhaseRows.{columns_of}
use Rattle.program_rows.proofs.Lists.{All-map_to, All-map_from, All-append_from, All-flat_map_to, All-flat_map_from, All-filter_to, All-filter_from, All-if_to, All-if_from, All-range_to, All-range_from, All-enumerate_to, All-enumerate_from}

and-left : (a b : Bool) → (a && b) ≡ true → a ≡ true
and-left true b h = refl
and-left false b h = h

and-right : (a b : Bool) → (a && b) ≡ true → b ≡ true
and-right true b h = h
and-right false b h = cc

both : (a b : Bool) → a ≡ true → b ≡ true → (a && b) ≡ true
both true b e h = h
both false b e h = e

-- whether a movable server on the switchboard has a value above 0 for r
abbrev pub touches_board : Case → Setting → ℕ → ℕ → Bool
touches_board case setting r board = touches case setting r (λ s. s.board == board)

-- the losses that the protection of r names
abbrev pub losses_of : Case → ℕ → ℕ
losses_of case r = losses_named case (want_of case r).protection

abbrev pub loss_of : Case → ℕ → ℕ → Lost
loss_of case r number = loss_at (want_of case r).protection number

-- one that would be lost
abbrev pub touches_loss : Case → Setting → ℕ → ℕ → Bool
touches_loss case setting r number = touches case setting r (is_lost (loss_of case r number))

-- and one in the rack
abbrev pub touches_rack : Case → Setting → ℕ → ℕ → Bool
touches_rack case setting r rack = touches case setting r (λ s. s.rack == rack)

-- the helpers of the program
abbrev pub share_column : Case → Setting → ℕ → Column
share_column case setting r = helper_column (Share r) (want_of case r).buffer_weight (movable_value case setting r)

abbrev pub board_column : Case → Setting → ℕ → ℕ → Column
board_column case setting r board = helper_column (BoardExcess r board) (want_of case r).spread_weight (movable_value case setting r)

abbrev pub rack_column : Case → Setting → ℕ → ℕ → Column
rack_column case setting r rack = helper_column (RackExcess r rack) (want_of case r).rack_weight (movable_value case setting r)

abbrev pub short_column : ℕ → ℕ → Goal → Column
short_column r entry goal = helper_column (Shortage r entry) goal.weight goal.least

-- a near entry with weight and least above 0
pub record IsShortEntry (case : Case) (r entry : ℕ) (goal : Goal) : Type 0 where
  pub read : slice_get (want_of case r).near entry ≡ Some goal
  pub weight : nat_lt 0 goal.weight ≡ true
  pub least : nat_lt 0 goal.least ≡ true

pub record HelpersHave (case : Case) (setting : Setting) (P : Column → Type 0) (r : ℕ) : Type 0 where
  pub share : has_share case setting r ≡ true → P (share_column case setting r)
  pub board : (board : ℕ) → board < case.boards → nat_lt 0 (want_of case r).spread_weight ≡ true → touches_board case setting r board ≡ true → P (board_column case setting r board)
  pub short : (entry : ℕ) (goal : Goal) → IsShortEntry case r entry goal → P (short_column r entry goal)
  pub rack : (rack : ℕ) → rack < case.racks → (setting.racks && nat_lt 0 (want_of case r).rack_weight) ≡ true → touches_rack case setting r rack ≡ true → P (rack_column case setting r rack)

pub record ColumnsHave (case : Case) (setting : Setting) (how : Grouping) (P : Column → Type 0) : Type 0 where
  pub counts : (c : ℕ) (class : Class) (to : Option ℕ) → slice_get (phase_classes case setting how) c ≡ Some class → P (count_column case (c, class) to)
  pub helpers : (r : ℕ) → is_active setting r ≡ true → HelpersHave case setting P r

module _ (case : Case) (setting : Setting) (P : Column → Type 0) where
  pub helpers-all : (r : ℕ) → HelpersHave case setting P r → All P (helper_columns case setting r)
  helpers-all r have =
      All-append P (share_columns case setting r ++ board_excess_columns case setting r ++ shortage_columns case r) (rack_excess_columns case setting r)
      (All-append P (share_columns case setting r ++ board_excess_columns case setting r) (shortage_columns case r)
      (All-append P (share_columns case setting r) (board_excess_columns case setting r)
      (All-if_to P (has_share case setting r) (share_column case setting r ∷ []) (λ e. All-cons P (share_column case setting r) [] (have.share e) (All-nil P)))
      (All-map_to P (board_column case setting r) (excess_boards case setting r)
      (All-if_to (λ b. P (board_column case setting r b)) (nat_lt 0 (want_of case r).spread_weight) (touched_boards case setting r)
      (λ e. All-filter_to (λ b. P (board_column case setting r b)) (touches_board case setting r) (range_with_len 0 case.boards)
      (All-range_to (λ b. touches_board case setting r b ≡ true → P (board_column case setting r b)) case.boards (λ b within t. have.board b within e t))))))
      (All-map_to P (λ e. short_column r e.0 e.1) (short_entries case r)
      (All-filter_to (λ e. P (short_column r e.0 e.1)) (λ e. nat_lt 0 e.1.weight && nat_lt 0 e.1.least) (enumerate_from 0 (want_of case r).near)
      (All-enumerate_to (λ e. (nat_lt 0 e.1.weight && nat_lt 0 e.1.least) ≡ true → P (short_column r e.0 e.1)) (want_of case r).near
      (λ i goal read t. have.short i goal (record { read = read; weight = and-left _ _ t; least = and-right _ _ t }))))))
      (All-map_to P (rack_column case setting r) (excess_racks case setting r)
      (All-if_to (λ k. P (rack_column case setting r k)) (setting.racks && nat_lt 0 (want_of case r).rack_weight) (touched_racks case setting r)
      (λ e. All-filter_to (λ k. P (rack_column case setting r k)) (touches_rack case setting r) (range_with_len 0 case.racks)
      (All-range_to (λ k. touches_rack case setting r k ≡ true → P (rack_column case setting r k)) case.racks (λ k within t. have.rack k within e t)))))

  pub columns-all : (how : Grouping) → ColumnsHave case setting how P → All P (columns_of case setting how)
  columns-all how have =
      All-append P (flat_map (count_columns case setting) (enumerate_from 0 (phase_classes case setting how))) (flat_map (helper_columns case setting) setting.active)
      (All-flat_map_to P (count_columns case setting) (enumerate_from 0 (phase_classes case setting how))
      (All-enumerate_to (λ e. All P (count_columns case setting e)) (phase_classes case setting how)
      (λ c class read. All-map_to P (count_column case (c, class)) (destinations case setting class)
      (λ k d within. have.counts c class (get_or (destinations case setting class) k d) read))))
      (All-flat_map_to P (helper_columns case setting) setting.active
      (All-active setting (λ r. All P (helper_columns case setting r)) (λ r active. helpers-all r (have.helpers r active))))

-- the rows of one kind
abbrev pub most_line : Case → Setting → Grouping → ℕ → Class → Line
most_line case setting how c class = line (columns_of case setting how) ClassMost (λ mark. neg_ℤ (pos (in_class c mark))) (neg_ℤ (pos (length class.members)))

abbrev pub least_line : Case → Setting → Grouping → ℕ → Class → Line
least_line case setting how c class = line (columns_of case setting how) ClassLeast (λ mark. pos (in_class c mark)) (pos (length class.members))

abbrev pub share_line : Case → Setting → Grouping → ℕ → ℕ → Line
share_line case setting how r board =
    line (columns_of case setting how) LargestShare (λ mark. pos (at_share r mark) -ℤ pos (units_at case (phase_classes case setting how) (λ class. class.board == board) r mark)) (pos 0)

abbrev pub over_line : Case → Setting → Grouping → ℕ → ℕ → Line
over_line case setting how r board =
    line (columns_of case setting how) BoardOver (λ mark. pos (at_board_excess r board mark) -ℤ pos (units_at case (phase_classes case setting how) (λ class. class.board == board) r mark))
    (neg_ℤ (pos (want_of case r).spread_limit))

abbrev pub short_line : Case → Setting → Grouping → ℕ → ℕ → Goal → Line
short_line case setting how r entry goal =
    line (columns_of case setting how) CenterShort
    (λ mark. pos (at_shortage r entry mark) +ℤ pos (units_at case (phase_classes case setting how) (λ class. board_in_center case goal.center class.board) r mark)) (pos goal.least)

abbrev pub rack_line : Case → Setting → Grouping → ℕ → ℕ → Line
rack_line case setting how r rack =
    line (columns_of case setting how) RackOver (λ mark. pos (at_rack_excess r rack mark) -ℤ pos (units_at case (phase_classes case setting how) (λ class. is_for rack class.rack) r mark))
    (neg_ℤ (pos (want_of case r).rack_limit))

pub record RowsHave (case : Case) (setting : Setting) (how : Grouping) (P : Line → Type 0) (r : ℕ) : Type 0 where
  pub total : P (total_line case (phase_classes case setting how) (columns_of case setting how) r)
  pub loss : (number : ℕ) → number < losses_of case r → touches_loss case setting r number ≡ true
      → P (loss_line case (phase_classes case setting how) (columns_of case setting how) r (loss_of case r number))
  pub share : has_share case setting r ≡ true → (board : ℕ) → board < case.boards → touches_board case setting r board ≡ true → P (share_line case setting how r board)
  pub over : nat_lt 0 (want_of case r).spread_weight ≡ true → (board : ℕ) → board < case.boards → touches_board case setting r board ≡ true → P (over_line case setting how r board)
  pub short : (entry : ℕ) (goal : Goal) → IsShortEntry case r entry goal → P (short_line case setting how r entry goal)
  pub racks : (setting.racks && nat_lt 0 (want_of case r).rack_weight) ≡ true → (rack : ℕ) → rack < case.racks → touches_rack case setting r rack ≡ true → P (rack_line case setting how r rack)

pub record LinesHave (case : Case) (setting : Setting) (how : Grouping) (P : Line → Type 0) : Type 0 where
  pub most : (c : ℕ) (class : Class) → slice_get (phase_classes case setting how) c ≡ Some class → P (most_line case setting how c class)
  pub least : (c : ℕ) (class : Class) → slice_get (phase_classes case setting how) c ≡ Some class → P (least_line case setting how c class)
  pub rows : (r : ℕ) → is_active setting r ≡ true → RowsHave case setting how P r

module _ (case : Case) (setting : Setting) (how : Grouping) (P : Line → Type 0) where
  abbrev classes : List Class
  classes = phase_classes case setting how

  abbrev columns : List Column
  columns = columns_of case setting how

  rack-touched-to : (f : ℕ → Line) (r : ℕ) → ((rack : ℕ) → rack < case.racks → touches_rack case setting r rack ≡ true → P (f rack)) → All (λ k. P (f k)) (touched_racks case setting r)
  rack-touched-to f r h = All-filter_to (λ k. P (f k)) (touches_rack case setting r) (range_with_len 0 case.racks) (All-range_to (λ k. touches_rack case setting r k ≡ true → P (f k)) case.racks h)

  rack-touched-from : (f : ℕ → Line) (r : ℕ) → All (λ k. P (f k)) (touched_racks case setting r) → (rack : ℕ) → rack < case.racks → touches_rack case setting r rack ≡ true → P (f rack)
  rack-touched-from f r a = All-range_from (λ k. touches_rack case setting r k ≡ true → P (f k)) case.racks (All-filter_from (λ k. P (f k)) (touches_rack case setting r) (range_with_len 0 case.racks) a)

  loss-touched-to : (f : ℕ → Line) (r : ℕ) → ((number : ℕ) → number < losses_of case r → touches_loss case setting r number ≡ true → P (f number)) → All (λ n. P (f n)) (touched_losses case setting r)
  loss-touched-to f r h = All-filter_to (λ n. P (f n)) (touches_loss case setting r) (range_with_len 0 (losses_of case r)) (All-range_to (λ n. touches_loss case setting r n ≡ true → P (f n)) (losses_of case r) h)

  loss-touched-from : (f : ℕ → Line) (r : ℕ) → All (λ n. P (f n)) (touched_losses case setting r) → (number : ℕ) → number < losses_of case r → touches_loss case setting r number ≡ true → P (f number)
  loss-touched-from f r a = All-range_from (λ n. touches_loss case setting r n ≡ true → P (f n)) (losses_of case r) (All-filter_from (λ n. P (f n)) (touches_loss case setting r) (range_with_len 0 (losses_of case r)) a)

  abbrev loss_row : ℕ → ℕ → Line
  loss_row r number = loss_line case classes columns r (loss_of case r number)

  touched-to : (f : ℕ → Line) (r : ℕ) → ((board : ℕ) → board < case.boards → touches_board case setting r board ≡ true → P (f board)) → All (λ b. P (f b)) (touched_boards case setting r)
  touched-to f r h = All-filter_to (λ b. P (f b)) (touches_board case setting r) (range_with_len 0 case.boards) (All-range_to (λ b. touches_board case setting r b ≡ true → P (f b)) case.boards h)

  touched-from : (f : ℕ → Line) (r : ℕ) → All (λ b. P (f b)) (touched_boards case setting r) → (board : ℕ) → board < case.boards → touches_board case setting r board ≡ true → P (f board)
  touched-from f r a = All-range_from (λ b. touches_board case setting r b ≡ true → P (f b)) case.boards (All-filter_from (λ b. P (f b)) (touches_board case setting r) (range_with_len 0 case.boards) a)

  abbrev short_entry : ℕ × Goal → Bool
  short_entry e = nat_lt 0 e.1.weight && nat_lt 0 e.1.least

  rows-to : (r : ℕ) → RowsHave case setting how P r → All P (reservation_lines case setting classes columns r)
  rows-to r have =
      let losses = loss_lines case setting classes columns r in
      let shares = largest_share_lines case setting classes columns r in
      let overs = board_over_lines case setting classes columns r in
      let shorts = center_short_lines case classes columns r in
      All-cons P (total_line case classes columns r) (losses ++ shares ++ overs ++ shorts ++ rack_over_lines case setting classes columns r) have.total
      (All-append P (losses ++ shares ++ overs ++ shorts) (rack_over_lines case setting classes columns r)
      (All-append P (losses ++ shares ++ overs) shorts
      (All-append P (losses ++ shares) overs
      (All-append P losses shares
      (All-map_to P (loss_row r) (touched_losses case setting r) (loss-touched-to (loss_row r) r have.loss))
      (All-map_to P (share_line case setting how r) (cond (has_share case setting r) (touched_boards case setting r) [])
      (All-if_to (λ b. P (share_line case setting how r b)) (has_share case setting r) (touched_boards case setting r) (λ e. touched-to (share_line case setting how r) r (have.share e)))))
      (All-map_to P (over_line case setting how r) (excess_boards case setting r)
      (All-if_to (λ b. P (over_line case setting how r b)) (nat_lt 0 (want_of case r).spread_weight) (touched_boards case setting r) (λ e. touched-to (over_line case setting how r) r (have.over e)))))
      (All-map_to P (λ e. short_line case setting how r e.0 e.1) (short_entries case r)
      (All-filter_to (λ e. P (short_line case setting how r e.0 e.1)) short_entry (enumerate_from 0 (want_of case r).near)
      (All-enumerate_to (λ e. short_entry e ≡ true → P (short_line case setting how r e.0 e.1)) (want_of case r).near
      (λ i goal read t. have.short i goal (record { read = read; weight = and-left _ _ t; least = and-right _ _ t }))))))
      (All-map_to P (rack_line case setting how r) (excess_racks case setting r)
      (All-if_to (λ k. P (rack_line case setting how r k)) (setting.racks && nat_lt 0 (want_of case r).rack_weight) (touched_racks case setting r)
      (λ e. rack-touched-to (rack_line case setting how r) r (have.racks e)))))

  rows-from : (r : ℕ) → All P (reservation_lines case setting classes columns r) → RowsHave case setting how P r
  rows-from r a =
      let losses = loss_lines case setting classes columns r in
      let shares = largest_share_lines case setting classes columns r in
      let overs = board_over_lines case setting classes columns r in
      let shorts = center_short_lines case classes columns r in
      let racks = rack_over_lines case setting classes columns r in
      let rest = All-tail P (total_line case classes columns r) (losses ++ shares ++ overs ++ shorts ++ racks) a in
      let first4 = All-append_from P (losses ++ shares ++ overs ++ shorts) racks rest in
      let first3 = All-append_from P (losses ++ shares ++ overs) shorts first4.0 in
      let first2 = All-append_from P (losses ++ shares) overs first3.0 in
      let first1 = All-append_from P losses shares first2.0 in
      record {
        total = All-head P (total_line case classes columns r) (losses ++ shares ++ overs ++ shorts ++ racks) a;
        loss = loss-touched-from (loss_row r) r (All-map_from P (loss_row r) (touched_losses case setting r) first1.0);
        share = λ e. touched-from (share_line case setting how r) r
            (All-if_from (λ b. P (share_line case setting how r b)) (has_share case setting r) (touched_boards case setting r)
            (All-map_from P (share_line case setting how r) (cond (has_share case setting r) (touched_boards case setting r) []) first1.1) e);
        over = λ e. touched-from (over_line case setting how r) r
            (All-if_from (λ b. P (over_line case setting how r b)) (nat_lt 0 (want_of case r).spread_weight) (touched_boards case setting r)
            (All-map_from P (over_line case setting how r) (excess_boards case setting r) first2.1) e);
        short = λ i goal short. All-enumerate_from (λ e. short_entry e ≡ true → P (short_line case setting how r e.0 e.1)) (want_of case r).near
            (All-filter_from (λ e. P (short_line case setting how r e.0 e.1)) short_entry (enumerate_from 0 (want_of case r).near)
            (All-map_from P (λ e. short_line case setting how r e.0 e.1) (short_entries case r) first3.1)) i goal short.read (both _ _ short.weight short.least);
        racks = λ e. rack-touched-from (rack_line case setting how r) r
            (All-if_from (λ k. P (rack_line case setting how r k)) (setting.racks && nat_lt 0 (want_of case r).rack_weight) (touched_racks case setting r)
            (All-map_from P (rack_line case setting how r) (excess_racks case setting r) first4.1) e);
      }

  class-to : (e : ℕ × Class) → P (most_line case setting how e.0 e.1) → P (least_line case setting how e.0 e.1) → All P (class_lines columns e)
  class-to e most least =
      All-cons P (most_line case setting how e.0 e.1) (least_line case setting how e.0 e.1 ∷ []) most (All-cons P (least_line case setting how e.0 e.1) [] least (All-nil P))

  pub lines-to : LinesHave case setting how P → All P (program_lines case setting classes)
  lines-to have =
      All-append P (flat_map (class_lines columns) (enumerate_from 0 classes)) (flat_map (reservation_lines case setting classes columns) setting.active)
      (All-flat_map_to P (class_lines columns) (enumerate_from 0 classes)
      (All-enumerate_to (λ e. All P (class_lines columns e)) classes (λ c class read. class-to (c, class) (have.most c class read) (have.least c class read))))
      (All-flat_map_to P (reservation_lines case setting classes columns) setting.active
      (All-active setting (λ r. All P (reservation_lines case setting classes columns r)) (λ r active. rows-to r (have.rows r active))))

  pub lines-from : All P (program_lines case setting classes) → LinesHave case setting how P
  lines-from a =
      let parts = All-append_from P (flat_map (class_lines columns) (enumerate_from 0 classes)) (flat_map (reservation_lines case setting classes columns) setting.active) a in
      let by_class = All-enumerate_from (λ e. All P (class_lines columns e)) classes (All-flat_map_from P (class_lines columns) (enumerate_from 0 classes) parts.0) in
      let by_row = λ (r : ℕ) (active : is_active setting r ≡ true). any-at (λ r. All P (reservation_lines case setting classes columns r)) r setting.active (All-flat_map_from P (reservation_lines case setting classes columns) setting.active parts.1) active in
      record {
        most = λ c class read. All-head P (most_line case setting how c class) (least_line case setting how c class ∷ []) (by_class c class read);
        least = λ c class read. All-head P (least_line case setting how c class) [] (All-tail P (most_line case setting how c class) (least_line case setting how c class ∷ []) (by_class c class read));
        rows = λ r active. rows-from r (by_row r active);
      }
