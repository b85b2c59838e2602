-- The counts of an allowed assignment are a whole point of the program of a phase, and its value is the assignment's cost.
use Rattle.std.proofs.Common.{◌≡◌, ℕ, ◌+◌, ◌*◌, ◌-◌, ◌<◌, ◌≤◌, Bool, true, false, cond, List, [], ◌∷◌, ◌++◌, length, arith, ap, sym, ◌∙◌, refl, Some, All, subst}
use Rattle.std.specs.Prelude.{sum_by, count_by, map, flat_map, slice_get, slice_index, nat_lt, nat_le, ◌&&◌, pos, neg_ℤ, ◌+ℤ◌, ◌-ℤ◌, ◌*ℤ◌, ◌≤ℤ◌, ℤ}
use Rattle.std.specs.List.{enumerate_from, list_all, range_with_len}
use Rattle.std.specs.Option.{option_map_or}
use Rattle.std.proofs.lemmas.Int.{ints}
use borrow.Author.Differences.{up, down}
use Rattle.std.proofs.lemmas.List.Sums.{sum_by-cons, sum_by-append}
use Rattle.std.proofs.lemmas.Bool.Decides.{nat_tests}
use Rattle.plan_model.specs.declared.cases.Case.{Case}
use Rattle.plan_model.specs.declared.cases.Goal.{Goal}
use Rattle.plan_model.specs.declared.cases.Assignment.{Assignment}
use Rattle.plan_model.specs.declared.cases.Grouping.{Grouping}
use Rattle.plan_model.specs.Units.{want_of, all_reservations, units, units_where, units_on_board, units_on_rack, units_in_center}
use Rattle.plan_model.specs.Allowed.{keeps_need, survives}
use Rattle.plan_model.specs.Losses.{is_lost}
use Rattle.plan_model.specs.Costs.{region_cost, rack_excess, greatest, board_units}
use Rattle.plan_model.proofs.AllowedLaws.{list_all-range_at, keeps-total, keeps-survives}
use Rattle.symmetry_classes.specs.declared.groups.Class.{Class}
use Rattle.ip_model.specs.declared.parts.Mark.{Mark}
use Rattle.ip_model.specs.declared.parts.Mark.TheVariants.{Shortage}
use Rattle.ip_model.specs.declared.parts.Column.{Column}
use Rattle.ip_model.specs.declared.parts.Line.{Line}
use Rattle.ip_model.specs.declared.parts.RowKind.TheVariants.{ClassMost, ClassLeast}
use Rattle.ip_model.specs.declared.program.Program.{Program}
use Rattle.ip_model.specs.Sums.{terms_at, total_below}
use Rattle.ip_model.specs.Points.{MeetsLine, value_of}
use Rattle.program_rows.specs.Settings.{Setting, phase_classes}
use Rattle.program_rows.specs.Members.{gets}
use Rattle.program_rows.specs.Phases.{IsPhase, is_active, phase_cost}
use Rattle.program_rows.proofs.LineSums.{column_sum-pos}
use Rattle.program_rows.proofs.PhaseSums.{IsLawful}
use Rattle.program_rows.proofs.PhaseRows.{CountsIn, columns_of, point_in, total-sum}
use Rattle.program_rows.proofs.PhaseCosts.{class-columns, classes-counted, base-counts-terms}
use Rattle.program_rows.specs.Programs.{destinations, has_share, in_class, count_columns, helper_columns, program_base, program_lines, total_line, loss_line}
use Rattle.program_rows.proofs.LineSums.{term_sum, column_sum, term_sum-line}
use Rattle.class_expand.specs.Lifting.{number_of, lack, counts_of, IsProgramOf}
use Rattle.class_expand.specs.Laws.{AllowedIsWholePoint}
use Rattle.program_rows.proofs.Lists.{All-range_from, all-at, length_map}
use Rattle.program_rows.proofs.Parts.{loss_of, touches_board, touches_rack, rack_line, IsShortEntry, RowsHave, lines-to, most_line, least_line, share_line, over_line, short_line}
use Rattle.class_expand.proofs.HelperRows.{loss-sum, rack-sum, share-sum, over-sum, short-sum}
use Rattle.class_expand.proofs.HelperCosts.{helpers-paid}
use Rattle.class_expand.proofs.Tops.{within-tops, greatest-bounds}
use Rattle.class_expand.proofs.Points.{terms_at-is, total-columns, map-most, replicate-none}

and-left : (a b : Bool) → (a && b) ≡ true → a ≡ true
and-left true b h = refl
and-left false b h = h

and-right : (a b : Bool) → (a && b) ≡ true → b ≡ true
and-right true b h = h
and-right false b h = cc

-- a row is met where its sum is at least what it asks
pub meets-by : (l : Line) (point : List ℕ) (sum : ℤ) → term_sum l.terms point ≡ sum → l.least ≤ℤ sum → MeetsLine 1 (slice_index point) l
meets-by l point sum e h =
    let same : terms_at l.terms (slice_index point) ≡ sum = terms_at-is l.terms point ∙ e in
    omega (arith, ints, same, h)

pub met-by : (l : Line) (point : List ℕ) (sum : ℤ) → term_sum l.terms point ≡ sum → MeetsLine 1 (slice_index point) l → l.least ≤ℤ sum
met-by l point sum e h =
    let same : terms_at l.terms (slice_index point) ≡ sum = terms_at-is l.terms point ∙ e in
    omega (arith, ints, same, h)

neg-step : (f n s : ℕ) → (neg_ℤ (pos f) *ℤ pos n) +ℤ neg_ℤ (pos s) ≡ neg_ℤ (pos (f * n + s))
neg-step f n s =
    let z : ℤ = neg_ℤ (pos f) in
    let parts : up z + f ≡ down z = omega (arith, ints) in
    omega (arith, ints, ap (λ k. k * n) parts)

pub column_sum-neg : (f number : Mark → ℕ) (cs : List Column) → column_sum (λ mark. neg_ℤ (pos (f mark))) number cs ≡ neg_ℤ (pos (sum_by (λ c. f c.mark * number c.mark) cs))
column_sum-neg f number [] = refl
column_sum-neg f number (c ∷ cs) =
    ap (λ z. (neg_ℤ (pos (f c.mark)) *ℤ pos (number c.mark)) +ℤ z) (column_sum-neg f number cs)
    ∙ neg-step (f c.mark) (number c.mark) (sum_by (λ d. f d.mark * number d.mark) cs)
    ∙ sym (ap (λ k. neg_ℤ (pos k)) (sum_by-cons (λ d. f d.mark * number d.mark) c cs))

module _ (case : Case) (setting : Setting) (phase : IsPhase case setting) (how : Grouping) (a : Assignment) where
  abbrev number : Mark → ℕ
  number = number_of case setting how a

  abbrev point : List ℕ
  point = counts_of case setting how a

  abbrev meets : Line → Type 0
  meets = MeetsLine 1 (slice_index point)

  pub counted : CountsIn case setting how a number
  counted = record { counted = λ c to. refl }

  module _ (lawful : IsLawful case setting a) where
    class-row : (c : ℕ) (class : Class) → slice_get (phase_classes case setting how) c ≡ Some class
        → sum_by (λ col. in_class c col.mark * number col.mark) (columns_of case setting how) ≡ length class.members
    class-row c class read =
        class-columns case setting a how number counted c class read
        ∙ all-at (λ k. sum_by (λ to. count_by (gets a to) k.members) (destinations case setting k) ≡ length k.members) (phase_classes case setting how)
        (classes-counted case setting phase a lawful how) c class read

    most-met : (c : ℕ) (class : Class) → slice_get (phase_classes case setting how) c ≡ Some class → meets (most_line case setting how c class)
    most-met c class read =
        meets-by (most_line case setting how c class) point (neg_ℤ (pos (length class.members)))
        (term_sum-line (columns_of case setting how) ClassMost (λ mark. neg_ℤ (pos (in_class c mark))) (neg_ℤ (pos (length class.members))) number
        ∙ column_sum-neg (in_class c) number (columns_of case setting how)
        ∙ ap (λ n. neg_ℤ (pos n)) (class-row c class read)) (omega (arith, ints))

    least-met : (c : ℕ) (class : Class) → slice_get (phase_classes case setting how) c ≡ Some class → meets (least_line case setting how c class)
    least-met c class read =
        meets-by (least_line case setting how c class) point (pos (length class.members))
        (term_sum-line (columns_of case setting how) ClassLeast (λ mark. pos (in_class c mark)) (pos (length class.members)) number
        ∙ column_sum-pos (in_class c) number (columns_of case setting how)
        ∙ ap pos (class-row c class read)) (omega (arith, ints))

    share-met : (r : ℕ) → is_active setting r ≡ true → has_share case setting r ≡ true → (board : ℕ) → board < case.boards → touches_board case setting r board ≡ true
        → meets (share_line case setting how r board)
    share-met r within has board there touched =
        let bound : units_on_board case a r board ≤ greatest (board_units case a r) =
        All-range_from (λ b. units_on_board case a r b ≤ greatest (board_units case a r)) case.boards (greatest-bounds (units_on_board case a r) (range_with_len 0 case.boards)) board there in
        meets-by (share_line case setting how r board) point (pos (greatest (board_units case a r)) -ℤ pos (units_on_board case a r board))
        (share-sum case setting phase a lawful how number counted r board within has) (omega (arith, ints, bound))

    over-met : (r : ℕ) → is_active setting r ≡ true → nat_lt 0 (want_of case r).spread_weight ≡ true → (board : ℕ) → board < case.boards → touches_board case setting r board ≡ true
        → meets (over_line case setting how r board)
    over-met r within weight board there touched =
        meets-by (over_line case setting how r board) point (pos (units_on_board case a r board - (want_of case r).spread_limit) -ℤ pos (units_on_board case a r board))
        (over-sum case setting phase a lawful how number counted r board within there weight touched) (omega (arith, ints))

    short-met : (r : ℕ) → is_active setting r ≡ true → (entry : ℕ) (goal : Goal) → IsShortEntry case r entry goal → meets (short_line case setting how r entry goal)
    short-met r within entry goal short =
        let there : ℕ = option_map_or (units_in_center case a r) goal.center 0 in
        let lacks : number (Shortage r entry) ≡ goal.least - there = ap (lack case a r) short.read in
        meets-by (short_line case setting how r entry goal) point (pos (number (Shortage r entry) + there))
        (short-sum case setting phase a lawful how number counted r entry goal within short) (omega (arith, ints, lacks))

    rack-met : (r : ℕ) → is_active setting r ≡ true → (setting.racks && nat_lt 0 (want_of case r).rack_weight) ≡ true → (rack : ℕ) → rack < case.racks → touches_rack case setting r rack ≡ true
        → meets (rack_line case setting how r rack)
    rack-met r within weight rack there touched =
        meets-by (rack_line case setting how r rack) point (pos (units_on_rack case a r rack - (want_of case r).rack_limit) -ℤ pos (units_on_rack case a r rack))
        (rack-sum case setting phase a lawful how number counted r rack within there weight touched) (omega (arith, ints))

    module _ (keeps : list_all (keeps_need case a) (all_reservations case) ≡ true) where
      rows-met : (r : ℕ) → is_active setting r ≡ true → RowsHave case setting how meets r
      rows-met r within =
          let kept : keeps_need case a r ≡ true = list_all-range_at (keeps_need case a) (length case.wants) r keeps (phase.there r within) in
          record {
            total = meets-by (total_line case (phase_classes case setting how) (columns_of case setting how) r) point (pos (units case a r))
                (total-sum case setting phase a lawful how number counted r within)
                (let enough : nat_le (want_of case r).need (units case a r) ≡ true = keeps-total case a r kept in
                let at_least : (want_of case r).need ≤ units case a r = grind (arith, nat_tests, enough) in omega (arith, ints, at_least));
            loss = λ n there touched. let lost = loss_of case r n in
                meets-by (loss_line case (phase_classes case setting how) (columns_of case setting how) r lost) point (pos (units case a r - units_where (is_lost lost) case a r))
                (loss-sum case setting phase a lawful how number counted r within lost)
                (let enough : survives case a r lost ≡ true = keeps-survives case a r n kept there in
                let at_least : (want_of case r).need ≤ units case a r - units_where (is_lost lost) case a r = grind (arith, nat_tests, enough) in omega (arith, ints, at_least));
            share = share-met r within;
            over = over-met r within;
            short = short-met r within;
            racks = rack-met r within;
          }

      pub lines-met : All meets (program_lines case setting (phase_classes case setting how))
      lines-met = lines-to case setting how meets (record { most = most-met; least = least-met; rows = rows-met })

    -- the base and the columns' costs are the cost of the assignment
    pub costs-are : program_base case setting + sum_by (λ c. c.cost * number c.mark) (columns_of case setting how) ≡ phase_cost case setting a
    costs-are =
        let counts = flat_map (count_columns case setting) (enumerate_from 0 (phase_classes case setting how)) in
        let helpers = flat_map (helper_columns case setting) setting.active in
        let paid : Column → ℕ = λ c. c.cost * number c.mark in
        let moves = base-counts-terms case setting phase a lawful how number counted in
        let terms = helpers-paid case setting phase a lawful how in
        let split = sum_by-append paid counts helpers in
        let whole : program_base case setting + sum_by paid (counts ++ helpers) ≡ region_cost case a + cond setting.racks (sum_by (rack_excess case a) setting.active) 0 =
        omega (arith, moves, terms, split) in
        whole

-- a point over the columns of a program, by the number of each column's mark
pub value-is : (case : Case) (setting : Setting) (how : Grouping) (program : Program) → IsProgramOf case setting how program → (number : Mark → ℕ)
    → value_of program (point_in case setting how number) ≡ program_base case setting + sum_by (λ c. c.cost * number c.mark) (columns_of case setting how)
value-is case setting how program is number =
    let columns = columns_of case setting how in
    let point = point_in case setting how number in
    let sums : total_below (length columns) (λ j. slice_index (map (λ c. c.cost) columns) j * slice_index point j) ≡ sum_by (λ c. c.cost * number c.mark) columns =
    total-columns (λ c. c.cost) (λ c. number c.mark) columns in
    ap (λ cs. 1 * program.base + total_below (length cs) (λ j. slice_index (map (λ c. c.cost) cs) j * slice_index point j)) is.columns
    ∙ ap (λ b. 1 * b + total_below (length columns) (λ j. slice_index (map (λ c. c.cost) columns) j * slice_index point j)) is.base
    ∙ omega (arith, sums)

pub allowed-is_point : AllowedIsWholePoint
allowed-is_point case setting how program a phase is allowed =
    let parts = and-left _ _ allowed in
    let first = and-left _ _ parts in
    let lawful : IsLawful case setting a = record { fit = and-left _ _ first; serve = and-right _ _ first; keeps = and-right _ _ allowed } in
    let columns = columns_of case setting how in
    let number : Mark → ℕ = number_of case setting how a in
    let point = counts_of case setting how a in
    let size : length point ≡ length program.columns = length_map (λ c. number c.mark) columns ∙ sym (ap length is.columns) in (
      record {
        size = size;
        is_point = record {
          lies = record {
            above = λ j within. let none = replicate-none (length program.columns) j in omega (arith, none);
            below = λ j within. let inside : j < length columns = subst (λ cs. j < length cs) is.columns within in
                let most : slice_index point j ≤ slice_index (map (λ c. c.top) columns) j = map-most (λ c. number c.mark) (λ c. c.top) columns (within-tops case setting phase a lawful how) j inside in
                let tops : slice_index (map (λ c. c.top) program.columns) j ≡ slice_index (map (λ c. c.top) columns) j = ap (λ cs. slice_index (map (λ c. c.top) cs) j) is.columns in
                omega (arith, most, tops);
          };
          meets = subst (All (MeetsLine 1 (slice_index point))) (sym is.rows) (lines-met case setting phase how a lawful (and-right _ _ parts));
        };
      },
      value-is case setting how program is number ∙ costs-are case setting phase how a lawful,
    )
