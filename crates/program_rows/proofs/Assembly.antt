-- The columns and the rows of a program, from what each active reservation finds.
use Rattle.std.proofs.Common.{◌≡◌, ℕ, zero, suc, ◌+◌, ◌<◌, ◌≤◌, Bool, true, false, cond, List, [], ◌∷◌, ◌++◌, length, get_or, arith, ap, sym, ◌∙◌, refl, Some, None, All, subst}
use Rattle.std.specs.Prelude.{map, flat_map, sum_by, nat_lt, nat_le, not, IsTrue, ◌&&◌, ◌||◌}
use Rattle.std.specs.List.{enumerate_from, list_any}
use Rattle.std.proofs.lemmas.List.{length-append, length-map}
use Rattle.std.proofs.lemmas.List.Concat.{length-flat_map}
use Rattle.std.proofs.lemmas.List.Folds.{flat_map-map}
use Rattle.std.proofs.lemmas.List.FromFn.{length-enumerate_from}
use Rattle.std.proofs.lemmas.List.Sums.{sum_by-cons}
use Rattle.std.proofs.lemmas.Bool.Decides.{nat_tests}
use Rattle.plan_model.specs.declared.cases.Case.{Case}
use Rattle.plan_model.specs.Units.{want_of, value_for, place_of}
use Rattle.plan_model.specs.Losses.{loss_at}
use Rattle.symmetry_classes.specs.declared.groups.Class.{Class}
use Rattle.symmetry_classes.specs.Groups.{same_class, class_of, first_of_each}
use Rattle.symmetry_classes.proofs.Partition.{sum_by-same, sum_by-zero}
use Rattle.ip_model.specs.declared.parts.Column.{Column}
use Rattle.ip_model.specs.declared.parts.Line.{Line}
use Rattle.ip_model.specs.declared.parts.RowKind.TheVariants.{ClassMost, ClassLeast, Total, Loss, LargestShare, BoardOver, CenterShort, RackOver}
use Rattle.program_rows.specs.declared.fault.SizeFault.TheVariants.{Columns, Rows}
use Rattle.program_rows.specs.declared.phases.Phase.{Phase}
use Rattle.program_rows.specs.declared.reach.Reach.{Reach}
use Rattle.program_rows.specs.Settings.{Setting, setting_of, start_fits, movable_servers, phase_classes}
use Rattle.program_rows.specs.Programs.{movable_value, has_share, short_entries, helper_columns, class_lines, reservation_lines, program_base, program_columns, program_lines, program_fits, total_line, loss_lines, board_over_lines, center_short_lines, rack_over_lines, board_excess_columns, shortage_columns, rack_excess_columns, touched_boards, helper_column}
use Rattle.program_rows.specs.Reach.{reach_of, reach_shares, reach_columns, columns_of_class, reach_excess}
use Rattle.program_rows.specs.Sums.{reach_losses, reach_largest_shares, reach_board_overs, reach_rack_overs, reach_lines, reach_rows, rows_of_kind, share_line, over_line, rack_line, short_line}
use Rattle.program_rows.specs.Programs.{loss_line}
use Rattle.program_rows.specs.Sizes.{IsGrouped, size_fault}
use Rattle.program_rows.proofs.Actives.{is-start}
use Rattle.ip_model.specs.Rule.{program_rule}
use Rattle.ip_model.proofs.RuleFacts.{rule_of}
use Rattle.program_rows.proofs.BaseLimit.{constants, program-kept}
use Rattle.program_rows.proofs.ClassSums.{sum_by-plus}
use Rattle.program_rows.proofs.LinesKept.{servers-few}
use Rattle.program_rows.proofs.Lists.{All-map_to}
use Rattle.program_rows.proofs.Pushes.{length-filter}
use Rattle.ip_model.specs.declared.parts.Mark.TheVariants.{Share}

-- some server has a value where their sum is above 0
any-sum : (f : ℕ → ℕ) (xs : List ℕ) → list_any (λ s. true && nat_lt 0 (f s)) xs ≡ nat_lt 0 (sum_by f xs)
any-sum f [] = refl
any-sum f (x ∷ xs) =
    let step : (a b : ℕ) → (nat_lt 0 a || nat_lt 0 b) ≡ nat_lt 0 (a + b) = λ a b. above a b in
    ap (λ b. nat_lt 0 (f x) || b) (any-sum f xs) ∙ step (f x) (sum_by f xs) ∙ ap (nat_lt 0) (sym (sum_by-cons f x xs))
  where
    above : (a b : ℕ) → (nat_lt 0 a || nat_lt 0 b) ≡ nat_lt 0 (a + b)
    above zero b = ap (nat_lt 0) (let none : b ≡ 0 + b = omega arith in none)
    above (suc a) b = sym (grind (arith, nat_tests))

module _ (case : Case) (setting : Setting) where
  shares-are : (r : ℕ) → reach_shares case (reach_of case setting r) ≡ has_share case setting r
  shares-are r = ap (λ b. nat_lt 0 (want_of case r).buffer_weight && b) (sym (any-sum (λ s. value_for case r (place_of case s).kind) (movable_servers case setting)))

  columns-same : (r : ℕ) → reach_columns case (reach_of case setting r) ≡ helper_columns case setting r
  columns-same r =
      ap (λ b. cond b (helper_column (Share r) (want_of case r).buffer_weight (movable_value case setting r) ∷ []) []
      ++ board_excess_columns case setting r ++ shortage_columns case r ++ rack_excess_columns case setting r) (shares-are r)

  lines-same : (classes : List Class) (columns : List Column) (r : ℕ) → reach_lines case classes columns (reach_of case setting r) ≡ reservation_lines case setting classes columns r
  lines-same classes columns r =
      ap (λ b. total_line case classes columns r ∷ (loss_lines case setting classes columns r
      ++ map (share_line case classes columns r) (cond b (touched_boards case setting r) [])
      ++ board_over_lines case setting classes columns r
      ++ center_short_lines case classes columns r
      ++ rack_over_lines case setting classes columns r)) (shares-are r)

  flat-same : {X Y : Type 0} (f g : X → List Y) → ((x : X) → f x ≡ g x) → (xs : List X) → flat_map f xs ≡ flat_map g xs
  flat-same f g h [] = refl
  flat-same f g h (x ∷ xs) = ap (λ ys. ys ++ flat_map f xs) (h x) ∙ ap (λ ys. g x ++ ys) (flat-same f g h xs)

  -- the columns
  pub columns-are : (active : List ℕ) (found : List Reach) (classes : List Class) → active ≡ setting.active → found ≡ map (reach_of case setting) active
      → flat_map (columns_of_class case active) (enumerate_from 0 classes) ++ flat_map (reach_columns case) found ≡ program_columns case setting classes
  columns-are active found classes a f =
      ap (λ rs. flat_map (columns_of_class case rs) (enumerate_from 0 classes) ++ flat_map (reach_columns case) found) a
      ∙ ap (λ xs. flat_map (columns_of_class case setting.active) (enumerate_from 0 classes) ++ xs)
      (ap (flat_map (reach_columns case)) (f ∙ ap (map (reach_of case setting)) a)
      ∙ flat_map-map (reach_columns case) (reach_of case setting) setting.active
      ∙ flat-same (λ r. reach_columns case (reach_of case setting r)) (helper_columns case setting) columns-same setting.active)

  -- the rows
  pub lines-are : (active : List ℕ) (found : List Reach) (classes : List Class) (columns : List Column) → active ≡ setting.active → found ≡ map (reach_of case setting) active
      → columns ≡ program_columns case setting classes
      → flat_map (class_lines columns) (enumerate_from 0 classes) ++ flat_map (reach_lines case classes columns) found ≡ program_lines case setting classes
  lines-are active found classes columns a f e =
      ap (λ xs. flat_map (class_lines columns) (enumerate_from 0 classes) ++ xs)
      (ap (flat_map (reach_lines case classes columns)) (f ∙ ap (map (reach_of case setting)) a)
      ∙ flat_map-map (reach_lines case classes columns) (reach_of case setting) setting.active
      ∙ flat-same (λ r. reach_lines case classes columns (reach_of case setting r)) (reservation_lines case setting classes columns) (lines-same classes columns) setting.active)
      ∙ ap (λ cs. flat_map (class_lines cs) (enumerate_from 0 classes) ++ flat_map (reservation_lines case setting classes cs) setting.active) e

  length-reach : (classes : List Class) (columns : List Column) (x : Reach) → length (reach_lines case classes columns x)
      ≡ reach_rows case Total x + reach_rows case Loss x + reach_rows case LargestShare x + reach_rows case BoardOver x + reach_rows case CenterShort x + reach_rows case RackOver x
  length-reach classes columns x =
      let losses = reach_losses case classes columns x in
      let shares = reach_largest_shares case classes columns x in
      let overs = reach_board_overs case classes columns x in
      let shorts = center_short_lines case classes columns x.reservation in
      let racks = reach_rack_overs case classes columns x in
      let a = length-append (losses ++ shares ++ overs ++ shorts) racks in
      let b = length-append (losses ++ shares ++ overs) shorts in
      let c = length-append (losses ++ shares) overs in
      let d = length-append losses shares in
      let e = length-map x.losses (λ number. loss_line case classes columns x.reservation (loss_at (want_of case x.reservation).protection number)) in
      let f = length-map (cond (reach_shares case x) x.boards []) (share_line case classes columns x.reservation) in
      let g = length-map (reach_excess case x) (over_line case classes columns x.reservation) in
      let h = length-map (short_entries case x.reservation) (short_line case classes columns x.reservation) in
      let i = length-map x.racks (rack_line case classes columns x.reservation) in
      omega (arith, a, b, c, d, e, f, g, h, i)

  -- how many rows there are, kind by kind
  pub rows-total : (active : List ℕ) (found : List Reach) (classes : List Class) → active ≡ setting.active → found ≡ map (reach_of case setting) active
      → rows_of_kind case ClassMost (length classes) found + rows_of_kind case ClassLeast (length classes) found + rows_of_kind case Total (length classes) found
      + rows_of_kind case Loss (length classes) found + rows_of_kind case LargestShare (length classes) found + rows_of_kind case BoardOver (length classes) found
      + rows_of_kind case CenterShort (length classes) found + rows_of_kind case RackOver (length classes) found ≡ length (program_lines case setting classes)
  rows-total active found classes a f =
      let columns = program_columns case setting classes in
      let first = flat_map (class_lines columns) (enumerate_from 0 classes) in
      let second = flat_map (reach_lines case classes columns) found in
      let whole = ap length (lines-are active found classes columns a f refl) in
      let split = length-append first second in
      let by_class = length-flat_map (class_lines columns) (enumerate_from 0 classes) in
      let twos = constants 2 (enumerate_from 0 classes) in
      let numbered = length-enumerate_from 0 classes in
      let by_reach = length-flat_map (reach_lines case classes columns) found in
      let k = reach_rows case in
      let parts = sum_by-same (λ x. length (reach_lines case classes columns x)) (λ x. k Total x + k Loss x + k LargestShare x + k BoardOver x + k CenterShort x + k RackOver x) (length-reach classes columns) found in
      let p1 = sum_by-plus (λ x. k Total x + k Loss x + k LargestShare x + k BoardOver x + k CenterShort x) (k RackOver) found in
      let p2 = sum_by-plus (λ x. k Total x + k Loss x + k LargestShare x + k BoardOver x) (k CenterShort) found in
      let p3 = sum_by-plus (λ x. k Total x + k Loss x + k LargestShare x) (k BoardOver) found in
      let p4 = sum_by-plus (λ x. k Total x + k Loss x) (k LargestShare) found in
      let p5 = sum_by-plus (k Total) (k Loss) found in
      let none : sum_by (k ClassMost) found ≡ 0 = sum_by-zero (k ClassMost) (λ x. refl) found in
      let none_too : sum_by (k ClassLeast) found ≡ 0 = sum_by-zero (k ClassLeast) (λ x. refl) found in
      omega (arith, whole, split, by_class, twos, numbered, by_reach, parts, p1, p2, p3, p4, p5, none, none_too)

-- ---- classes

length-firsts : {X : Type 0} (same : X → X → Bool) (xs : List X) → length (first_of_each same xs) ≤ length xs
length-firsts same [] = omega arith
length-firsts same (x ∷ xs) =
    let rest = length-firsts same xs in
    let less = length-filter (λ y. not (same x y)) (first_of_each same xs) in
    omega (arith, rest, less)

all-map : {X Y : Type 0} (P : Y → Type 0) (f : X → Y) (xs : List X) → ((x : X) → P (f x)) → All P (map f xs)
all-map P f xs h = All-map_to P f xs (λ k d inside. h (get_or xs k d))

pub classes-few : (case : Case) (phase : Phase) (classes : List Class) → start_fits case phase ≡ true → IsGrouped case phase classes → length classes ≤ 20000
classes-few case phase classes fit grouped =
    let setting = setting_of case phase in
    let servers = movable_servers case setting in
    let how = grouped.0 in
    let few = servers-few case setting (is-start case phase fit) in
    let named = length-map (first_of_each (same_class how setting.racks case) servers) (class_of how setting.racks case servers) in
    let less = length-firsts (same_class how setting.racks case) servers in
    omega (arith, ap length grouped.1, few, named, less)

pub members-few : (case : Case) (phase : Phase) (classes : List Class) → start_fits case phase ≡ true → IsGrouped case phase classes → All (λ class. length class.members ≤ 20000) classes
members-few case phase classes fit grouped =
    let setting = setting_of case phase in
    let servers = movable_servers case setting in
    let how = grouped.0 in
    let few = servers-few case setting (is-start case phase fit) in
    subst (λ (cs : List Class). All (λ class. length class.members ≤ 20000) cs) (sym grouped.1)
    (all-map (λ class. length class.members ≤ 20000) (class_of how setting.racks case servers) (first_of_each (same_class how setting.racks case) servers)
    (λ x. let less = length-filter (same_class how setting.racks case x) servers in omega (arith, less, few)))

-- ---- faults

pub columns-fault : (columns rows n : ℕ) → n ≡ columns → 2048 < n → size_fault columns rows ≡ Some (Columns n)
columns-fault columns rows n e more =
    let many : nat_lt 2048 columns ≡ true = grind (arith, nat_tests) in
    ap (λ b. cond b (Some (Columns columns)) (cond (nat_lt 2048 rows) (Some (Rows rows)) None)) many ∙ ap (λ k. Some (Columns k)) (sym e)

pub rows-fault : (columns rows n : ℕ) → columns ≤ 2048 → n ≡ rows → 2048 < n → size_fault columns rows ≡ Some (Rows n)
rows-fault columns rows n few e more =
    let fits : nat_lt 2048 columns ≡ false = grind (arith, nat_tests) in
    let many : nat_lt 2048 rows ≡ true = grind (arith, nat_tests) in
    ap (λ b. cond b (Some (Columns columns)) (cond (nat_lt 2048 rows) (Some (Rows rows)) None)) fits
    ∙ ap (λ b. cond b (Some (Rows rows)) None) many ∙ ap (λ k. Some (Rows k)) (sym e)

pub no-fault : (columns rows : ℕ) → columns ≤ 2048 → rows ≤ 2048 → size_fault columns rows ≡ None
no-fault columns rows few fewer =
    let fits : nat_lt 2048 columns ≡ false = grind (arith, nat_tests) in
    let fit : nat_lt 2048 rows ≡ false = grind (arith, nat_tests) in
    ap (λ b. cond b (Some (Columns columns)) (cond (nat_lt 2048 rows) (Some (Rows rows)) None)) fits
    ∙ ap (λ b. cond b (Some (Rows rows)) None) fit

-- ---- the rule of programs

le-test : (m n : ℕ) → m ≤ n → nat_le m n ≡ true
le-test m n h = grind (arith, nat_tests)

both : (a b : Bool) → a ≡ true → b ≡ true → (a && b) ≡ true
both true b e h = h
both false b e h = e

pub rule-kept : (case : Case) (phase : Phase) (classes : List Class) → start_fits case phase ≡ true → IsGrouped case phase classes
    → length (program_columns case (setting_of case phase) classes) ≤ 2048 → length (program_lines case (setting_of case phase) classes) ≤ 2048
    → (base : ℕ) (columns : List Column) (rows : List Line) → base ≡ program_base case (setting_of case phase) → columns ≡ program_columns case (setting_of case phase) classes
    → rows ≡ program_lines case (setting_of case phase) classes → IsTrue (program_rule base columns rows)
rule-kept case phase classes fit grouped few fewer base columns rows b c r =
    let setting = setting_of case phase in
    let how = grouped.0 in
    let fits : program_fits case setting classes ≡ true =
    both (nat_le (length (program_columns case setting classes)) 2048) (nat_le (length (program_lines case setting classes)) 2048)
    (le-test (length (program_columns case setting classes)) 2048 few) (le-test (length (program_lines case setting classes)) 2048 fewer) in
    let limits = program-kept case setting how (is-start case phase fit) (ap (program_fits case setting) (sym grouped.1) ∙ fits) in
    let kept = rule_of (program_base case setting) (program_columns case setting (phase_classes case setting how)) (program_lines case setting (phase_classes case setting how)) limits in
    ap (λ k. program_rule k columns rows) b
    ∙ ap (λ k. program_rule (program_base case setting) k rows) c
    ∙ ap (λ k. program_rule (program_base case setting) (program_columns case setting classes) k) r
    ∙ ap (λ cs. program_rule (program_base case setting) (program_columns case setting cs) (program_lines case setting cs)) grouped.1
    ∙ kept
