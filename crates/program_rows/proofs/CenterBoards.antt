-- The switchboards of a datacenter as flags.
use Rattle.std.proofs.Common.{◌≡◌, ℕ, ◌<◌, ◌≤◌, Bool, true, false, List, length, get_or, arith, ap, sym, ◌∙◌, refl, Option}
use mathlib.Core.Path.{fun_ext}
use Rattle.std.specs.Prelude.{map, nat_lt, not, ◌==◌, ◌&&◌, ℤ, pos, ◌+ℤ◌, slice_index_or}
use Rattle.std.specs.List.{list_all, range_with_len}
use Rattle.std.proofs.lemmas.List.{get_or_past}
use Rattle.std.proofs.lemmas.List.Folds.{list_any_none}
use Rattle.std.proofs.lemmas.List.FromFn.{length-map-range_with_len, get_or-map-range_with_len}
use Rattle.std.proofs.lemmas.Bool.Decides.{nat_tests}
use Rattle.plan_model.specs.declared.cases.Case.{Case}
use Rattle.plan_model.specs.declared.cases.Place.{Place}
use Rattle.plan_model.specs.CaseRule.{place_in_range}
use Rattle.plan_model.specs.Units.{is_for, want_of}
use Rattle.plan_model.specs.declared.losses.Lost.{Lost}
use Rattle.plan_model.proofs.CaseFacts.{list_all-at}
use Rattle.symmetry_classes.specs.declared.groups.Class.{Class}
use Rattle.ip_model.specs.declared.parts.Column.{Column}
use Rattle.ip_model.specs.declared.parts.RowKind.TheVariants.{Loss, CenterShort}
use Rattle.program_rows.specs.Programs.{board_in_center, board_lost, line, units_at, at_shortage, loss_line}
use Rattle.program_rows.specs.Sums.{counts_class, left_line}
use Rattle.program_rows.specs.declared.sums.Among.{Among}

and-left : (a b : Bool) → (a && b) ≡ true → a ≡ true
and-left true b h = refl
and-left false b h = h

and-right : (a b : Bool) → (a && b) ≡ true → b ≡ true
and-right true b h = h
and-right false b h = cc

and-none : (a b : Bool) → a ≡ false → (a && b) ≡ false
and-none true b e = cc
and-none false b e = refl

places-rule : (case : Case) → list_all (place_in_range case.kinds case.racks case.boards case.centers (length case.wants)) case.places ≡ true
places-rule case = and-right _ _ (and-left _ _ (and-left _ _ case.kept))

none-past : (case : Case) (center : Option ℕ) (board : ℕ) → case.boards ≤ board → board_in_center case center board ≡ false
none-past case center board past =
    list_any_none (λ s. (s.board == board) && is_for s.center center) case.places
    (λ k d inside. let p : Place = get_or case.places k d in
    let rule = list_all-at (place_in_range case.kinds case.racks case.boards case.centers (length case.wants)) case.places k d inside (places-rule case) in
    let below : nat_lt p.board case.boards ≡ true = and-right _ _ (and-left _ _ (and-left _ _ rule)) in
    let other : (p.board == board) ≡ false = grind (arith, nat_tests, below) in
    and-none (p.board == board) (is_for p.center center) other)

flag-by : (case : Case) (center : Option ℕ) (board : ℕ) (b : Bool) → nat_lt board case.boards ≡ b
    → get_or (map (board_in_center case center) (range_with_len 0 case.boards)) board false ≡ board_in_center case center board
flag-by case center board true e =
    let within : board < case.boards = grind (arith, nat_tests, e) in
    get_or-map-range_with_len (board_in_center case center) 0 case.boards board board false within (omega arith)
flag-by case center board false e =
    let past : case.boards ≤ board = grind (arith, nat_tests, e) in
    let flags = map (board_in_center case center) (range_with_len 0 case.boards) in
    get_or_past flags board false (omega (arith, length-map-range_with_len (board_in_center case center) 0 case.boards))
    ∙ sym (none-past case center board past)

-- the row of the classes that count is that of a loss where they are those that are left
pub left-row : (case : Case) (classes : List Class) (columns : List Column) (r : ℕ) (lost : Lost) (left : Among)
    → ((class : Class) → counts_class left class ≡ not (board_lost case lost class.board)) → left_line case classes columns r left ≡ loss_line case classes columns r lost
left-row case classes columns r lost left same =
    ap (λ (test : Class → Bool). line columns Loss (λ mark. pos (units_at case classes test r mark)) (pos (want_of case r).need)) (fun_ext same)

-- the flags are the test
pub flags-are : (case : Case) (center : Option ℕ) (flags : List Bool) → flags ≡ map (board_in_center case center) (range_with_len 0 case.boards)
    → (board : ℕ) → slice_index_or flags board false ≡ board_in_center case center board
flags-are case center flags e board = ap (λ fs. get_or fs board false) e ∙ flag-by case center board (nat_lt board case.boards) refl

-- the row over flags is the row over the datacenter
pub short-row : (case : Case) (classes : List Class) (columns : List Column) (r entry : ℕ) (center : Option ℕ) (least : ℤ) (flags : List Bool)
    → flags ≡ map (board_in_center case center) (range_with_len 0 case.boards)
    → line columns CenterShort (λ mark. pos (at_shortage r entry mark) +ℤ pos (units_at case classes (λ class. slice_index_or flags class.board false) r mark)) least
    ≡ line columns CenterShort (λ mark. pos (at_shortage r entry mark) +ℤ pos (units_at case classes (λ class. board_in_center case center class.board) r mark)) least
short-row case classes columns r entry center least flags e =
    let first : Class → Bool = λ class. slice_index_or flags class.board false in
    let second : Class → Bool = λ class. board_in_center case center class.board in
    let same : first ≡ second = fun_ext (λ class. flags-are case center flags e class.board) in
    ap (λ (test : Class → Bool). line columns CenterShort (λ mark. pos (at_shortage r entry mark) +ℤ pos (units_at case classes test r mark)) least) same
