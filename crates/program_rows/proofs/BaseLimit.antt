-- The base of a phase's program is at most 2 ^ 48, and the program keeps its limits where it fits.
use Rattle.std.proofs.Common.{◌≡◌, ℕ, suc, ◌+◌, ◌*◌, ◌-◌, ◌<◌, ◌≤◌, ◌^◌, Bool, true, false, cond, List, [], ◌∷◌, length, get_or, arith, ap, sym, ◌∙◌, refl}
use Rattle.std.specs.Prelude.{sum_by, Option, nat_lt, nat_le, ◌==◌, ◌&&◌, not}
use Rattle.std.specs.List.{range_with_len}
use Rattle.std.specs.Option.{option_map_or}
use Rattle.std.specs.Cmp.{nat_eq_equiv}
use Rattle.std.proofs.lemmas.Bool.Decides.{nat_tests}
use Rattle.std.proofs.lemmas.List.Sums.{sum_by-cons}
use Rattle.std.proofs.lemmas.List.FromFn.{length-range_with_len}
use Rattle.std.proofs.lemmas.Slice.Zip.{length-zip}
use Rattle.plan_model.specs.declared.cases.Case.{Case}
use Rattle.plan_model.specs.declared.cases.Place.{Place}
use Rattle.plan_model.specs.declared.cases.Assignment.{Assignment}
use Rattle.plan_model.specs.declared.cases.Grouping.{Grouping}
use Rattle.plan_model.specs.CaseRule.{goal_in_range}
use Rattle.ip_model.specs.Limits.{KeepsLimits}
use Rattle.plan_model.specs.Units.{want_of, value_for, is_for, share_of, servers_with_places, all_reservations, units, units_on_board, units_in_center}
use Rattle.plan_model.specs.Costs.{move_cost, up_move_cost, greatest, board_units, excess, shortage_cost, terms_cost}
use Rattle.plan_model.specs.Rack.{is_movable}
use Rattle.plan_model.proofs.SumLemmas.{length-fits, few-places, sum_by-filter, sum_by-filter-le}
use Rattle.plan_model.proofs.NumberLemmas.{mul-le-bounds}
use Rattle.plan_model.proofs.CaseFacts.{list_all-at, near-in_range, want-limits}
use Rattle.symmetry_classes.proofs.Partition.{sum_by-same, sum_by-zero}
use Rattle.program_rows.specs.Phases.{IsStart, is_active}
use Rattle.program_rows.specs.Settings.{Setting, phase_classes}
use Rattle.program_rows.specs.Programs.{program_base, program_columns, program_lines, program_fits}
use Rattle.program_rows.proofs.ClassSums.{sum_by-plus}
use Rattle.program_rows.proofs.ListSums.{sum_by-map, sum_by-times}
use Rattle.program_rows.proofs.RangeSums.{once-in_range, none-in_range}
use Rattle.program_rows.proofs.PhaseSums.{most-all}
use Rattle.program_rows.proofs.Lists.{All-range_to, greatest-most}
use Rattle.program_rows.proofs.UnitLimits.{value-most}
use Rattle.program_rows.proofs.LinesKept.{move-most, lines-kept, columns-kept}

and-left : (a b : Bool) → (a && b) ≡ true → a ≡ true
and-left true b h = refl
and-left false b h = h

and-right : (a b : Bool) → (a && b) ≡ true → b ≡ true
and-right true b h = h
and-right false b h = cc

le-from : (m n : ℕ) → nat_le m n ≡ true → m ≤ n
le-from m n h = grind (arith, nat_tests)

cond-under : (b : Bool) (n k : ℕ) → n ≤ k → cond b n 0 ≤ k
cond-under true n k h = h
cond-under false n k h = omega arith

pub constants : {X : Type 0} (k : ℕ) (xs : List X) → sum_by (λ _. k) xs ≡ k * length xs
constants k [] = let none : 0 ≡ k * 0 = omega arith in none
constants {X = X} k (x ∷ xs) =
    let rest = constants k xs in
    let more : k * suc (length xs) ≡ k + k * length xs = omega arith in
    sum_by-cons (λ (y : X). k) x xs ∙ ap (λ n. k + n) rest ∙ sym more

in_range-most : (n r : ℕ) (b : Bool) → nat_lt r n ≡ b → sum_by (λ q. cond (q == r) 1 0) (range_with_len 0 n) ≤ 1
in_range-most n r true e = let within : r < n = grind (arith, nat_tests, e) in let once = once-in_range n r within in omega (arith, once)
in_range-most n r false e = let past : n ≤ r = grind (arith, nat_tests, e) in let none = none-in_range n r past in omega (arith, none)

as-product : (b c : Bool) (n : ℕ) → b ≡ c → cond b n 0 ≡ n * cond c 1 0
as-product true true n e = omega arith
as-product false false n e = omega arith
as-product true false n e = cc
as-product false true n e = cc

-- each server is on one switchboard
apart-most : (f : Place × Option ℕ → ℕ) (n : ℕ) (xs : List (Place × Option ℕ)) → sum_by (λ b. sum_by (λ s. cond (s.0.board == b) (f s) 0) xs) (range_with_len 0 n) ≤ sum_by f xs
apart-most f n [] = let none = sum_by-zero (λ (b : ℕ). 0) (λ b. refl) (range_with_len 0 n) in omega (arith, none)
apart-most f n (x ∷ xs) =
    let numbers = range_with_len 0 n in
    let here : ℕ → ℕ = λ b. cond (x.0.board == b) (f x) 0 in
    let later : ℕ → ℕ = λ b. sum_by (λ s. cond (s.0.board == b) (f s) 0) xs in
    let split : sum_by (λ b. sum_by (λ s. cond (s.0.board == b) (f s) 0) (x ∷ xs)) numbers ≡ sum_by here numbers + sum_by later numbers =
    sum_by-same (λ b. sum_by (λ s. cond (s.0.board == b) (f s) 0) (x ∷ xs)) (λ b. here b + later b) (λ b. sum_by-cons (λ s. cond (s.0.board == b) (f s) 0) x xs) numbers ∙ sum_by-plus here later numbers in
    let mine : sum_by here numbers ≡ f x * sum_by (λ b. cond (b == x.0.board) 1 0) numbers =
    sum_by-same here (λ b. f x * cond (b == x.0.board) 1 0) (λ b. as-product (x.0.board == b) (b == x.0.board) (f x) (nat_eq_equiv.symm x.0.board b)) numbers ∙ sum_by-times (f x) (λ b. cond (b == x.0.board) 1 0) numbers in
    let one = in_range-most n x.0.board (nat_lt x.0.board n) refl in
    let less : f x * sum_by (λ b. cond (b == x.0.board) 1 0) numbers ≤ f x * 1 = mul-le-bounds (f x) (sum_by (λ b. cond (b == x.0.board) 1 0) numbers) (f x) 1 (omega arith) one in
    let rest = apart-most f n xs in
    omega (arith, split, mine, less, rest, sum_by-cons f x xs)

module _ (case : Case) (a : Assignment) (same : length a.of ≡ length case.places) where
  assigned-few : length (servers_with_places case a) ≤ 20000
  assigned-few = let pairs = length-zip case.places a.of in let few = few-places case in omega (arith, pairs, few, same)

  pub units-few : (r : ℕ) → r < length case.wants → units case a r ≤ 20000000
  units-few r within =
      let most = most-all (share_of case r) (λ _. 1000) (servers_with_places case a) (λ k d inside. let s = get_or (servers_with_places case a) k d in cond-under (is_for r s.1) (value_for case r s.0.kind) 1000 (value-most case r s.0.kind within)) in
      let sum = constants 1000 (servers_with_places case a) in
      omega (arith, most, sum, assigned-few)

  board-few : (r board : ℕ) → units_on_board case a r board ≤ units case a r
  board-few r board = sum_by-filter-le (λ s. s.0.board == board) (share_of case r) (servers_with_places case a)

  excess-few : (r limit : ℕ) → excess limit (board_units case a r) ≤ units case a r
  excess-few r limit =
      let numbers = range_with_len 0 case.boards in
      let by_board = sum_by-map (λ n. n - limit) (units_on_board case a r) numbers in
      let less = most-all (λ b. units_on_board case a r b - limit) (λ b. sum_by (λ s. cond (s.0.board == b) (share_of case r s) 0) (servers_with_places case a)) numbers
      (λ k d inside. let b = get_or numbers k d in let filtered = sum_by-filter (λ s. s.0.board == b) (share_of case r) (servers_with_places case a) in omega (arith, filtered)) in
      let apart = apart-most (share_of case r) case.boards (servers_with_places case a) in
      omega (arith, by_board, less, apart)

  near-few : (r : ℕ) → r < length case.wants → sum_by (shortage_cost case a r) (want_of case r).near ≤ 1600000000000
  near-few r within =
      let near = (want_of case r).near in
      let all = near-in_range case r within in
      let most = most-all (shortage_cost case a r) (λ _. 100000000000) near (λ k d inside.
      let goal = get_or near k d in
      let rule : goal_in_range case.centers goal ≡ true = list_all-at (goal_in_range case.centers) near k d inside all in
      let weight : goal.weight ≤ 10000 = grind (arith, nat_tests, rule) in
      let least : goal.least ≤ 10000000 = grind (arith, nat_tests, rule) in
      mul-le-bounds goal.weight (goal.least - option_map_or (units_in_center case a r) goal.center 0) 10000 10000000 weight (omega (arith, least))) in
      let sum = constants 100000000000 near in
      let few = (want-limits case r within).near in
      omega (arith, most, sum, few)

  terms-few : (r : ℕ) → r < length case.wants → terms_cost case a r ≤ 2000000000000
  terms-few r within =
      let want = want_of case r in
      let limits = want-limits case r within in
      let few = units-few r within in
      let top = greatest-most (units case a r) (units_on_board case a r) (range_with_len 0 case.boards) (λ k d inside. board-few r (get_or (range_with_len 0 case.boards) k d)) in
      let first = mul-le-bounds want.buffer_weight (greatest (board_units case a r)) 10000 20000000 limits.buffer_weight (omega (arith, top, few)) in
      let over = excess-few r want.spread_limit in
      let second = mul-le-bounds want.spread_weight (excess want.spread_limit (board_units case a r)) 10000 20000000 limits.spread_weight (omega (arith, over, few)) in
      let third = near-few r within in
      omega (arith, first, second, third)

  moves-few : sum_by (move_cost case.moves) (servers_with_places case a) ≤ 200000000
  moves-few =
      let most = most-all (move_cost case.moves) (λ _. 10000) (servers_with_places case a) (λ k d inside. let s = get_or (servers_with_places case a) k d in cond-under s.0.up (up_move_cost case.moves s.0.holder s.0.busy s.1) 10000 (move-most case s.0.holder s.0.busy s.1)) in
      let sum = constants 10000 (servers_with_places case a) in
      omega (arith, most, sum, assigned-few)

  all-terms-few : sum_by (terms_cost case a) (all_reservations case) ≤ 128000000000000
  all-terms-few =
      let most = most-all (terms_cost case a) (λ _. 2000000000000) (all_reservations case) (All-range_to (λ r. terms_cost case a r ≤ 2000000000000) (length case.wants) terms-few) in
      let sum = constants 2000000000000 (all_reservations case) in
      let size = length-range_with_len 0 (length case.wants) in
      let wants : length case.wants ≤ 64 = grind (arith, nat_tests, case.kept) in
      omega (arith, most, sum, size, wants)

pub base-few : (case : Case) (setting : Setting) → IsStart case setting → program_base case setting ≤ 2 ^ 48
base-few case setting phase =
    let same = length-fits case setting.start phase.fit in
    let moves = sum_by-filter-le (λ s. not (is_movable case setting.active s)) (move_cost case.moves) (servers_with_places case setting.start) in
    let terms = sum_by-filter-le (λ r. not (is_active setting r)) (terms_cost case setting.start) (all_reservations case) in
    let few = moves-few case setting.start same in
    let all = all-terms-few case setting.start same in
    let whole : program_base case setting ≤ 128000200000000 = omega (arith, moves, terms, few, all) in
    omega (arith, whole)

-- a program that fits keeps the limits that every program keeps
pub program-kept : (case : Case) (setting : Setting) (how : Grouping) → IsStart case setting → program_fits case setting (phase_classes case setting how) ≡ true
    → KeepsLimits (program_base case setting) (program_columns case setting (phase_classes case setting how)) (program_lines case setting (phase_classes case setting how))
program-kept case setting how phase fits =
    let classes = phase_classes case setting how in
    let left : nat_le (length (program_columns case setting classes)) 2048 ≡ true = and-left (nat_le (length (program_columns case setting classes)) 2048) (nat_le (length (program_lines case setting classes)) 2048) fits in
    let right : nat_le (length (program_lines case setting classes)) 2048 ≡ true = and-right (nat_le (length (program_columns case setting classes)) 2048) (nat_le (length (program_lines case setting classes)) 2048) fits in
    record {
      few_columns = le-from (length (program_columns case setting classes)) 2048 left;
      few_rows = le-from (length (program_lines case setting classes)) 2048 right;
      base_bound = base-few case setting phase;
      columns_in = columns-kept case setting phase how;
      rows_in = lines-kept case setting phase how;
    }
