-- What a phase costs once one server gets a reservation in place of none.
use Rattle.std.proofs.Common.{◌≡◌, ℕ, ◌+◌, ◌-◌, ◌*◌, ◌<◌, ◌==◌, Bool, true, false, cond, length, get_or, arith, ap, sym, ◌∙◌, refl, Some, None}
use Rattle.std.specs.Prelude.{sum_by, Option, ◌&&◌, nat_le}
use Rattle.std.specs.List.{range_with_len}
use Rattle.std.specs.Option.{option_map_or}
use Rattle.std.proofs.lemmas.Bool.Decides.{nat_tests}
use Rattle.plan_model.specs.declared.cases.Place.{Place}
use Rattle.plan_model.specs.declared.cases.Goal.{Goal}
use Rattle.plan_model.specs.declared.cases.Case.{Case}
use Rattle.plan_model.specs.declared.cases.Assignment.{Assignment}
use Rattle.plan_model.specs.Units.{units_where, units, server_with, place_of, no_place, want_of, value_for, units_on_board, units_on_rack, units_in_center, all_reservations}
use Rattle.plan_model.specs.Allowed.{keeps_need, survives}
use Rattle.plan_model.specs.Losses.{is_lost, losses}
use Rattle.plan_model.specs.Costs.{move_cost, terms_cost, board_units, greatest, excess, shortage_cost, rack_excess}
use Rattle.plan_model.specs.CaseRule.{place_in_range}
use Rattle.plan_model.proofs.CaseFacts.{list_all-at, and-left, and-right}
use Rattle.program_rows.specs.Settings.{Setting}
use Rattle.program_rows.specs.Phases.{IsStart, is_active, phase_cost}
use Rattle.program_rows.proofs.RangeSums.{once-in_range}
use Rattle.program_rows.proofs.PhaseSums.{once-active, none-count}
use Rattle.steady_plans.specs.Laws.{CostChangesLocally}
use Rattle.steady_plans.specs.Steady.{replaced}
use Rattle.steady_plans.specs.Local.{local_cost}
use Rattle.steady_plans.proofs.Lists.{map-same, sum-same, all-same, sum-of_map, but_one, times}
use Rattle.steady_plans.proofs.Changes.{changed-sum, gets-units, units-of_all}

-- two assignments that give a reservation the same in each part
abbrev pub HaveSameUnits : Case → Assignment → Assignment → ℕ → Type 0
HaveSameUnits case a b r = (test : Place → Bool) → units_where test case a r ≡ units_where test case b r

shortage-same : (case : Case) (a b : Assignment) (r : ℕ) → HaveSameUnits case a b r → (goal : Goal) (o : Option ℕ)
    → goal.weight * (goal.least - option_map_or (units_in_center case a r) o 0) ≡ goal.weight * (goal.least - option_map_or (units_in_center case b r) o 0)
shortage-same case a b r same goal None = refl
shortage-same case a b r same goal (Some d) = ap (λ n. goal.weight * (goal.least - n)) (same (λ s. s.center == d))

pub terms-same : (case : Case) (a b : Assignment) (r : ℕ) → HaveSameUnits case a b r → terms_cost case a r ≡ terms_cost case b r
terms-same case a b r same =
    let want = want_of case r in
    let boards : board_units case a r ≡ board_units case b r = map-same (units_on_board case a r) (units_on_board case b r) (λ m. same (λ s. s.board == m)) (range_with_len 0 case.boards) in
    let shortages : sum_by (shortage_cost case a r) want.near ≡ sum_by (shortage_cost case b r) want.near =
    sum-same (shortage_cost case a r) (shortage_cost case b r) (λ g. shortage-same case a b r same g g.center) want.near in
    ap (λ us. want.buffer_weight * greatest us + want.spread_weight * excess want.spread_limit us + sum_by (shortage_cost case a r) want.near) boards
    ∙ ap (λ n. want.buffer_weight * greatest (board_units case b r) + want.spread_weight * excess want.spread_limit (board_units case b r) + n) shortages

pub rack_excess-same : (case : Case) (a b : Assignment) (r : ℕ) → HaveSameUnits case a b r → rack_excess case a r ≡ rack_excess case b r
rack_excess-same case a b r same =
    ap (λ us. (want_of case r).rack_weight * excess (want_of case r).rack_limit us)
    (map-same (units_on_rack case a r) (units_on_rack case b r) (λ k. same (λ s. s.rack == k)) (range_with_len 0 case.racks))

pub keeps-same : (case : Case) (a b : Assignment) (r : ℕ) → HaveSameUnits case a b r → keeps_need case a r ≡ keeps_need case b r
keeps-same case a b r same =
    let need = (want_of case r).need in
    let total : units case a r ≡ units case b r = sym (units-of_all case a r) ∙ same (λ s. 0 == 0) ∙ units-of_all case b r in
    all-same (survives case a r) (survives case b r)
    (λ lost. ap (λ n. nat_le need (n - units_where (is_lost lost) case a r)) total ∙ ap (λ n. nat_le need (units case b r - n)) (same (is_lost lost)))
    (losses case r)

-- how often a number stands in a range, and an active reservation among the active ones
cond-times : (n m : ℕ) (b : Bool) → n ≡ cond b 1 0 → n * m ≡ cond b m 0
cond-times n m true e = ap (λ z. z * m) e ∙ omega arith
cond-times n m false e = ap (λ z. z * m) e ∙ omega arith

none-elsewhere : (b c : Bool) (v n : ℕ) → c ≡ false → n ≡ n + cond b (cond c v 0) 0
none-elsewhere true c v n e = let here : ◌≡◌ {A = ℕ} (cond c v 0) 0 = ap (λ z. cond z v 0) e in omega (arith, here)
none-elsewhere false c v n e = omega arith

none-in_part : (b c : Bool) (v n : ℕ) → b ≡ false → n ≡ n + cond b (cond c v 0) 0
none-in_part b c v n e = let here : ◌≡◌ {A = ℕ} (cond b (cond c v 0) 0) 0 = ap (λ z. cond z (cond c v 0) 0) e in omega (arith, here)

module _ (case : Case) (b : Assignment) (s r : ℕ) (size : length b.of ≡ length case.places) (within : s < length case.places) (none : get_or b.of s None ≡ None) where
  abbrev given : Assignment
  given = replaced b s (Some r)

  abbrev place : Place
  place = place_of case s

  -- every other reservation has what it had
  pub others-same : (q : ℕ) → (r == q) ≡ false → HaveSameUnits case given b q
  others-same q apart test =
      gets-units test case b s r q size within none
      ∙ sym (none-elsewhere (test place) (r == q) (value_for case r place.kind) (units_where test case b q) apart)

  others-same' : (q : ℕ) → (q == r) ≡ false → HaveSameUnits case given b q
  others-same' q apart = others-same q (turned q r apart)
    where
      turned : (m n : ℕ) → (m == n) ≡ false → (n == m) ≡ false
      turned m n e = grind (arith, nat_tests)

  -- the terms of all reservations
  pub terms-change : times r (all_reservations case) ≡ 1
      → sum_by (terms_cost case given) (all_reservations case) + terms_cost case b r ≡ sum_by (terms_cost case b) (all_reservations case) + terms_cost case given r
  terms-change once =
      let change = but_one (terms_cost case given) (terms_cost case b) r (λ q apart. terms-same case given b q (others-same' q apart)) (all_reservations case) in
      let first = ap (λ n. n * terms_cost case b r) once in
      let second = ap (λ n. n * terms_cost case given r) once in
      omega (arith, change, first, second)

  -- the excess of reservation r on racks changes on the server's rack alone
  abbrev over : Assignment → ℕ → ℕ
  over a k = units_on_rack case a r k - (want_of case r).rack_limit

  racks-same : (k : ℕ) → (k == place.rack) ≡ false → over given k ≡ over b k
  racks-same k apart =
      ap (λ n. n - (want_of case r).rack_limit)
      (gets-units (λ t. t.rack == k) case b s r r size within none
      ∙ sym (none-in_part (place.rack == k) (r == r) (value_for case r place.kind) (units_on_rack case b r k) (turned k place.rack apart)))
    where
      turned : (m n : ℕ) → (m == n) ≡ false → (n == m) ≡ false
      turned m n e = grind (arith, nat_tests)

  pub rack_excess-change : times place.rack (range_with_len 0 case.racks) ≡ 1
      → rack_excess case given r + (want_of case r).rack_weight * (units_on_rack case b r place.rack - (want_of case r).rack_limit)
      ≡ rack_excess case b r + (want_of case r).rack_weight * (units_on_rack case given r place.rack - (want_of case r).rack_limit)
  rack_excess-change once =
      let weight = (want_of case r).rack_weight in
      let limit = (want_of case r).rack_limit in
      let all : Assignment → ℕ = λ a. sum_by (λ k. units_on_rack case a r k - limit) (range_with_len 0 case.racks) in
      let one : Assignment → ℕ = λ a. units_on_rack case a r place.rack - limit in
      let whole : (a : Assignment) → rack_excess case a r ≡ weight * all a =
      λ a. ap (λ n. weight * n) (sum-of_map (λ n. n - limit) (units_on_rack case a r) (range_with_len 0 case.racks)) in
      let change = but_one (λ k. units_on_rack case given r k - limit) (λ k. units_on_rack case b r k - limit) place.rack racks-same (range_with_len 0 case.racks) in
      let first = ap (λ n. n * one b) once in
      let second = ap (λ n. n * one given) once in
      let sums : all given + one b ≡ all b + one given = omega (arith, change, first, second) in
      let weighed : weight * (all given + one b) ≡ weight * (all b + one given) = ap (λ n. weight * n) sums in
      omega (arith, weighed, whole given, whole b)

  pub racks-change : (setting : Setting) (racks active : Bool) → times place.rack (range_with_len 0 case.racks) ≡ 1 → times r setting.active ≡ cond active 1 0
      → cond racks (sum_by (rack_excess case given) setting.active) 0
      + cond (racks && active) ((want_of case r).rack_weight * (units_on_rack case b r place.rack - (want_of case r).rack_limit)) 0
      ≡ cond racks (sum_by (rack_excess case b) setting.active) 0
      + cond (racks && active) ((want_of case r).rack_weight * (units_on_rack case given r place.rack - (want_of case r).rack_limit)) 0
  racks-change setting false active once there = refl
  racks-change setting true true once there =
      let change = but_one (rack_excess case given) (rack_excess case b) r (λ q apart. rack_excess-same case given b q (others-same' q apart)) setting.active in
      let first = ap (λ n. n * rack_excess case b r) there in
      let second = ap (λ n. n * rack_excess case given r) there in
      let one = rack_excess-change once in
      omega (arith, change, first, second, one)
  racks-change setting true false once there =
      let change = but_one (rack_excess case given) (rack_excess case b) r (λ q apart. rack_excess-same case given b q (others-same' q apart)) setting.active in
      let first = ap (λ n. n * rack_excess case b r) there in
      let second = ap (λ n. n * rack_excess case given r) there in
      omega (arith, change, first, second)

  -- the phase's cost, by what changes
  pub cost-change : (setting : Setting) → times r (all_reservations case) ≡ 1 → times place.rack (range_with_len 0 case.racks) ≡ 1 → times r setting.active ≡ cond (is_active setting r) 1 0
      → phase_cost case setting given + (move_cost case.moves (place, None) + local_cost case setting b r place.rack)
      ≡ phase_cost case setting b + (move_cost case.moves (place, Some r) + local_cost case setting given r place.rack)
  cost-change setting there rack active =
      let moves = changed-sum case (move_cost case.moves) b s (Some r) size within in
      let was : move_cost case.moves (server_with case b s) ≡ move_cost case.moves (place, None) = ap (λ o. move_cost case.moves (place, o)) none in
      let terms = terms-change there in
      let racks = racks-change setting setting.racks (is_active setting r) rack active in
      omega (arith, moves, was, terms, racks)

-- ---- the law

active-times : (case : Case) (setting : Setting) → IsStart case setting → (r : ℕ) (b : Bool) → is_active setting r ≡ b → times r setting.active ≡ cond b 1 0
active-times case setting start r true e = once-active case setting start r e
active-times case setting start r false e = none-count r setting.active e

pub place-in_range : (case : Case) (s : ℕ) → s < length case.places → place_in_range case.kinds case.racks case.boards case.centers (length case.wants) (place_of case s) ≡ true
place-in_range case s within =
    list_all-at (place_in_range case.kinds case.racks case.boards case.centers (length case.wants)) case.places s no_place within (and-right _ _ (and-left _ _ (and-left _ _ case.kept)))

pub rack-in_range : (case : Case) (s : ℕ) → s < length case.places → (place_of case s).rack < case.racks
rack-in_range case s within = let ranged = place-in_range case s within in grind (arith, nat_tests, ranged)

pub cost-changes : CostChangesLocally
cost-changes case setting a s r start size within there none =
    cost-change case a s r size within none setting
    (once-in_range (length case.wants) r there)
    (once-in_range case.racks (place_of case s).rack (rack-in_range case s within))
    (active-times case setting start r (is_active setting r) refl)
