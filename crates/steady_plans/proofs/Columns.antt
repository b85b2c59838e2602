-- What the tables say of one reservation's terms and need.
use Rattle.std.proofs.Common.{◌≡◌, ℕ, zero, suc, ◌+◌, ◌-◌, ◌*◌, ◌<◌, ◌==◌, true, List, [], ◌∷◌, ◌++◌, length, arith, ap, sym, ◌∙◌, refl, Some, None}
use Rattle.std.specs.Prelude.{Option, map, sum_by, nat_lt}
use Rattle.std.specs.List.{list_all, range_with_len}
use Rattle.std.specs.Option.{option_map_or}
use Rattle.std.proofs.lemmas.List.FromFn.{map-range_with_len_more}
use Rattle.std.proofs.lemmas.List.Sums.{sum_by-cons}
use Rattle.plan_model.specs.declared.cases.Place.{Place}
use Rattle.plan_model.specs.declared.cases.Goal.{Goal}
use Rattle.plan_model.specs.declared.cases.Want.{Want}
use Rattle.plan_model.specs.declared.cases.Case.{Case}
use Rattle.plan_model.specs.declared.cases.Assignment.{Assignment}
use Rattle.plan_model.specs.CaseRule.{goal_in_range}
use Rattle.plan_model.specs.Units.{units, units_where, units_on_rack, units_in_center, want_of}
use Rattle.plan_model.specs.Costs.{greatest, excess, board_units, shortage_cost, terms_cost}
use Rattle.plan_model.proofs.CaseFacts.{near-in_range, and-left, and-right}
use Rattle.std.proofs.lemmas.Bool.Decides.{nat_tests}
use Rattle.steady_plans.specs.declared.sums.Sums.{Sums}
use Rattle.steady_plans.specs.Tables.{IsTable, AreSumsOf, cell, column, shortage_by}
use Rattle.steady_plans.proofs.Changes.{units-of_all}
use Rattle.steady_plans.proofs.Bounds.{reservation-small}

map-range_same : (f g : ℕ → ℕ) (n : ℕ) → ((k : ℕ) → k < n → f k ≡ g k) → map f (range_with_len 0 n) ≡ map g (range_with_len 0 n)
map-range_same f g zero h = refl
map-range_same f g (suc n) h =
    let one : suc n ≡ n + 1 = omega arith in
    ap (λ k. map f (range_with_len 0 k)) one
    ∙ map-range_with_len_more f 0 n n (omega arith)
    ∙ ap (λ ys. ys ++ f n ∷ []) (map-range_same f g n (λ k less. h k (omega arith)))
    ∙ ap (λ y. map g (range_with_len 0 n) ++ y ∷ []) (h n (omega arith))
    ∙ sym (map-range_with_len_more g 0 n n (omega arith))
    ∙ ap (λ k. map g (range_with_len 0 k)) (sym one)

pub column-is : (case : Case) (a : Assignment) (number : Place → ℕ) (count : ℕ) (cells : List ℕ) → IsTable case a number count cells → (r : ℕ) → r < 64
    → column cells r count ≡ map (λ n. units_where (λ s. number s == n) case a r) (range_with_len 0 count)
column-is case a number count cells table r small =
    map-range_same (λ n. cell cells n r) (λ n. units_where (λ s. number s == n) case a r) count (λ n within. table.counted n r within small)

module _ (case : Case) (a : Assignment) (sums : Sums) (are : AreSumsOf case a sums) (r : ℕ) (there : r < length case.wants) where
  small : r < 64
  small = reservation-small case r there

  center-is : (o : Option ℕ) → option_map_or (λ d. nat_lt d case.centers) o true ≡ true → option_map_or (λ d. cell sums.centers.items d r) o 0 ≡ option_map_or (units_in_center case a r) o 0
  center-is None h = refl
  center-is (Some d) h = let within : d < case.centers = grind (arith, nat_tests, h) in are.centers.counted d r within small

  shortage-is : (g : Goal) → goal_in_range case.centers g ≡ true → shortage_by sums.centers.items r g ≡ shortage_cost case a r g
  shortage-is g h = ap (λ n. g.weight * (g.least - n)) (center-is g.center (and-right _ _ h))

  shortages-are : (gs : List Goal) → list_all (goal_in_range case.centers) gs ≡ true → sum_by (shortage_by sums.centers.items r) gs ≡ sum_by (shortage_cost case a r) gs
  shortages-are [] h = refl
  shortages-are (g ∷ gs) h =
      sum_by-cons (shortage_by sums.centers.items r) g gs
      ∙ ap (λ n. n + sum_by (shortage_by sums.centers.items r) gs) (shortage-is g (and-left _ _ h))
      ∙ ap (λ n. shortage_cost case a r g + n) (shortages-are gs (and-right _ _ h))
      ∙ sym (sum_by-cons (shortage_cost case a r) g gs)

  boards-are : column sums.boards.items r case.boards ≡ board_units case a r
  boards-are = column-is case a (λ s. s.board) case.boards sums.boards.items are.boards r small

  -- the terms, by what was read of the tables
  pub terms-are : (want : Want) (boards centers : List ℕ) (buffer spread most over short : ℕ) → want ≡ want_of case r → boards ≡ sums.boards.items → centers ≡ sums.centers.items
      → buffer ≡ want.buffer_weight → spread ≡ want.spread_weight → most ≡ greatest (column boards r case.boards) → over ≡ excess want.spread_limit (column boards r case.boards)
      → short ≡ sum_by (shortage_by centers r) (want_of case r).near → buffer * most + spread * over + short ≡ terms_cost case a r
  terms-are want boards centers buffer spread most over short w bs cs b s m o h =
      let us = board_units case a r in
      let reads : column boards r case.boards ≡ us = ap (λ (xs : List ℕ). column xs r case.boards) bs ∙ boards-are in
      let first : buffer ≡ (want_of case r).buffer_weight = b ∙ ap (λ (x : Want). x.buffer_weight) w in
      let second : spread ≡ (want_of case r).spread_weight = s ∙ ap (λ (x : Want). x.spread_weight) w in
      let third : most ≡ greatest us = m ∙ ap greatest reads in
      let fourth : over ≡ excess (want_of case r).spread_limit us = o ∙ ap (excess want.spread_limit) reads ∙ ap (λ (x : Want). excess x.spread_limit us) w in
      let fifth : short ≡ sum_by (shortage_cost case a r) (want_of case r).near =
      h ∙ ap (λ (xs : List ℕ). sum_by (shortage_by xs r) (want_of case r).near) cs ∙ shortages-are (want_of case r).near (near-in_range case r there) in
      ap (λ n. n * most + spread * over + short) first
      ∙ ap (λ n. (want_of case r).buffer_weight * n + spread * over + short) third
      ∙ ap (λ n. (want_of case r).buffer_weight * greatest us + n * over + short) second
      ∙ ap (λ n. (want_of case r).buffer_weight * greatest us + (want_of case r).spread_weight * n + short) fourth
      ∙ ap (λ n. (want_of case r).buffer_weight * greatest us + (want_of case r).spread_weight * excess (want_of case r).spread_limit us + n) fifth

  pub rack-is : (cells : List ℕ) (rack : ℕ) → rack < case.racks → cells ≡ sums.racks.items → cell cells rack r ≡ units_on_rack case a r rack
  rack-is cells rack within same = ap (λ (xs : List ℕ). cell xs rack r) same ∙ are.racks.counted rack r within small

  pub total-is : (cells : List ℕ) → cells ≡ sums.all.items → cell cells 0 r ≡ units case a r
  total-is cells same =
      let one : 0 < 1 = omega arith in
      ap (λ (xs : List ℕ). cell xs 0 r) same ∙ are.all.counted 0 r one small ∙ units-of_all case a r
