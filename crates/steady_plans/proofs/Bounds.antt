-- How large sums are, and where a server stands.
use Rattle.std.proofs.Common.{◌≡◌, ℕ, ◌+◌, ◌*◌, ◌<◌, ◌≤◌, ◌==◌, Bool, true, false, cond, List, length, get_or, arith}
use Rattle.std.proofs.lemmas.List.Sums.{sum_by-le}
use Rattle.std.proofs.lemmas.Slice.Zip.{length-zip}
use Rattle.std.proofs.lemmas.Bool.Decides.{nat_tests}
use Rattle.plan_model.specs.declared.cases.Place.{Place}
use Rattle.plan_model.specs.declared.cases.Case.{Case}
use Rattle.plan_model.specs.declared.cases.Assignment.{Assignment}
use Rattle.plan_model.specs.Units.{share_of, units, servers_with_places, value_for, is_for, place_of}
use Rattle.plan_model.proofs.SumLemmas.{value-most, few-places, sum_by-filter-le}
use Rattle.plan_model.proofs.CaseFacts.{few-wants}
use Rattle.steady_plans.specs.Tables.{IsTable}
use Rattle.steady_plans.proofs.Costs.{place-in_range}

amount-most : (b : Bool) (n : ℕ) → n ≤ 1000 → cond b n 0 ≤ 1000
amount-most true n h = h
amount-most false n h = omega arith

pub units-bound : (case : Case) (a : Assignment) (r : ℕ) → length a.of ≡ length case.places → r < length case.wants → units case a r ≤ 20000000
units-bound case a r size within =
    omega (
      arith,
      sum_by-le (share_of case r) 1000 (servers_with_places case a)
          (λ k d inside. let s = get_or (servers_with_places case a) k d in amount-most (is_for r s.1) (value_for case r s.0.kind) (value-most case r s.0.kind within)),
      length-zip case.places a.of,
      few-places case,
      size,
    )

pub reservation-small : (case : Case) (r : ℕ) → r < length case.wants → r < 64
reservation-small case r within = omega (arith, few-wants case, within)

pub cell-most : (case : Case) (a : Assignment) (number : Place → ℕ) (count : ℕ) (cells : List ℕ) → IsTable case a number count cells → length a.of ≡ length case.places
    → (n r : ℕ) → n < count → r < length case.wants → get_or cells (n * 64 + r) 0 ≤ 20000000
cell-most case a number count cells table size n r within there =
    let is = table.counted n r within (reservation-small case r there) in
    let less = sum_by-filter-le (λ s. number s.0 == n) (share_of case r) (servers_with_places case a) in
    omega (arith, is, less, units-bound case a r size there)

pub cell-within : (case : Case) (a : Assignment) (number : Place → ℕ) (count : ℕ) (cells : List ℕ) → IsTable case a number count cells
    → (n r : ℕ) → n < count → r < length case.wants → n * 64 + r < length cells
cell-within case a number count cells table n r within there = omega (arith, table.size, within, reservation-small case r there)

pub board-in_range : (case : Case) (s : ℕ) → s < length case.places → (place_of case s).board < case.boards
board-in_range case s within = let ranged = place-in_range case s within in grind (arith, nat_tests, ranged)

pub center-in_range : (case : Case) (s : ℕ) → s < length case.places → (place_of case s).center < case.centers
center-in_range case s within = let ranged = place-in_range case s within in grind (arith, nat_tests, ranged)
