-- The units of a reservation in any part are at most 20,000,000.
use Rattle.std.proofs.Common.{ℕ, ◌<◌, ◌≤◌, length, arith}
use Rattle.std.specs.Prelude.{IsTrue, ◌==◌}
use Rattle.plan_model.specs.declared.cases.Case.{Case}
use Rattle.plan_model.specs.declared.cases.Assignment.{Assignment}
use Rattle.plan_model.specs.Allowed.{fits}
use Rattle.plan_model.specs.Units.{share_of, servers_with_places, units_on_board, units_on_rack, units_in_center}
use Rattle.plan_model.proofs.SumLemmas.{length-fits, sum_by-filter-le}
use Rattle.program_rows.proofs.BaseLimit.{units-few}

pub board-most : (case : Case) (a : Assignment) (r board : ℕ) → IsTrue (fits case a) → r < length case.wants → units_on_board case a r board ≤ 20000000
board-most case a r board fit there =
    let less = sum_by-filter-le (λ s. s.0.board == board) (share_of case r) (servers_with_places case a) in
    let few = units-few case a (length-fits case a fit) r there in
    omega (arith, less, few)

pub rack-most : (case : Case) (a : Assignment) (r rack : ℕ) → IsTrue (fits case a) → r < length case.wants → units_on_rack case a r rack ≤ 20000000
rack-most case a r rack fit there =
    let less = sum_by-filter-le (λ s. s.0.rack == rack) (share_of case r) (servers_with_places case a) in
    let few = units-few case a (length-fits case a fit) r there in
    omega (arith, less, few)

pub center-most : (case : Case) (a : Assignment) (r center : ℕ) → IsTrue (fits case a) → r < length case.wants → units_in_center case a r center ≤ 20000000
center-most case a r center fit there =
    let less = sum_by-filter-le (λ s. s.0.center == center) (share_of case r) (servers_with_places case a) in
    let few = units-few case a (length-fits case a fit) r there in
    omega (arith, less, few)
