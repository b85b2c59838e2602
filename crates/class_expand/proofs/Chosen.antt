-- The reservations that are chosen are there, each at most once.
use Rattle.std.proofs.Common.{◌≡◌, ℕ, zero, suc, ◌+◌, ◌<◌, ◌≤◌, Bool, true, false, cond, List, [], ◌∷◌, length, get_or, take, arith, ap, ◌∙◌, refl}
use Rattle.std.specs.Prelude.{sum_by, filter, fold, nat_lt, ◌==◌}
use Rattle.std.specs.List.{range_with_len}
use Rattle.std.proofs.lemmas.List.Sums.{sum_by-cons}
use Rattle.std.proofs.lemmas.Bool.Decides.{nat_tests}
use Rattle.plan_model.specs.declared.cases.Case.{Case}
use Rattle.plan_model.specs.declared.cases.Assignment.{Assignment}
use Rattle.plan_model.specs.Units.{all_reservations}
use Rattle.plan_model.specs.Costs.{rack_excess}
use Rattle.plan_model.proofs.SumLemmas.{sum_by-filter-le}
use Rattle.symmetry_classes.proofs.Partition.{sum_by-zero}
use Rattle.program_rows.specs.Choice.{insert_by_key, longest_prefix, ranking, chosen_of, rack_program_fits}
use Rattle.program_rows.proofs.RangeSums.{once-in_range, none-in_range}
use Rattle.program_rows.proofs.PhaseSums.{zero-all, same-all}
use Rattle.program_rows.proofs.PhaseCosts.{passed}
use Rattle.class_expand.specs.PhaseLaws.{ChosenAreThere}
use Rattle.program_rows.proofs.Lists.{All-range_to}

sum-take : {X : Type 0} (f : X → ℕ) (n : ℕ) (xs : List X) → sum_by f (take n xs) ≤ sum_by f xs
sum-take f zero xs = omega arith
sum-take f (suc n) [] = omega arith
sum-take f (suc n) (x ∷ xs) = omega (arith, sum_by-cons f x (take n xs), sum_by-cons f x xs, sum-take f n xs)

sum-prefix : (f : ℕ → ℕ) (test : List ℕ → Bool) (rs : List ℕ) (n : ℕ) → sum_by f (longest_prefix test rs n) ≤ sum_by f rs
sum-prefix f test rs zero = omega arith
sum-prefix f test rs (suc n) =
    let step : (b : Bool) → sum_by f (cond b (take (suc n) rs) (longest_prefix test rs n)) ≤ sum_by f rs =
    λ b. elim b as (λ v. sum_by f (cond v (take (suc n) rs) (longest_prefix test rs n)) ≤ sum_by f rs) [ true ↦ sum-take f (suc n) rs | false ↦ sum-prefix f test rs n ] in
    step (test (take (suc n) rs))

sum-insert : (f key : ℕ → ℕ) (qs : List ℕ) (r : ℕ) → sum_by f (insert_by_key key qs r) ≡ f r + sum_by f qs
sum-insert f key [] r = sum_by-cons f r []
sum-insert f key (q ∷ qs) r =
    let step : (b : Bool) → sum_by f (cond b (r ∷ q ∷ qs) (q ∷ insert_by_key key qs r)) ≡ f r + sum_by f (q ∷ qs) =
    λ b. elim b as (λ v. sum_by f (cond v (r ∷ q ∷ qs) (q ∷ insert_by_key key qs r)) ≡ f r + sum_by f (q ∷ qs))
    [ true ↦ sum_by-cons f r (q ∷ qs) | false ↦ omega (arith, sum_by-cons f q (insert_by_key key qs r), sum_by-cons f q qs, sum-insert f key qs r) ] in
    step (nat_lt (key q) (key r))

sum-fold : (f key : ℕ → ℕ) (xs qs : List ℕ) → sum_by f (fold (insert_by_key key) qs xs) ≡ sum_by f qs + sum_by f xs
sum-fold f key [] qs = omega arith
sum-fold f key (x ∷ xs) qs =
    sum-fold f key xs (insert_by_key key qs x) ∙ omega (arith, sum-insert f key qs x, sum_by-cons f x xs)

-- a sum over the chosen reservations is at most the sum over all
sum-chosen : (f : ℕ → ℕ) (case : Case) (region : Assignment) (most : ℕ) → sum_by f (chosen_of case region most) ≤ sum_by f (all_reservations case)
sum-chosen f case region most =
    let key = rack_excess case region in
    let some = filter (λ r. nat_lt 0 (key r)) (all_reservations case) in
    let rs = take most (ranking case region) in
    let prefix = sum-prefix f (rack_program_fits case region) rs (length rs) in
    let few = sum-take f most (ranking case region) in
    let sorted : sum_by f (ranking case region) ≡ 0 + sum_by f some = sum-fold f key some [] in
    let less = sum_by-filter-le (λ r. nat_lt 0 (key r)) f (all_reservations case) in
    omega (arith, prefix, few, sorted, less)

in_range-most : (n r : ℕ) (b : Bool) → nat_lt r n ≡ b → sum_by (λ q. cond (q == r) 1 0) (range_with_len 0 n) ≤ 1
in_range-most n r true e = let within : r < n = grind (arith, nat_tests, e) in let once = once-in_range n r within in omega (arith, once)
in_range-most n r false e = let past : n ≤ r = grind (arith, nat_tests, e) in let none = none-in_range n r past in omega (arith, none)

lt-from : (m n : ℕ) → nat_lt m n ≡ true → m < n
lt-from m n h = grind (arith, nat_tests)

lt-true : (m n : ℕ) → m < n → nat_lt m n ≡ true
lt-true m n h = grind (arith, nat_tests)

pub chosen-there : ChosenAreThere
chosen-there case region most =
    let n = length case.wants in
    let outside : ℕ → ℕ = λ r. cond (nat_lt r n) 0 1 in
    let chosen = chosen_of case region most in
    let none : sum_by outside (all_reservations case) ≡ 0 =
    same-all outside (λ _. 0) (all_reservations case) (All-range_to (λ r. outside r ≡ 0) n (λ r within. ap (λ b. cond b 0 1) (lt-true r n within)))
    ∙ sum_by-zero (λ _. 0) (λ _. refl) (all_reservations case) in
    let less = sum-chosen outside case region most in
    let zeros = zero-all outside chosen (omega (arith, none, less)) in
    record {
      there = λ k d inside. lt-from (get_or chosen k d) n (passed (nat_lt (get_or chosen k d) n) (zeros k d inside));
      once = λ r. let few = sum-chosen (λ q. cond (q == r) 1 0) case region most in let one = in_range-most n r (nat_lt r n) refl in omega (arith, few, one);
    }
