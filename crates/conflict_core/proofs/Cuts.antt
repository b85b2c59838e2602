-- Sets without the members from one place to before another.
use Rattle.std.proofs.Common.{◌≡◌, ℕ, zero, suc, ◌++◌, ◌<◌, ◌≤◌, Bool, true, List, [], ◌∷◌, get_or, take, arith, refl}
use Rattle.std.specs.Prelude.{nat_lt, drop, All}
use Rattle.std.specs.List.{list_all}
use Rattle.std.proofs.lemmas.Bool.Decides.{nat_tests}
use Rattle.std.proofs.lemmas.List.Elements.{All-get_or, All-from_get_or}
use Rattle.plan_model.proofs.CaseFacts.{list_all-at, and-left, and-right}
use Rattle.plan_model.proofs.JoinRule.{both}
use Rattle.conflict_core.specs.Kept.{rises, AreMembers}
use Rattle.conflict_core.proofs.KeepRule.{all-at}

all-drop : (test : ℕ → Bool) (xs : List ℕ) (n : ℕ) → list_all test xs ≡ true → list_all test (drop n xs) ≡ true
all-drop test xs zero all = all
all-drop test [] (suc n) all = refl
all-drop test (x ∷ xs) (suc n) all = all-drop test xs n (and-right _ _ all)

all-cut : (test : ℕ → Bool) (xs : List ℕ) (from to : ℕ) → from ≤ to → list_all test xs ≡ true → list_all test (take from xs ++ drop to xs) ≡ true
all-cut test xs zero to order all = all-drop test xs to all
all-cut test xs (suc from) zero order all = absurd (omega (arith, order))
all-cut test [] (suc from) (suc to) order all = refl
all-cut test (x ∷ xs) (suc from) (suc to) order all =
    both (test x) (list_all test (take from xs ++ drop to xs)) (and-left _ _ all) (all-cut test xs from to (omega (arith, order)) (and-right _ _ all))

rises-drop : (xs : List ℕ) (n : ℕ) → rises xs ≡ true → rises (drop n xs) ≡ true
rises-drop xs zero h = h
rises-drop [] (suc n) h = refl
rises-drop (x ∷ xs) (suc n) h = rises-drop xs n (and-right _ _ h)

rises-cut : (xs : List ℕ) (from to : ℕ) → from ≤ to → rises xs ≡ true → rises (take from xs ++ drop to xs) ≡ true
rises-cut xs zero to order h = rises-drop xs to h
rises-cut xs (suc from) zero order h = absurd (omega (arith, order))
rises-cut [] (suc from) (suc to) order h = refl
rises-cut (x ∷ xs) (suc from) (suc to) order h =
    both (list_all (nat_lt x) (take from xs ++ drop to xs)) (rises (take from xs ++ drop to xs)) (all-cut (nat_lt x) xs from to (omega (arith, order)) (and-left _ _ h))
    (rises-cut xs from to (omega (arith, order)) (and-right _ _ h))

below : (xs : List ℕ) (count : ℕ) → list_all (λ r. nat_lt r count) xs ≡ true → All (λ r. r < count) xs
below xs count all =
    All-from_get_or (λ r. r < count) xs 0
    (λ i within. let one : nat_lt (get_or xs i 0) count ≡ true = list_all-at (λ r. nat_lt r count) xs i 0 within all in grind (arith, nat_tests, one))

above : (xs : List ℕ) (count : ℕ) → All (λ r. r < count) xs → list_all (λ r. nat_lt r count) xs ≡ true
above xs count there =
    all-at (λ r. nat_lt r count) xs
    (λ i within. let one : get_or xs i 0 < count = All-get_or (λ r. r < count) xs i 0 within there in grind (arith, nat_tests, one))

-- what is left of a set is a set
pub members-cut : (members : List ℕ) (from to count : ℕ) → from ≤ to → AreMembers count members → AreMembers count (take from members ++ drop to members)
members-cut members from to count order those = record {
  rising = rises-cut members from to order those.rising;
  there = below (take from members ++ drop to members) count (all-cut (λ r. nat_lt r count) members from to order (above members count those.there));
}
