-- Sums over two lists side by side, and over parts of a list.
use Rattle.std.proofs.Common.{◌≡◌, ℕ, zero, suc, ◌+◌, ◌<◌, ◌≤◌, Bool, true, false, cond, List, [], ◌∷◌, length, take, get_or, arith, ap, sym, ◌∙◌, refl}
use Rattle.std.specs.Prelude.{sum_by, zip, IsTrue, filter, not, Option, nat_le}
use Rattle.plan_model.specs.declared.cases.Place.{Place}
use Rattle.plan_model.specs.Units.{share_of, units, servers_with_places, value_for, want_of, is_for}
use Rattle.std.proofs.lemmas.List.Sums.{sum_by_more, sum_by-cons, sum_by-le}
use Rattle.std.proofs.lemmas.List.Filters.{sum_by-filter_both}
use Rattle.std.proofs.lemmas.List.{take_all}
use Rattle.std.proofs.lemmas.Slice.Zip.{get_or-zip, length-zip}
use Rattle.std.proofs.lemmas.Bool.Decides.{nat_tests}
use Rattle.plan_model.specs.declared.cases.Case.{Case}
use Rattle.plan_model.specs.declared.cases.Assignment.{Assignment}
use Rattle.plan_model.specs.Allowed.{fits}
use Rattle.plan_model.proofs.CaseFacts.{want-in_range, and-left, and-right}
use Rattle.std.specs.List.{list_all}

-- the sum over the first pairs, one pair on
pub sum_by-zip_more : {X Y : Type 0} (f : X × Y → ℕ) (xs : List X) (ys : List Y) (i : ℕ) (d : X) (e : Y) → i < length xs → i < length ys
    → sum_by f (take (i + 1) (zip xs ys)) ≡ sum_by f (take i (zip xs ys)) + f (get_or xs i d, get_or ys i e)
sum_by-zip_more f xs ys i d e p q =
    let within : i < length (zip xs ys) = omega (arith, length-zip xs ys) in
    sum_by_more f (zip xs ys) i (d, e) within ∙ ap (λ x. sum_by f (take i (zip xs ys)) + f x) (get_or-zip xs ys i (d, e) p q)

-- an assignment that fits has one place for each server
pub length-fits : (case : Case) (a : Assignment) → IsTrue (fits case a) → length a.of ≡ length case.places
length-fits case a h = grind (arith, nat_tests, h)

pub take-zip_all : {X Y : Type 0} (xs : List X) (ys : List Y) (n : ℕ) → length xs ≤ n → take n (zip xs ys) ≡ zip xs ys
take-zip_all xs ys n h = take_all n (zip xs ys) (omega (arith, length-zip xs ys))

-- the sum over what passes a test
pub sum_by-filter : {X : Type 0} (p : X → Bool) (f : X → ℕ) (xs : List X) → sum_by f (filter p xs) ≡ sum_by (λ x. cond (p x) (f x) 0) xs
sum_by-filter p f [] = refl
sum_by-filter p f (x ∷ xs) =
    let step : (b : Bool) → sum_by f (cond b (x ∷ filter p xs) (filter p xs)) ≡ cond b (f x) 0 + sum_by (λ y. cond (p y) (f y) 0) xs =
    λ b. elim b as (λ v. sum_by f (cond v (x ∷ filter p xs) (filter p xs)) ≡ cond v (f x) 0 + sum_by (λ y. cond (p y) (f y) 0) xs)
    [ true ↦ sum_by-cons f x (filter p xs) ∙ ap (λ n. f x + n) (sum_by-filter p f xs) | false ↦ omega (arith, sum_by-filter p f xs) ] in
    step (p x) ∙ sym (sum_by-cons (λ y. cond (p y) (f y) 0) x xs)

pub sum_by-filter-le : {X : Type 0} (p : X → Bool) (f : X → ℕ) (xs : List X) → sum_by f (filter p xs) ≤ sum_by f xs
sum_by-filter-le p f xs = omega (arith, sum_by-filter_both p (λ x. not (p x)) (λ _. refl) f xs)

-- a case has at most 20,000 servers
pub few-places : (case : Case) → length case.places ≤ 20000
few-places case = grind (arith, nat_tests, case.kept)

-- a reservation has at most 20,000,000 units
at_most_read : (xs : List ℕ) (k : ℕ) → list_all (λ v. nat_le v 1000) xs ≡ true → get_or xs k 0 ≤ 1000
at_most_read [] k all = omega arith
at_most_read (x ∷ xs) zero all = let here : nat_le x 1000 ≡ true = and-left _ _ all in grind (arith, nat_tests, here)
at_most_read (x ∷ xs) (suc k) all = at_most_read xs k (and-right _ _ all)

pub value-most : (case : Case) (r kind : ℕ) → r < length case.wants → value_for case r kind ≤ 1000
value-most case r kind within = at_most_read (want_of case r).values kind (and-right _ _ (and-left _ _ (and-left _ _ (want-in_range case r within))))

amount-most : (b : Bool) (n : ℕ) → n ≤ 1000 → cond b n 0 ≤ 1000
amount-most true n h = h
amount-most false n h = omega arith

share-most : (case : Case) (r : ℕ) (s : Place × Option ℕ) → r < length case.wants → share_of case r s ≤ 1000
share-most case r s within = amount-most (is_for r s.1) (value_for case r s.0.kind) (value-most case r s.0.kind within)

pub units-most : (case : Case) (a : Assignment) (r : ℕ) → IsTrue (fits case a) → r < length case.wants → units case a r ≤ 20000000
units-most case a r fitting within =
    let same = length-fits case a fitting in
    omega (arith, sum_by-le (share_of case r) 1000 (servers_with_places case a) (λ k d inside. share-most case r (get_or (servers_with_places case a) k d) within), length-zip case.places a.of, few-places case)
