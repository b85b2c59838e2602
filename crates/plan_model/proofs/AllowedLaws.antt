-- What an allowed assignment gives each reservation.
use Rattle.std.proofs.Common.{◌≡◌, ℕ, zero, suc, set, ◌≤◌, ◌==◌, ◌+◌, ◌<◌, Bool, true, false, cond, List, [], ◌∷◌, get_or, length, arith, ap, sym, ◌∙◌, refl, zero-add}
use Rattle.std.specs.Prelude.{◌&&◌, nat_le, nat_lt, not, is_some, position, Option, Some, None, IsTrue, sum_by, zip, filter, map, ◌-◌}
use Rattle.std.specs.List.{list_all, range_with_len, prefix_len}
use Rattle.std.proofs.lemmas.Bool.Decides.{nat_tests}
use Rattle.std.proofs.lemmas.List.Folds.{list_all-map}
use Rattle.std.proofs.lemmas.List.FromFn.{length-range_with_len, get_or-range_with_len}
use Rattle.plan_model.specs.Units.{want_of, units, units_where, share_of, servers_with_places, place_of, no_place}
use Rattle.plan_model.specs.Allowed.{keeps_need, survives, fits, first_lost, first_loss}
use Rattle.plan_model.specs.Losses.{is_lost, losses_named, loss_at, named_losses, losses}
use Rattle.plan_model.specs.declared.losses.Lost.{Lost}
use Rattle.plan_model.specs.declared.losses.Lost.TheVariants.{Total}
use Rattle.ras_requests.specs.declared.requests.Protection.{Protection}
use Rattle.plan_model.specs.declared.cases.Case.{Case}
use Rattle.plan_model.specs.declared.cases.Assignment.{Assignment}
use Rattle.plan_model.specs.Laws.{AllowedSurvivesLosses, TakingAwayNeverRaises, NoServersNoNeed, without_server}
use Rattle.plan_model.specs.declared.cases.Place.{Place}
use Rattle.plan_model.proofs.SumLemmas.{length-fits, sum_by-filter}
use Rattle.std.proofs.lemmas.List.Sums.{sum_by-set}
use Rattle.std.proofs.lemmas.Slice.Zip.{length-zip}
use Rattle.plan_model.proofs.CaseFacts.{list_all-at, and-left, and-right}

-- what holds of all numbers below n holds of one
pub list_all-range_at : (test : ℕ → Bool) (n i : ℕ) → list_all test (range_with_len 0 n) ≡ true → i < n → test i ≡ true
list_all-range_at test n i all within =
    let at : get_or (range_with_len 0 n) i 0 ≡ i = get_or-range_with_len 0 n i 0 within ∙ zero-add i in
    let inside : i < length (range_with_len 0 n) = omega (arith, length-range_with_len 0 n) in
    sym (ap test at) ∙ list_all-at test (range_with_len 0 n) i 0 inside all

-- where nothing is lost, what is lost is nothing
nothing-lost : (f : Place × Option ℕ → ℕ) (xs : List (Place × Option ℕ)) → sum_by f (filter (λ s. is_lost Total s.0) xs) ≡ 0
nothing-lost f [] = refl
nothing-lost f (x ∷ xs) = nothing-lost f xs

pub lost-nothing : (case : Case) (a : Assignment) (r : ℕ) (lost : Lost) → lost ≡ Total → 0 ≡ units_where (is_lost lost) case a r
lost-nothing case a r lost e =
    sym (ap (λ l. units_where (is_lost l) case a r) e ∙ nothing-lost (share_of case r) (servers_with_places case a))

pub survives-total : (case : Case) (a : Assignment) (r : ℕ) → survives case a r Total ≡ nat_le (want_of case r).need (units case a r)
survives-total case a r =
    let all : units case a r - 0 ≡ units case a r = omega arith in
    ap (λ n. nat_le (want_of case r).need (units case a r - n)) (nothing-lost (share_of case r) (servers_with_places case a)) ∙ ap (nat_le (want_of case r).need) all

-- a reservation that keeps its need survives each loss that its protection names
pub keeps-survives : (case : Case) (a : Assignment) (r number : ℕ) → keeps_need case a r ≡ true → number < losses_named case (want_of case r).protection
    → survives case a r (loss_at (want_of case r).protection number) ≡ true
keeps-survives case a r number keeps within =
    let p = (want_of case r).protection in
    let named : list_all (survives case a r) (map (loss_at p) (range_with_len 0 (losses_named case p))) ≡ true = and-right (survives case a r Total) _ keeps in
    list_all-range_at (λ n. survives case a r (loss_at p n)) (losses_named case p) number
    (sym (list_all-map (survives case a r) (loss_at p) (range_with_len 0 (losses_named case p))) ∙ named) within

pub keeps-total : (case : Case) (a : Assignment) (r : ℕ) → keeps_need case a r ≡ true → nat_le (want_of case r).need (units case a r) ≡ true
keeps-total case a r keeps = sym (survives-total case a r) ∙ and-left (survives case a r Total) (list_all (survives case a r) (named_losses case r)) keeps

and-both : (a b : Bool) → a ≡ true → b ≡ true → (a && b) ≡ true
and-both true b e h = h
and-both false b e h = e

all-range : (test : ℕ → Bool) (a n : ℕ) → ((i : ℕ) → a ≤ i → i < a + n → test i ≡ true) → list_all test (range_with_len a n) ≡ true
all-range test a zero each = refl
all-range test a (suc n) each =
    and-both (test a) (list_all test (range_with_len (a + 1) n)) (each a (omega arith) (omega arith)) (all-range test (a + 1) n (λ i low high. each i (omega arith) (omega arith)))

-- and one that has enough and survives each loss that its protection names keeps its need
pub keeps-from : (case : Case) (a : Assignment) (r : ℕ) → (want_of case r).need ≤ units case a r
    → ((number : ℕ) → number < losses_named case (want_of case r).protection
    → (want_of case r).need ≤ units case a r - units_where (is_lost (loss_at (want_of case r).protection number)) case a r)
    → keeps_need case a r ≡ true
keeps-from case a r enough each =
    let p = (want_of case r).protection in
    let total : nat_le (want_of case r).need (units case a r) ≡ true = grind (arith, nat_tests, enough) in
    and-both (survives case a r Total) (list_all (survives case a r) (named_losses case r)) (survives-total case a r ∙ total)
    (list_all-map (survives case a r) (loss_at p) (range_with_len 0 (losses_named case p))
    ∙ all-range (λ number. survives case a r (loss_at p number)) 0 (losses_named case p)
    (λ number low high. let left = each number (omega arith) in grind (arith, nat_tests, left)))

pub allowed-survives : AllowedSurvivesLosses
allowed-survives case a r number allowed within there =
    let keeps : keeps_need case a r ≡ true = list_all-range_at (keeps_need case a) (length case.wants) r (and-right _ _ allowed) within in
    let total : nat_le (want_of case r).need (units case a r) ≡ true = keeps-total case a r keeps in
    let loss : survives case a r (loss_at (want_of case r).protection number) ≡ true = keeps-survives case a r number keeps there in
    (grind (arith, nat_tests, total), grind (arith, nat_tests, loss))

is_some-cond : (b : Bool) (n : ℕ) → is_some (cond b (Some n) None) ≡ b
is_some-cond true n = refl
is_some-cond false n = refl

one-element : (b all : Bool) (n m : ℕ) → all ≡ not (nat_lt n m) → (b && all) ≡ not (nat_lt (cond (not (not b)) (1 + n) 0) (suc m))
one-element true all n m h = let next : nat_lt n m ≡ nat_lt (1 + n) (suc m) = grind (arith, nat_tests) in h ∙ ap not next
one-element false all n m h = let first : nat_lt 0 (suc m) ≡ true = grind (arith, nat_tests) in sym (ap not first)

list_all-prefix : {X : Type 0} (test : X → Bool) (xs : List X) → list_all test xs ≡ not (nat_lt (prefix_len (λ x. not (not (test x))) xs) (length xs))
list_all-prefix test [] = refl
list_all-prefix test (x ∷ xs) =
    one-element (test x) (list_all test xs) (prefix_len (λ y. not (not (test y))) xs) (length xs) (list_all-prefix test xs)

-- a test holds of every element exactly where there is no first one at which it fails
pub list_all-position : {X : Type 0} (test : X → Bool) (xs : List X) → list_all test xs ≡ not (is_some (position (λ x. not (test x)) xs))
list_all-position test xs =
    list_all-prefix test xs
    ∙ ap not (sym (is_some-cond (nat_lt (prefix_len (λ x. not (not (test x))) xs) (length xs)) (prefix_len (λ x. not (not (test x))) xs)))

one-lost : (b all : Bool) (lost : Lost) (rest : Option Lost) → all ≡ not (is_some rest) → (b && all) ≡ not (is_some (cond b rest (Some lost)))
one-lost true all lost rest h = h
one-lost false all lost rest h = refl

-- every loss is survived exactly where none is the first that is not
pub all-no_loss : (case : Case) (a : Assignment) (r : ℕ) (ls : List Lost) → list_all (survives case a r) ls ≡ not (is_some (first_lost case a r ls))
all-no_loss case a r [] = refl
all-no_loss case a r (lost ∷ ls) = one-lost (survives case a r lost) (list_all (survives case a r) ls) lost (first_lost case a r ls) (all-no_loss case a r ls)

-- a reservation keeps its need exactly where there is no first loss
pub keeps-no_loss : (case : Case) (a : Assignment) (r : ℕ) → keeps_need case a r ≡ not (is_some (first_loss case a r))
keeps-no_loss case a r = all-no_loss case a r (losses case r)

-- the first loss is that of nothing where the units are too few, and else one of those that are named
pub first-total : (case : Case) (a : Assignment) (r : ℕ) → units case a r < (want_of case r).need → first_loss case a r ≡ Some Total
first-total case a r few =
    let total : nat_le (want_of case r).need (units case a r) ≡ false = grind (arith, nat_tests, few) in
    ap (λ b. cond b (first_lost case a r (named_losses case r)) (Some Total)) (survives-total case a r ∙ total)

pub first-named : (case : Case) (a : Assignment) (r : ℕ) → (want_of case r).need ≤ units case a r → first_loss case a r ≡ first_lost case a r (named_losses case r)
first-named case a r enough =
    let total : nat_le (want_of case r).need (units case a r) ≡ true = grind (arith, nat_tests, enough) in
    ap (λ b. cond b (first_lost case a r (named_losses case r)) (Some Total)) (survives-total case a r ∙ total)

-- what is left after a loss, as it is computed
pub loss-fails : (case : Case) (a : Assignment) (r : ℕ) (lost : Lost) (need all gone : ℕ) → need ≡ (want_of case r).need → all ≡ units case a r
    → gone ≡ units_where (is_lost lost) case a r → all - gone < need → survives case a r lost ≡ false
loss-fails case a r lost need all gone n u g h = grind (arith, nat_tests, n, u, g, h)

pub loss-passes : (case : Case) (a : Assignment) (r : ℕ) (lost : Lost) (need all gone : ℕ) → need ≡ (want_of case r).need → all ≡ units case a r
    → gone ≡ units_where (is_lost lost) case a r → need ≤ all - gone → survives case a r lost ≡ true
loss-passes case a r lost need all gone n u g h = grind (arith, nat_tests, n, u, g, h)

-- the losses from a number on
pub lost-from : (case : Case) (a : Assignment) (r : ℕ) (p : Protection) (number count : ℕ) → number < count
    → first_lost case a r (map (loss_at p) (range_with_len number (count - number)))
    ≡ cond (survives case a r (loss_at p number)) (first_lost case a r (map (loss_at p) (range_with_len (number + 1) (count - (number + 1))))) (Some (loss_at p number))
lost-from case a r p number count within =
    let one : count - number ≡ suc (count - (number + 1)) = omega arith in
    ap (λ n. first_lost case a r (map (loss_at p) (range_with_len number n))) one

-- a list side by side with one of which an element changes
zip-set : {X Y : Type 0} (xs : List X) (ys : List Y) (i : ℕ) (y : Y) (d : X) → i < length xs → zip xs (set ys i y) ≡ set (zip xs ys) i (get_or xs i d, y)
zip-set [] ys i y d within = absurd (omega arith)
zip-set (x ∷ xs) [] i y d within = refl
zip-set (x ∷ xs) (z ∷ ys) zero y d within = refl
zip-set (x ∷ xs) (z ∷ ys) (suc i) y d within = ap (λ rest. (x, z) ∷ rest) (zip-set xs ys i y d (omega arith))

nothing-counts : (m n : ℕ) → ◌≡◌ {A = ℕ} (cond (m == n) 0 0) 0
nothing-counts m n = none-of (m == n)
  where
    none-of : (b : Bool) → ◌≡◌ {A = ℕ} (cond b 0 0) 0
    none-of true = refl
    none-of false = refl

-- a sum of shares without one server
sum-without : (case : Case) (a : Assignment) (f : Place × Option ℕ → ℕ) (s : ℕ) → IsTrue (fits case a) → s < length case.places
    → f (place_of case s, None) ≡ 0 → sum_by f (servers_with_places case (without_server a s)) ≤ sum_by f (servers_with_places case a)
sum-without case a f s fitting within nothing =
    let same = length-fits case a fitting in
    let pairs : servers_with_places case (without_server a s) ≡ set (servers_with_places case a) s (place_of case s, None) = zip-set case.places a.of s None no_place within in
    omega (arith, ap (sum_by f) pairs, nothing, sum_by-set f (servers_with_places case a) s (place_of case s, None) (no_place, None) (omega (arith, length-zip case.places a.of)))

pub taking-away : TakingAwayNeverRaises
taking-away case a s r board fitting within =
    let here = sum_by-filter (λ t. t.0.board == board) (share_of case r) (servers_with_places case a) in
    let there = sum_by-filter (λ t. t.0.board == board) (share_of case r) (servers_with_places case (without_server a s)) in (
      sum-without case a (share_of case r) s fitting within refl,
      omega (arith, here, there, sum-without case a (λ t. cond (t.0.board == board) (share_of case r t) 0) s fitting within (nothing-counts (place_of case s).board board)),
    )

pub no-servers : NoServersNoNeed
no-servers case a r none needed =
    let nothing : units case a r ≡ 0 = ap (λ ps. sum_by (share_of case r) (zip ps a.of)) none in
    let few : nat_le (want_of case r).need (units case a r) ≡ false = grind (arith, nat_tests, nothing, needed) in
    ap (λ b. b && list_all (survives case a r) (named_losses case r)) (survives-total case a r ∙ few)
