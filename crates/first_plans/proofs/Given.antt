-- What changes when a server that has none is given to a reservation.
use Rattle.std.proofs.Common.{◌≡◌, ℕ, zero, suc, ◌+◌, ◌<◌, Bool, true, false, cond, List, [], ◌∷◌, length, get_or, set, arith, ap, sym, ◌∙◌, refl, Some, None, ◌==◌, nat_lt}
use Rattle.std.specs.Prelude.{Option, IsTrue, sum_by, zip, ◌&&◌, is_none, nat_le, ◌-◌}
use Rattle.std.specs.Option.{option_map_or}
use Rattle.std.specs.List.{list_all}
use Rattle.std.proofs.lemmas.Bool.Decides.{nat_tests}
use Rattle.std.proofs.lemmas.List.{length-set}
use Rattle.std.proofs.lemmas.List.Sums.{sum_by-set}
use Rattle.std.proofs.lemmas.List.Quantifiers.{position-Some}
use Rattle.std.proofs.lemmas.Slice.Zip.{get_or-zip, length-zip}
use Rattle.plan_model.specs.declared.cases.Place.{Place}
use Rattle.plan_model.specs.declared.cases.Case.{Case}
use Rattle.plan_model.specs.declared.cases.Assignment.{Assignment}
use Rattle.plan_model.specs.Units.{share_of, servers_with_places, units, units_where, value_for, want_of, place_of, no_place, server_with}
use Rattle.plan_model.specs.Allowed.{fits, serves, keeps_need, survives}
use Rattle.plan_model.specs.Losses.{is_lost, losses}
use Rattle.plan_model.specs.declared.losses.Lost.{Lost}
use Rattle.plan_model.proofs.CaseFacts.{and-left, and-right}
use Rattle.plan_model.proofs.SumLemmas.{sum_by-filter, length-fits}
use Rattle.first_plans.specs.FirstPlan.{given, may_be_taken, is_next, next_server}

pub both : (a b : Bool) → a ≡ true → b ≡ true → (a && b) ≡ true
both true b h k = k
both false b h k = h

pub all-set : {X : Type 0} (p : X → Bool) (xs : List X) (i : ℕ) (y : X) → list_all p xs ≡ true → p y ≡ true → list_all p (set xs i y) ≡ true
all-set p [] i y h k = refl
all-set p (x ∷ xs) zero y h k = both (p y) (list_all p xs) k (and-right (p x) (list_all p xs) h)
all-set p (x ∷ xs) (suc i) y h k = both (p x) (list_all p (set xs i y)) (and-left (p x) (list_all p xs) h) (all-set p xs i y (and-right (p x) (list_all p xs) h) k)

-- tests that agree at each element
pub list_all-same : {X : Type 0} (p q : X → Bool) (xs : List X) → ((x : X) → p x ≡ q x) → list_all p xs ≡ list_all q xs
list_all-same p q [] same = refl
list_all-same p q (x ∷ xs) same = ap (λ b. b && list_all p xs) (same x) ∙ ap (λ b. q x && b) (list_all-same p q xs same)

zip-set : {X Y : Type 0} (xs : List X) (ys : List Y) (i : ℕ) (y : Y) (d : X) → i < length xs → zip xs (set ys i y) ≡ set (zip xs ys) i (get_or xs i d, y)
zip-set [] ys i y d within = absurd (omega arith)
zip-set (x ∷ xs) [] i y d within = refl
zip-set (x ∷ xs) (z ∷ ys) zero y d within = refl
zip-set (x ∷ xs) (z ∷ ys) (suc i) y d within = ap (λ rest. (x, z) ∷ rest) (zip-set xs ys i y d (omega arith))

pub assigned-given : (case : Case) (a : Assignment) (s r : ℕ) → s < length case.places → servers_with_places case (given a s r) ≡ set (servers_with_places case a) s (place_of case s, Some r)
assigned-given case a s r within = zip-set case.places a.of s (Some r) no_place within

-- a server beside what it gets, read from the list of these
pub assigned-at : (case : Case) (a : Assignment) (s : ℕ) → IsTrue (fits case a) → s < length case.places → get_or (servers_with_places case a) s (no_place, None) ≡ server_with case a s
assigned-at case a s fitting within =
    let same = length-fits case a fitting in
    get_or-zip case.places a.of s (no_place, None) within (omega arith)

pub assigned-length : (case : Case) (a : Assignment) → IsTrue (fits case a) → length (servers_with_places case a) ≡ length case.places
assigned-length case a fitting = omega (arith, length-zip case.places a.of, length-fits case a fitting)

-- a sum to which a server gave nothing
sum-given : (f : Place × Option ℕ → ℕ) (case : Case) (a : Assignment) (s r : ℕ) → IsTrue (fits case a) → s < length case.places → get_or a.of s None ≡ None
    → f (place_of case s, None) ≡ 0
    → sum_by f (servers_with_places case (given a s r)) ≡ sum_by f (servers_with_places case a) + f (place_of case s, Some r)
sum-given f case a s r fitting within free nothing =
    let inside : s < length (servers_with_places case a) = omega (arith, within, assigned-length case a fitting) in
    let was : f (get_or (servers_with_places case a) s (no_place, None)) ≡ f (place_of case s, None) =
    ap f (assigned-at case a s fitting within) ∙ ap (λ (o : Option ℕ). f (place_of case s, o)) free in
    omega (arith, ap (sum_by f) (assigned-given case a s r within), was, nothing, sum_by-set f (servers_with_places case a) s (place_of case s, Some r) (no_place, None) inside)

nothing-counts : (b : Bool) → ◌≡◌ {A = ℕ} (cond b 0 0) 0
nothing-counts true = refl
nothing-counts false = refl

pub units-given : (case : Case) (a : Assignment) (s r q : ℕ) → IsTrue (fits case a) → s < length case.places → get_or a.of s None ≡ None
    → units case (given a s r) q ≡ units case a q + cond (r == q) (value_for case q (place_of case s).kind) 0
units-given case a s r q fitting within free = sum-given (share_of case q) case a s r fitting within free refl

pub where-given : (test : Place → Bool) (case : Case) (a : Assignment) (s r q : ℕ) → IsTrue (fits case a) → s < length case.places → get_or a.of s None ≡ None
    → units_where test case (given a s r) q ≡ units_where test case a q + cond (test (place_of case s)) (cond (r == q) (value_for case q (place_of case s).kind) 0) 0
where-given test case a s r q fitting within free =
    omega (
      arith,
      sum_by-filter (λ t. test t.0) (share_of case q) (servers_with_places case a),
      sum_by-filter (λ t. test t.0) (share_of case q) (servers_with_places case (given a s r)),
      sum-given (λ t. cond (test t.0) (share_of case q t) 0) case a s r fitting within free (nothing-counts (test (place_of case s))),
    )

-- any other reservation keeps what it has, in all and after each loss
pub other-keeps : (case : Case) (a : Assignment) (s r q : ℕ) → IsTrue (fits case a) → s < length case.places → get_or a.of s None ≡ None → (r == q) ≡ false
    → keeps_need case (given a s r) q ≡ keeps_need case a q
other-keeps case a s r q fitting within free other =
    let none : cond (r == q) (value_for case q (place_of case s).kind) 0 ≡ 0 = ap (λ (b : Bool). let n : ℕ = cond b (value_for case q (place_of case s).kind) 0 in n) other in
    let all : units case (given a s r) q ≡ units case a q = omega (arith, units-given case a s r q fitting within free, none) in
    let lost : (lost : Lost) → units_where (is_lost lost) case (given a s r) q ≡ units_where (is_lost lost) case a q =
    λ lost. omega (
      arith,
      where-given (is_lost lost) case a s r q fitting within free,
      ap (λ (n : ℕ). let k : ℕ = cond (is_lost lost (place_of case s)) n 0 in k) none,
      nothing-counts (is_lost lost (place_of case s)),
    ) in
    list_all-same (survives case (given a s r) q) (survives case a q) (losses case q)
    (λ l. ap (λ n. nat_le (want_of case q).need (n - units_where (is_lost l) case (given a s r) q)) all ∙ ap (λ n. nat_le (want_of case q).need (units case a q - n)) (lost l))

pub given-fits : (case : Case) (a : Assignment) (s r : ℕ) → IsTrue (fits case a) → r < length case.wants → IsTrue (fits case (given a s r))
given-fits case a s r fitting within =
    let long : length (set a.of s (Some r)) ≡ length case.places = length-set a.of s (Some r) ∙ length-fits case a fitting in
    let same : (length (set a.of s (Some r)) == length case.places) ≡ true = grind (arith, nat_tests, long) in
    let there : nat_lt r (length case.wants) ≡ true = grind (arith, nat_tests, within) in
    both _ _ same (all-set (λ (o : Option ℕ). option_map_or (λ q. nat_lt q (length case.wants)) o true) a.of s (Some r) (and-right _ _ fitting) there)

pub given-serves : (case : Case) (a : Assignment) (s r : ℕ) → s < length case.places → serves case (place_of case s, Some r) ≡ true
    → list_all (serves case) (servers_with_places case a) ≡ true → list_all (serves case) (servers_with_places case (given a s r)) ≡ true
given-serves case a s r within here all =
    ap (list_all (serves case)) (assigned-given case a s r within) ∙ all-set (serves case) (servers_with_places case a) s (place_of case s, Some r) all here

-- ---- the server that is taken

-- it is there, it has none, and it may serve the reservation
pub record IsTaken (case : Case) (a : Assignment) (r s : ℕ) : Type 0 where
  pub there : s < length case.places
  pub free : get_or a.of s None ≡ None
  pub serves : serves case (place_of case s, Some r) ≡ true

none-is : (o : Option ℕ) → is_none o ≡ true → o ≡ None
none-is None h = refl
none-is (Some r) h = cc

taken-of : (case : Case) (a : Assignment) (r s : ℕ) → s < length case.places → (up free worth : Bool) → (place_of case s).up ≡ up
    → is_none (get_or a.of s None) ≡ free → nat_lt 0 (value_for case r (place_of case s).kind) ≡ worth → (up && free && worth) ≡ true → IsTaken case a r s
taken-of case a r s within up free worth is_up is_free is_worth may =
    let first : (up && free) ≡ true = and-left (up && free) worth may in
    record {
      there = within;
      free = none-is (get_or a.of s None) (is_free ∙ and-right up free first);
      serves = both (place_of case s).up (nat_lt 0 (value_for case r (place_of case s).kind)) (is_up ∙ and-left up free first) (is_worth ∙ and-right (up && free) worth may);
    }

pub next-is_taken : (case : Case) (a : Assignment) (r s : ℕ) → IsTrue (fits case a) → next_server case a r ≡ Some s → IsTaken case a r s
next-is_taken case a r s fitting e =
    let found = position-Some (is_next case a r) (servers_with_places case a) s (no_place, None) e in
    let within : s < length case.places = omega (arith, found.0, assigned-length case a fitting) in
    let test : is_next case a r (server_with case a s) ≡ true = ap (is_next case a r) (sym (assigned-at case a s fitting within)) ∙ found.1 in
    let may : may_be_taken case r (server_with case a s) ≡ true = and-left _ _ test in
    taken-of case a r s within ((place_of case s).up) (is_none (get_or a.of s None)) (nat_lt 0 (value_for case r (place_of case s).kind)) refl refl refl may
