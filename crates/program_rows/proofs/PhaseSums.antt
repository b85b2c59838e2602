-- Sums over the movable servers of a phase, at an assignment that the phase allows.
use Rattle.std.proofs.Common.{◌≡◌, ℕ, zero, suc, ◌+◌, ◌*◌, ◌<◌, ◌≤◌, Bool, true, false, cond, List, [], ◌∷◌, length, get_or, arith, ap, sym, ◌∙◌, refl, Some, None, All, subst}
use Rattle.std.specs.Prelude.{sum_by, zip, Option, nat_eq, ◌==◌, ◌&&◌, ◌||◌, IsTrue}
use Rattle.std.specs.List.{enumerate_from, list_all, list_any, range_with_len}
use Rattle.std.specs.Option.{option_eq}
use Rattle.std.specs.Cmp.{nat_eq_equiv}
use Rattle.std.proofs.lemmas.List.Sums.{sum_by-cons}
use Rattle.std.proofs.lemmas.List.Elements.{All-nil, All-cons, All-head, All-tail, All-from_get_or}
use Rattle.std.proofs.lemmas.List.Recursion.{or_at}
use Rattle.std.proofs.lemmas.Slice.Zip.{get_or-zip, length-zip}
use Rattle.std.proofs.lemmas.Bool.{eqb-true, eq-eqb}
use Rattle.plan_model.specs.declared.cases.Place.{Place}
use Rattle.plan_model.specs.declared.cases.Case.{Case}
use Rattle.plan_model.specs.declared.cases.Assignment.{Assignment}
use Rattle.plan_model.specs.Units.{servers_with_places, no_place, server_with}
use Rattle.plan_model.specs.Allowed.{serves, fits}
use Rattle.plan_model.specs.Rack.{is_movable, keeps_to_chosen}
use Rattle.plan_model.proofs.SumLemmas.{length-fits}
use Rattle.plan_model.proofs.CaseFacts.{list_all-at}
use Rattle.symmetry_classes.proofs.Partition.{sum_by-same, sum_by-zero}
use Rattle.program_rows.specs.Settings.{Setting, movable_flags, movable_servers}
use Rattle.program_rows.specs.Phases.{IsPhase, IsStart, is_active}
use Rattle.program_rows.proofs.ListSums.{sum_by-enumerate_both, sum_by-times}
use Rattle.program_rows.proofs.RangeSums.{flags-of, sum_by-flagged, once-in_range}
use Rattle.program_rows.proofs.ClassSums.{sum_by-plus}

and-left : (a b : Bool) → (a && b) ≡ true → a ≡ true
and-left true b h = refl
and-left false b h = h

and-right : (a b : Bool) → (a && b) ≡ true → b ≡ true
and-right true b h = h
and-right false b h = cc

both : (a b : Bool) → a ≡ true → b ≡ true → (a && b) ≡ true
both true b e h = h
both false b e h = e

cond-zero : (b : Bool) → ◌≡◌ {A = ℕ} (cond b 0 0) 0
cond-zero true = refl
cond-zero false = refl

option_eq-true : (o p : Option ℕ) → option_eq nat_eq o p ≡ true → o ≡ p
option_eq-true None None h = refl
option_eq-true (Some x) (Some y) h = ap (λ z. Some z) (eqb-true x y h)
option_eq-true None (Some y) h = cc
option_eq-true (Some x) None h = cc

-- sums of terms that are equal at each element, and that are at most the other's
pub same-all : {X : Type 0} (f g : X → ℕ) (xs : List X) → All (λ x. f x ≡ g x) xs → sum_by f xs ≡ sum_by g xs
same-all f g [] a = refl
same-all f g (x ∷ xs) a =
    sum_by-cons f x xs
    ∙ ap (λ n. n + sum_by f xs) (All-head (λ y. f y ≡ g y) x xs a)
    ∙ ap (λ n. g x + n) (same-all f g xs (All-tail (λ y. f y ≡ g y) x xs a))
    ∙ sym (sum_by-cons g x xs)

pub most-all : {X : Type 0} (f g : X → ℕ) (xs : List X) → All (λ x. f x ≤ g x) xs → sum_by f xs ≤ sum_by g xs
most-all f g [] a = omega arith
most-all f g (x ∷ xs) a =
    let here = All-head (λ y. f y ≤ g y) x xs a in
    let rest = most-all f g xs (All-tail (λ y. f y ≤ g y) x xs a) in
    omega (arith, sum_by-cons f x xs, sum_by-cons g x xs, here, rest)

pub zero-all : {X : Type 0} (f : X → ℕ) (xs : List X) → sum_by f xs ≡ 0 → All (λ x. f x ≡ 0) xs
zero-all f [] none = All-nil (λ x. f x ≡ 0)
zero-all f (x ∷ xs) none =
    let split = sum_by-cons f x xs in
    let here : f x ≡ 0 = omega (arith, split, none) in
    let rest : sum_by f xs ≡ 0 = omega (arith, split, none) in
    All-cons (λ y. f y ≡ 0) x xs here (zero-all f xs rest)

-- ---- active reservations

pub any-weaker : {X : Type 0} (p q : X → Bool) → ((x : X) → p x ≡ true → q x ≡ true) → (xs : List X) → list_any p xs ≡ true → list_any q xs ≡ true
any-weaker p q h [] e = cc
any-weaker p q h (x ∷ xs) e =
    let step : (b c : Bool) → p x ≡ b → q x ≡ c → (b || list_any p xs) ≡ true → (c || list_any q xs) ≡ true =
    λ b c. elim c as (λ v. p x ≡ b → q x ≡ v → (b || list_any p xs) ≡ true → (v || list_any q xs) ≡ true) [
      | true ↦ λ f g k. refl
      | false ↦ elim b as (λ v. p x ≡ v → q x ≡ false → (v || list_any p xs) ≡ true → list_any q xs ≡ true)
          [ true ↦ λ f g k. let clash : true ≡ false = sym (h x f) ∙ g in cc | false ↦ λ f g k. any-weaker p q h xs k ]
    ] in
    step (p x) (q x) refl refl e

-- what holds of each element holds of one that is there
pub any-at : (P : ℕ → Type 0) (r : ℕ) (xs : List ℕ) → All P xs → list_any (λ q. q == r) xs ≡ true → P r
any-at P r [] a e = cc
any-at P r (x ∷ xs) a e =
    let step : (b : Bool) → (x == r) ≡ b → (b || list_any (λ q. q == r) xs) ≡ true → P r =
    λ b. elim b as (λ v. (x == r) ≡ v → (v || list_any (λ q. q == r) xs) ≡ true → P r)
    [ true ↦ λ f k. subst P (eqb-true x r f) (All-head P x xs a) | false ↦ λ f k. any-at P r xs (All-tail P x xs a) k ] in
    step (x == r) refl e

any-itself : (xs : List ℕ) → All (λ r. list_any (λ q. q == r) xs ≡ true) xs
any-itself xs k d within = or_at (list_any (λ q. q == get_or xs k d)) (λ q. q == get_or xs k d) refl (λ _ _. refl) xs k d within (eq-eqb (get_or xs k d) (get_or xs k d) refl)

-- what holds of each active reservation
pub All-active : (setting : Setting) (P : ℕ → Type 0) → ((r : ℕ) → is_active setting r ≡ true → P r) → All P setting.active
All-active setting P h k d within = h (get_or setting.active k d) (any-itself setting.active k d within)

any-count : (r : ℕ) (xs : List ℕ) (b : Bool) → list_any (λ q. q == r) xs ≡ b → cond b 1 0 ≤ sum_by (λ q. cond (q == r) 1 0) xs
any-count r xs false e = omega arith
any-count r [] true e = cc
any-count r (x ∷ xs) true e =
    let split = sum_by-cons (λ q. cond (q == r) 1 0) x xs in
    let step : (b : Bool) → (x == r) ≡ b → (b || list_any (λ q. q == r) xs) ≡ true → 1 ≤ cond b 1 0 + sum_by (λ q. cond (q == r) 1 0) xs =
    λ b. elim b as (λ v. (x == r) ≡ v → (v || list_any (λ q. q == r) xs) ≡ true → 1 ≤ cond v 1 0 + sum_by (λ q. cond (q == r) 1 0) xs)
    [ true ↦ λ f k. omega arith | false ↦ λ f k. let rest = any-count r xs true k in omega (arith, rest) ] in
    omega (arith, split, step (x == r) refl e)

pub none-count : (r : ℕ) (xs : List ℕ) → list_any (λ q. q == r) xs ≡ false → sum_by (λ q. cond (q == r) 1 0) xs ≡ 0
none-count r [] e = refl
none-count r (x ∷ xs) e =
    let step : (b : Bool) → (x == r) ≡ b → (b || list_any (λ q. q == r) xs) ≡ false → cond b 1 0 + sum_by (λ q. cond (q == r) 1 0) xs ≡ 0 =
    λ b. elim b as (λ v. (x == r) ≡ v → (v || list_any (λ q. q == r) xs) ≡ false → cond v 1 0 + sum_by (λ q. cond (q == r) 1 0) xs ≡ 0)
    [ true ↦ λ f k. cc | false ↦ λ f k. let rest = none-count r xs k in omega (arith, rest) ] in
    sum_by-cons (λ q. cond (q == r) 1 0) x xs ∙ step (x == r) refl e

count-is : (xs : List ℕ) → ((r : ℕ) → sum_by (λ q. cond (q == r) 1 0) xs ≤ 1) → (r : ℕ) (b : Bool) → list_any (λ q. q == r) xs ≡ b → sum_by (λ q. cond (q == r) 1 0) xs ≡ cond b 1 0
count-is xs once r true e = let some = any-count r xs true e in let most = once r in omega (arith, some, most)
count-is xs once r false e = none-count r xs e

pub start-of : (case : Case) (setting : Setting) → IsPhase case setting → IsStart case setting
start-of case setting phase = record { there = phase.there; once = phase.once; fit = phase.fit }

pub once-active : (case : Case) (setting : Setting) → IsStart case setting → (r : ℕ) → is_active setting r ≡ true → sum_by (λ q. cond (q == r) 1 0) setting.active ≡ 1
once-active case setting phase r active = count-is setting.active phase.once r true active

plus-times : (b : Bool) (n f : ℕ) → (cond b 1 0 + n) * f ≡ cond b f 0 + n * f
plus-times true n f = omega arith
plus-times false n f = omega arith

one-times : (b : Bool) (f : ℕ) → cond b 1 0 * f ≡ cond b f 0
one-times true f = omega arith
one-times false f = omega arith

at-same : (b : Bool) (n m : ℕ) → (b ≡ true → n ≡ m) → cond b n 0 ≡ m * cond b 1 0
at-same true n m h = h refl ∙ omega arith
at-same false n m h = omega arith

-- a sum over numbers below n, by how often each stands in the list
counted-sum : (f : ℕ → ℕ) (n : ℕ) (xs : List ℕ) → All (λ r. r < n) xs → sum_by f xs ≡ sum_by (λ r. sum_by (λ q. cond (q == r) 1 0) xs * f r) (range_with_len 0 n)
counted-sum f n [] a = sym (sum_by-zero (λ r. 0 * f r) (λ r. let none : 0 * f r ≡ 0 = omega arith in none) (range_with_len 0 n))
counted-sum f n (x ∷ xs) a =
    let numbers = range_with_len 0 n in
    let count : ℕ → ℕ = λ r. sum_by (λ q. cond (q == r) 1 0) xs in
    let here : sum_by (λ r. cond (x == r) (f r) 0) numbers ≡ f x =
    sum_by-same (λ r. cond (x == r) (f r) 0) (λ r. f x * cond (r == x) 1 0)
    (λ r. at-same (x == r) (f r) (f x) (λ e. ap f (sym (eqb-true x r e))) ∙ ap (λ b. f x * cond b 1 0) (nat_eq_equiv.symm x r)) numbers
    ∙ sum_by-times (f x) (λ r. cond (r == x) 1 0) numbers
    ∙ ap (λ k. f x * k) (once-in_range n x (All-head (λ r. r < n) x xs a)) ∙ omega arith in
    let rest = counted-sum f n xs (All-tail (λ r. r < n) x xs a) in
    sum_by-cons f x xs
    ∙ (let sum : f x + sum_by f xs ≡ sum_by (λ r. cond (x == r) (f r) 0) numbers + sum_by (λ r. count r * f r) numbers = omega (arith, here, rest) in sum)
    ∙ sym (sum_by-plus (λ r. cond (x == r) (f r) 0) (λ r. count r * f r) numbers)
    ∙ sym (sum_by-same (λ r. sum_by (λ q. cond (q == r) 1 0) (x ∷ xs) * f r) (λ r. cond (x == r) (f r) 0 + count r * f r)
    (λ r. ap (λ k. k * f r) (sum_by-cons (λ q. cond (q == r) 1 0) x xs) ∙ plus-times (x == r) (count r) (f r)) numbers)

-- a sum over numbers below n that each stand once
pub once-sum : (f : ℕ → ℕ) (n : ℕ) (xs : List ℕ) → All (λ r. r < n) xs → ((r : ℕ) → sum_by (λ q. cond (q == r) 1 0) xs ≤ 1)
    → sum_by f xs ≡ sum_by (λ r. cond (list_any (λ q. q == r) xs) (f r) 0) (range_with_len 0 n)
once-sum f n xs a once =
    counted-sum f n xs a
    ∙ sum_by-same (λ r. sum_by (λ q. cond (q == r) 1 0) xs * f r) (λ r. cond (list_any (λ q. q == r) xs) (f r) 0)
    (λ r. ap (λ k. k * f r) (count-is xs once r (list_any (λ q. q == r) xs) refl) ∙ one-times (list_any (λ q. q == r) xs) (f r)) (range_with_len 0 n)

-- ---- the servers, each beside what it starts with and what it gets

get_or-zip_all : {X Y : Type 0} (xs : List X) (ys : List Y) (t : ℕ) (d : X) (e : Y) → length xs ≡ length ys → get_or (zip xs ys) t (d, e) ≡ (get_or xs t d, get_or ys t e)
get_or-zip_all [] [] t d e same = refl
get_or-zip_all [] (y ∷ ys) t d e same = cc
get_or-zip_all (x ∷ xs) [] t d e same = cc
get_or-zip_all (x ∷ xs) (y ∷ ys) zero d e same = refl
get_or-zip_all (x ∷ xs) (y ∷ ys) (suc t) d e same = let fewer : length xs ≡ length ys = cc in get_or-zip_all xs ys t d e fewer

sum_by-zip_third : {X Y Z : Type 0} (f : X × Z → ℕ) (xs : List X) (ys : List Y) (zs : List Z) → length xs ≡ length ys → sum_by f (zip xs zs) ≡ sum_by (λ s. f (s.0.0, s.1)) (zip (zip xs ys) zs)
sum_by-zip_third f [] [] zs same = refl
sum_by-zip_third f [] (y ∷ ys) zs same = cc
sum_by-zip_third f (x ∷ xs) [] zs same = cc
sum_by-zip_third f (x ∷ xs) (y ∷ ys) [] same = refl
sum_by-zip_third f (x ∷ xs) (y ∷ ys) (z ∷ zs) same =
    let fewer : length xs ≡ length ys = cc in
    sum_by-cons f (x, z) (zip xs zs) ∙ ap (λ n. f (x, z) + n) (sum_by-zip_third f xs ys zs fewer) ∙ sym (sum_by-cons (λ s. f (s.0.0, s.1)) ((x, y), z) (zip (zip xs ys) zs))

sum_by-zip_first : {X Y : Type 0} (f : X → ℕ) (xs : List X) (ys : List Y) → length xs ≡ length ys → sum_by f xs ≡ sum_by (λ s. f s.0) (zip xs ys)
sum_by-zip_first f [] [] same = refl
sum_by-zip_first f [] (y ∷ ys) same = cc
sum_by-zip_first f (x ∷ xs) [] same = cc
sum_by-zip_first f (x ∷ xs) (y ∷ ys) same =
    let fewer : length xs ≡ length ys = cc in
    sum_by-cons f x xs ∙ ap (λ n. f x + n) (sum_by-zip_first f xs ys fewer) ∙ sym (sum_by-cons (λ s. f s.0) (x, y) (zip xs ys))

-- a server beside what it starts with, and what it gets, in a phase
pub record LawfulAt (case : Case) (setting : Setting) (s : (Place × Option ℕ) × Option ℕ) : Type 0 where
  pub keeps : keeps_to_chosen case setting.active s ≡ true
  pub serve : serves case (s.0.0, s.1) ≡ true

-- an assignment of a phase, apart from the needs
pub record IsLawful (case : Case) (setting : Setting) (a : Assignment) : Type 0 where
  pub fit : IsTrue (fits case a)
  pub serve : list_all (serves case) (servers_with_places case a) ≡ true
  pub keeps : list_all (keeps_to_chosen case setting.active) (zip (servers_with_places case setting.start) a.of) ≡ true

module _ (case : Case) (setting : Setting) (phase : IsPhase case setting) (a : Assignment) (size : length a.of ≡ length case.places) where
  abbrev pub trio : List ((Place × Option ℕ) × Option ℕ)
  trio = zip (servers_with_places case setting.start) a.of

  start-length : length case.places ≡ length setting.start.of
  start-length = sym (length-fits case setting.start phase.fit)

  pub pair-length : length (servers_with_places case setting.start) ≡ length a.of
  pair-length = let pairs = length-zip case.places setting.start.of in let same = size in omega (arith, pairs, start-length, same)

  pub movable-sum : (g : Place × Option ℕ → ℕ) → sum_by (λ t. g (server_with case a t)) (movable_servers case setting)
      ≡ sum_by (λ s. cond (is_movable case setting.active s.0) (g (s.0.0, s.1)) 0) trio
  movable-sum g =
      let h : Place × Option ℕ → Bool = is_movable case setting.active in
      let pairs = servers_with_places case setting.start in
      sum_by-flagged (λ t. g (server_with case a t)) (movable_flags case setting)
      ∙ flags-of h (λ t. g (server_with case a t)) pairs 0
      ∙ sum_by-same (λ e. cond (h e.1) (g (server_with case a e.0)) 0) (λ e. cond (h e.1) (g ((get_or pairs e.0 (no_place, None)).0, get_or a.of e.0 None)) 0)
      (λ e. sym (ap (λ s. cond (h e.1) (g (s.0, get_or a.of e.0 None)) 0) (get_or-zip_all case.places setting.start.of e.0 no_place None start-length))) (enumerate_from 0 pairs)
      ∙ sum_by-enumerate_both (λ x y to. cond (h x) (g (y.0, to)) 0) (no_place, None) None pairs [] a.of [] pairs a.of 0 refl refl refl refl pair-length

  pub assigned-sum : (f : Place × Option ℕ → ℕ) → sum_by f (servers_with_places case a) ≡ sum_by (λ s. f (s.0.0, s.1)) trio
  assigned-sum f = sum_by-zip_third f case.places setting.start.of a.of start-length

  pub start-sum : (f : Place × Option ℕ → ℕ) → sum_by f (servers_with_places case setting.start) ≡ sum_by (λ s. f s.0) trio
  start-sum f = sum_by-zip_first f (servers_with_places case setting.start) a.of pair-length

  -- what holds of each server by its number
  pub All-trio : (P : (Place × Option ℕ) × Option ℕ → Type 0)
      → ((i : ℕ) → i < length case.places → P ((get_or case.places i no_place, get_or setting.start.of i None), get_or a.of i None)) → All P trio
  All-trio P h =
      All-from_get_or P trio ((no_place, None), None) (λ i inside.
      let same = size in
      let there : i < length case.places = omega (arith, length-zip (servers_with_places case setting.start) a.of, pair-length, same) in
      let first : i < length (servers_with_places case setting.start) = omega (arith, pair-length, same, there) in
      let second : i < length a.of = omega (arith, same, there) in
      let read : get_or trio i ((no_place, None), None) ≡ ((get_or case.places i no_place, get_or setting.start.of i None), get_or a.of i None) =
      get_or-zip (servers_with_places case setting.start) a.of i ((no_place, None), None) first second
      ∙ ap (λ s. (s, get_or a.of i None)) (get_or-zip_all case.places setting.start.of i no_place None start-length) in
      subst P (sym read) (h i there))

  pub lawful-at : IsLawful case setting a → All (LawfulAt case setting) trio
  lawful-at lawful = All-trio (LawfulAt case setting) (λ i within.
      let same = size in
      let second : i < length a.of = omega (arith, same, within) in
      let first : i < length (servers_with_places case setting.start) = omega (arith, pair-length, same, within) in
      let inside : i < length trio = omega (arith, length-zip (servers_with_places case setting.start) a.of, pair-length, same, within) in
      let beside : i < length (servers_with_places case a) = omega (arith, length-zip case.places a.of, same, within) in
      let read = get_or-zip (servers_with_places case setting.start) a.of i ((no_place, None), None) first second
      ∙ ap (λ s. (s, get_or a.of i None)) (get_or-zip_all case.places setting.start.of i no_place None start-length) in
      record {
        keeps = subst (λ s. keeps_to_chosen case setting.active s ≡ true) read (list_all-at (keeps_to_chosen case setting.active) trio i ((no_place, None), None) inside lawful.keeps);
        serve = subst (λ s. serves case s ≡ true) (get_or-zip case.places a.of i (no_place, None) within second) (list_all-at (serves case) (servers_with_places case a) i (no_place, None) beside lawful.serve);
      })
