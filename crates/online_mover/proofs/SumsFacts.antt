-- The units of each reservation when one server counts for something else.
use Rattle.std.proofs.Common.{◌≡◌, ℕ, zero, suc, ◌+◌, ◌-◌, ◌<◌, ◌≤◌, ◌≢◌, ◌⊎◌, inl, inr, Bool, true, false, cond, List, [], ◌∷◌, length, get_or, set, arith, ap, sym, ◌∙◌, refl, subst, Some, None}
use Rattle.std.specs.Prelude.{Option, IsTrue, sum_by, zip, replicate, ◌==◌, nat_lt}
use Rattle.std.specs.List.{list_all}
use Rattle.std.specs.Option.{option_map_or}
use Rattle.std.proofs.lemmas.Bool.Decides.{nat_tests}
use Rattle.std.proofs.lemmas.List.{length-set, get_or-set_same, get_or-set_other, length-replicate, get_or-replicate}
use Rattle.std.proofs.lemmas.List.Sums.{sum_by-set, sum_by-cons}
use Rattle.std.proofs.lemmas.Slice.Zip.{get_or-zip, length-zip}
use Rattle.plan_model.specs.declared.cases.Place.{Place}
use Rattle.plan_model.specs.declared.cases.Case.{Case}
use Rattle.plan_model.specs.declared.cases.Assignment.{Assignment}
use Rattle.plan_model.specs.declared.losses.Lost.{Lost}
use Rattle.plan_model.specs.Units.{share_of, servers_with_places, units, units_where, value_for, place_of, no_place, free_plan}
use Rattle.plan_model.specs.Allowed.{fits}
use Rattle.plan_model.specs.Losses.{is_lost}
use Rattle.plan_model.specs.CaseRule.{place_in_range}
use Rattle.plan_model.proofs.SumLemmas.{sum_by-filter, length-fits, units-most}
use Rattle.plan_model.proofs.CaseFacts.{list_all-at, few-boards, few-centers}
use Rattle.online_mover.specs.declared.sums.Sums.{Sums}
use Rattle.online_mover.specs.Without.{with_place, without}
use Rattle.online_mover.specs.Sums.{AreSums, no_sums, empty_sums, sums_of, lessened, raised}
use Rattle.online_mover.proofs.Covers.{and-left, and-right, both}
use Rattle.online_mover.proofs.NeedFacts.{zip-set, units-without, where-without-same, where-le}
use Rattle.online_mover.proofs.Rules.{all-set}

-- ---- a sum over the servers when one of them gets something else

sum-with : (f : Place × Option ℕ → ℕ) (case : Case) (a : Assignment) (s : ℕ) (to : Option ℕ) → IsTrue (fits case a) → s < length case.places
    → sum_by f (servers_with_places case (with_place a s to)) + f (place_of case s, get_or a.of s None) ≡ sum_by f (servers_with_places case a) + f (place_of case s, to)
sum-with f case a s to fitting within =
    let there : s < length a.of = omega (arith, within, length-fits case a fitting) in
    let inside : s < length (zip case.places a.of) = omega (arith, within, there, length-zip case.places a.of) in
    let read : f (get_or (zip case.places a.of) s (no_place, None)) ≡ f (place_of case s, get_or a.of s None) =
    ap f (get_or-zip case.places a.of s (no_place, None) within there) in
    let edit : sum_by f (zip case.places (set a.of s to)) ≡ sum_by f (set (zip case.places a.of) s (place_of case s, to)) =
    ap (sum_by f) (zip-set case.places a.of s to no_place within) in
    let move : sum_by f (set (zip case.places a.of) s (place_of case s, to)) + f (get_or (zip case.places a.of) s (no_place, None)) ≡ sum_by f (zip case.places a.of) + f (place_of case s, to) =
    sum_by-set f (zip case.places a.of) s (place_of case s, to) (no_place, None) inside in
    omega (arith, read, edit, move)

-- a total loses what the server gave, and gains what it gives
units-with : (case : Case) (a : Assignment) (r s : ℕ) (to : Option ℕ) → IsTrue (fits case a) → s < length case.places
    → units case (with_place a s to) r + share_of case r (place_of case s, get_or a.of s None) ≡ units case a r + share_of case r (place_of case s, to)
units-with case a r s to fitting within = sum-with (share_of case r) case a s to fitting within

-- so does a sum over the servers that pass a test, where the server passes it
where-with : (p : Place → Bool) (case : Case) (a : Assignment) (r s : ℕ) (to : Option ℕ) → IsTrue (fits case a) → s < length case.places
    → units_where p case (with_place a s to) r + cond (p (place_of case s)) (share_of case r (place_of case s, get_or a.of s None)) 0
    ≡ units_where p case a r + cond (p (place_of case s)) (share_of case r (place_of case s, to)) 0
where-with p case a r s to fitting within =
    omega (
      arith,
      sum-with (λ t. cond (p t.0) (share_of case r t) 0) case a s to fitting within,
      sum_by-filter (λ t. p t.0) (share_of case r) (servers_with_places case a),
      sum_by-filter (λ t. p t.0) (share_of case r) (servers_with_places case (with_place a s to)),
    )

-- ---- what a server gives another reservation, and what none gives

eq-of : (a b : ℕ) → (a == b) ≡ true → a ≡ b
eq-of a b h = grind (arith, nat_tests, h)

ne-of : (a b : ℕ) → (a == b) ≡ false → b ≢ a
ne-of a b h e = grind (arith, nat_tests, h)

own-share : (case : Case) (r : ℕ) (s : Place) → share_of case r (s, Some r) ≡ value_for case r s.kind
own-share case r s =
    let same : (r == r) ≡ true = grind (arith, nat_tests) in
    ap (λ (b : Bool). let n : ℕ = cond b (value_for case r s.kind) 0 in n) same

-- what is given for r, or for none, is nothing for q
gives-nothing : (case : Case) (q r : ℕ) (s : Place) (to : Option ℕ) → (r == q) ≡ false → (to ≡ None) ⊎ (to ≡ Some r) → share_of case q (s, to) ≡ 0
gives-nothing case q r s to other (inl none) = ap (λ (o : Option ℕ). share_of case q (s, o)) none
gives-nothing case q r s to other (inr some) =
    ap (λ (o : Option ℕ). share_of case q (s, o)) some ∙ ap (λ (b : Bool). let n : ℕ = cond b (value_for case q s.kind) 0 in n) other

no-more : (b : Bool) (n : ℕ) → n ≡ 0 → cond b n 0 ≡ 0
no-more true n h = h
no-more false n h = refl

other-units : (case : Case) (a : Assignment) (q r s : ℕ) (to : Option ℕ) → IsTrue (fits case a) → s < length case.places → (r == q) ≡ false
    → (get_or a.of s None ≡ None) ⊎ (get_or a.of s None ≡ Some r) → (to ≡ None) ⊎ (to ≡ Some r)
    → units case (with_place a s to) q ≡ units case a q
other-units case a q r s to fitting within other from next =
    omega (
      arith,
      units-with case a q s to fitting within,
      gives-nothing case q r (place_of case s) (get_or a.of s None) other from,
      gives-nothing case q r (place_of case s) to other next,
    )

-- the units of r in the part of that number, where `at` says in which part a server stands
abbrev in_part : (Place → ℕ) → Case → Assignment → ℕ → ℕ → ℕ
in_part at case a r number = units_where (λ s. at s == number) case a r

other-part : (at : Place → ℕ) (case : Case) (a : Assignment) (q r s number : ℕ) (to : Option ℕ) → IsTrue (fits case a) → s < length case.places → (r == q) ≡ false
    → (get_or a.of s None ≡ None) ⊎ (get_or a.of s None ≡ Some r) → (to ≡ None) ⊎ (to ≡ Some r)
    → in_part at case (with_place a s to) q number ≡ in_part at case a q number
other-part at case a q r s number to fitting within other from next =
    omega (
      arith,
      where-with (λ t. at t == number) case a q s to fitting within,
      no-more (at (place_of case s) == number) (share_of case q (place_of case s, get_or a.of s None)) (gives-nothing case q r (place_of case s) (get_or a.of s None) other from),
      no-more (at (place_of case s) == number) (share_of case q (place_of case s, to)) (gives-nothing case q r (place_of case s) to other next),
    )

-- a part in which the server does not stand keeps its number
far-part : (at : Place → ℕ) (case : Case) (a : Assignment) (r s number : ℕ) (to : Option ℕ) → IsTrue (fits case a) → s < length case.places → (at (place_of case s) == number) ≡ false
    → in_part at case (with_place a s to) r number ≡ in_part at case a r number
far-part at case a r s number to fitting within far =
    let nothing : (n : ℕ) → ◌≡◌ {A = ℕ} (cond (at (place_of case s) == number) n 0) 0 = λ n. ap (λ (b : Bool). let m : ℕ = cond b n 0 in m) far in
    omega (arith, where-with (λ t. at t == number) case a r s to fitting within, nothing (share_of case r (place_of case s, get_or a.of s None)), nothing (share_of case r (place_of case s, to)))

-- ---- the sums of one reservation are put in place

set-total : (case : Case) (a b : Assignment) (xs : List Sums) (r : ℕ) (new : Sums) → AreSums case a xs → r < length case.wants → new.total ≡ units case b r
    → ((q : ℕ) → (r == q) ≡ false → units case b q ≡ units case a q)
    → (q : ℕ) (same : Bool) → (r == q) ≡ same → q < length case.wants → (sums_of (set xs r new) q).total ≡ units case b q
set-total case a b xs r new sums in_range here other q true e there =
    let inside : r < length xs = omega (arith, in_range, sums.long) in
    subst (λ (p : ℕ). (sums_of (set xs r new) p).total ≡ units case b p) (eq-of r q e)
    (ap (λ (x : Sums). x.total) (get_or-set_same xs r new no_sums inside) ∙ here)
set-total case a b xs r new sums in_range here other q false e there =
    ap (λ (x : Sums). x.total) (get_or-set_other xs r q new no_sums (ne-of r q e)) ∙ sums.total q there ∙ sym (other q e)

set-long : (table : Sums → List ℕ) (n : ℕ) (xs : List Sums) (r : ℕ) (new : Sums) → r < length xs → length (table new) ≡ 64
    → ((q : ℕ) → q < n → length (table (sums_of xs q)) ≡ 64)
    → (q : ℕ) (same : Bool) → (r == q) ≡ same → q < n → length (table (sums_of (set xs r new) q)) ≡ 64
set-long table n xs r new inside here was q true e there =
    subst (λ (p : ℕ). length (table (sums_of (set xs r new) p)) ≡ 64) (eq-of r q e)
    (ap (λ (x : Sums). length (table x)) (get_or-set_same xs r new no_sums inside) ∙ here)
set-long table n xs r new inside here was q false e there =
    ap (λ (x : Sums). length (table x)) (get_or-set_other xs r q new no_sums (ne-of r q e)) ∙ was q there

-- a table has at each number what r has in the part of that number
abbrev HasParts : (Place → ℕ) → Case → Assignment → ℕ → List ℕ → Type 0
HasParts at case a r table = (number : ℕ) → get_or table number 0 ≡ in_part at case a r number

set-parts : (table : Sums → List ℕ) (at : Place → ℕ) (case : Case) (a b : Assignment) (xs : List Sums) (r : ℕ) (new : Sums) → r < length xs
    → HasParts at case b r (table new)
    → ((q : ℕ) → q < length case.wants → HasParts at case a q (table (sums_of xs q)))
    → ((q number : ℕ) → (r == q) ≡ false → in_part at case b q number ≡ in_part at case a q number)
    → (q : ℕ) (same : Bool) → (r == q) ≡ same → q < length case.wants → HasParts at case b q (table (sums_of (set xs r new) q))
set-parts table at case a b xs r new inside here was other q true e there number =
    subst (λ (p : ℕ). get_or (table (sums_of (set xs r new) p)) number 0 ≡ in_part at case b p number) (eq-of r q e)
    (ap (λ (x : Sums). get_or (table x) number 0) (get_or-set_same xs r new no_sums inside) ∙ here number)
set-parts table at case a b xs r new inside here was other q false e there number =
    ap (λ (x : Sums). get_or (table x) number 0) (get_or-set_other xs r q new no_sums (ne-of r q e)) ∙ was q there number ∙ sym (other q number e)

-- a table of one reservation when the number changes at which one server stands
own-parts : (at : Place → ℕ) (case : Case) (a : Assignment) (r s n : ℕ) (to : Option ℕ) (table : List ℕ) → IsTrue (fits case a) → s < length case.places
    → length table ≡ 64 → at (place_of case s) < 64 → HasParts at case a r table
    → n ≡ in_part at case (with_place a s to) r (at (place_of case s))
    → (number : ℕ) (same : Bool) → (at (place_of case s) == number) ≡ same
    → get_or (set table (at (place_of case s)) n) number 0 ≡ in_part at case (with_place a s to) r number
own-parts at case a r s n to table fitting within long few was here number true e =
    let inside : at (place_of case s) < length table = omega (arith, few, long) in
    subst (λ (p : ℕ). get_or (set table (at (place_of case s)) n) p 0 ≡ in_part at case (with_place a s to) r p) (eq-of (at (place_of case s)) number e)
    (get_or-set_same table (at (place_of case s)) n 0 inside ∙ here)
own-parts at case a r s n to table fitting within long few was here number false e =
    get_or-set_other table (at (place_of case s)) number n 0 (ne-of (at (place_of case s)) number e) ∙ was number
    ∙ sym (far-part at case a r s number to fitting within e)

-- the sums are those of the new assignment where the new ones of r are, and no other reservation's change
sums-with : (case : Case) (a : Assignment) (xs : List Sums) (r s : ℕ) (to : Option ℕ) (new : Sums) → IsTrue (fits case a) → s < length case.places
    → (get_or a.of s None ≡ None) ⊎ (get_or a.of s None ≡ Some r) → (to ≡ None) ⊎ (to ≡ Some r)
    → AreSums case a xs → r < length case.wants
    → new.total ≡ units case (with_place a s to) r
    → length new.boards ≡ 64 → HasParts (λ t. t.board) case (with_place a s to) r new.boards
    → length new.centers ≡ 64 → HasParts (λ t. t.center) case (with_place a s to) r new.centers
    → AreSums case (with_place a s to) (set xs r new)
sums-with case a xs r s to new fitting within from next sums in_range total boards_long boards centers_long centers =
    let b : Assignment = with_place a s to in
    let inside : r < length xs = omega (arith, in_range, sums.long) in
    record {
      long = length-set xs r new ∙ sums.long;
      boards_long = λ q there. set-long (λ x. x.boards) (length case.wants) xs r new inside boards_long sums.boards_long q (r == q) refl there;
      centers_long = λ q there. set-long (λ x. x.centers) (length case.wants) xs r new inside centers_long sums.centers_long q (r == q) refl there;
      total = λ q there. set-total case a b xs r new sums in_range total (λ p e. other-units case a p r s to fitting within e from next) q (r == q) refl there;
      on_board = λ q board there.
          set-parts (λ x. x.boards) (λ t. t.board) case a b xs r new inside boards (λ p lt m. sums.on_board p m lt)
          (λ p m e. other-part (λ t. t.board) case a p r s m to fitting within e from next) q (r == q) refl there board;
      in_center = λ q center there.
          set-parts (λ x. x.centers) (λ t. t.center) case a b xs r new inside centers (λ p lt m. sums.in_center p m lt)
          (λ p m e. other-part (λ t. t.center) case a p r s m to fitting within e from next) q (r == q) refl there center;
    }

-- ---- limits

place-range : (case : Case) (s : ℕ) → s < length case.places → place_in_range case.kinds case.racks case.boards case.centers (length case.wants) (place_of case s) ≡ true
place-range case s within =
    let all : list_all (place_in_range case.kinds case.racks case.boards case.centers (length case.wants)) case.places ≡ true = and-right _ _ (and-left _ _ (and-left _ _ case.kept)) in
    list_all-at (place_in_range case.kinds case.racks case.boards case.centers (length case.wants)) case.places s no_place within all

pub board-few : (case : Case) (s : ℕ) → s < length case.places → (place_of case s).board < 64
board-few case s within =
    let range = place-range case s within in
    let here : (place_of case s).board < case.boards = grind (arith, nat_tests, range) in
    omega (arith, here, few-boards case)

pub center-few : (case : Case) (s : ℕ) → s < length case.places → (place_of case s).center < 64
center-few case s within =
    let range = place-range case s within in
    let here : (place_of case s).center < case.centers = grind (arith, nat_tests, range) in
    omega (arith, here, few-centers case)

-- ---- a server leaves a reservation

pub leave-total : (case : Case) (a : Assignment) (xs : List Sums) (r s : ℕ) → IsTrue (fits case a) → s < length case.places → get_or a.of s None ≡ Some r
    → AreSums case a xs → r < length case.wants → value_for case r (place_of case s).kind ≤ (sums_of xs r).total
leave-total case a xs r s fitting within counts sums in_range =
    omega (arith, sums.total r in_range, units-without case a r s fitting within counts)

stands-there : (n : ℕ) → (n == n) ≡ true
stands-there n = grind (arith, nat_tests)

-- the part where it stands loses what it gave
leave-part : (at : Place → ℕ) (case : Case) (a : Assignment) (r s : ℕ) → IsTrue (fits case a) → s < length case.places → get_or a.of s None ≡ Some r
    → in_part at case (without a s) r (at (place_of case s)) + value_for case r (place_of case s).kind ≡ in_part at case a r (at (place_of case s))
leave-part at case a r s fitting within counts =
    where-without-same (λ t. at t == at (place_of case s)) case a r s fitting within counts (stands-there (at (place_of case s)))

pub leave-board : (case : Case) (a : Assignment) (xs : List Sums) (r s : ℕ) → IsTrue (fits case a) → s < length case.places → get_or a.of s None ≡ Some r
    → AreSums case a xs → r < length case.wants → value_for case r (place_of case s).kind ≤ get_or (sums_of xs r).boards (place_of case s).board 0
leave-board case a xs r s fitting within counts sums in_range =
    omega (arith, sums.on_board r (place_of case s).board in_range, leave-part (λ t. t.board) case a r s fitting within counts)

pub leave-center : (case : Case) (a : Assignment) (xs : List Sums) (r s : ℕ) → IsTrue (fits case a) → s < length case.places → get_or a.of s None ≡ Some r
    → AreSums case a xs → r < length case.wants → value_for case r (place_of case s).kind ≤ get_or (sums_of xs r).centers (place_of case s).center 0
leave-center case a xs r s fitting within counts sums in_range =
    omega (arith, sums.in_center r (place_of case s).center in_range, leave-part (λ t. t.center) case a r s fitting within counts)

left-parts : (at : Place → ℕ) (case : Case) (a : Assignment) (r s : ℕ) (table : List ℕ) → IsTrue (fits case a) → s < length case.places → get_or a.of s None ≡ Some r
    → length table ≡ 64 → at (place_of case s) < 64 → HasParts at case a r table
    → HasParts at case (without a s) r (set table (at (place_of case s)) (get_or table (at (place_of case s)) 0 - value_for case r (place_of case s).kind))
left-parts at case a r s table fitting within counts long few was number =
    let here : get_or table (at (place_of case s)) 0 - value_for case r (place_of case s).kind ≡ in_part at case (without a s) r (at (place_of case s)) =
    omega (arith, was (at (place_of case s)), leave-part at case a r s fitting within counts) in
    own-parts at case a r s _ None table fitting within long few was here number (at (place_of case s) == number) refl

leave-sums : (case : Case) (a : Assignment) (xs : List Sums) (r s : ℕ) → IsTrue (fits case a) → s < length case.places → get_or a.of s None ≡ Some r
    → AreSums case a xs → r < length case.wants
    → AreSums case (without a s) (set xs r (lessened (sums_of xs r) (place_of case s).board (place_of case s).center (value_for case r (place_of case s).kind)))
leave-sums case a xs r s fitting within counts sums in_range =
    let mine : Sums = sums_of xs r in
    let total : mine.total - value_for case r (place_of case s).kind ≡ units case (without a s) r = omega (arith, sums.total r in_range, units-without case a r s fitting within counts) in
    sums-with case a xs r s None (lessened mine (place_of case s).board (place_of case s).center (value_for case r (place_of case s).kind)) fitting within (inr counts) (inl refl) sums in_range total
    (length-set mine.boards (place_of case s).board _ ∙ sums.boards_long r in_range)
    (left-parts (λ t. t.board) case a r s mine.boards fitting within counts (sums.boards_long r in_range) (board-few case s within) (λ n. sums.on_board r n in_range))
    (length-set mine.centers (place_of case s).center _ ∙ sums.centers_long r in_range)
    (left-parts (λ t. t.center) case a r s mine.centers fitting within counts (sums.centers_long r in_range) (center-few case s within) (λ n. sums.in_center r n in_range))

pub total-few : (case : Case) (a : Assignment) (xs : List Sums) (r : ℕ) → IsTrue (fits case a) → AreSums case a xs → r < length case.wants → (sums_of xs r).total ≤ 20000000
total-few case a xs r fitting sums in_range = omega (arith, sums.total r in_range, units-most case a r fitting in_range)

pub board-most : (case : Case) (a : Assignment) (xs : List Sums) (r board : ℕ) → IsTrue (fits case a) → AreSums case a xs → r < length case.wants
    → get_or (sums_of xs r).boards board 0 ≤ 20000000
board-most case a xs r board fitting sums in_range =
    omega (arith, sums.on_board r board in_range, where-le (λ t. t.board == board) case a r, units-most case a r fitting in_range)

pub center-most : (case : Case) (a : Assignment) (xs : List Sums) (r center : ℕ) → IsTrue (fits case a) → AreSums case a xs → r < length case.wants
    → get_or (sums_of xs r).centers center 0 ≤ 20000000
center-most case a xs r center fitting sums in_range =
    omega (arith, sums.in_center r center in_range, where-le (λ t. t.center == center) case a r, units-most case a r fitting in_range)

-- ---- a server comes to a reservation

enter-units : (case : Case) (a : Assignment) (r s : ℕ) → IsTrue (fits case a) → s < length case.places → get_or a.of s None ≡ None
    → units case (with_place a s (Some r)) r ≡ units case a r + value_for case r (place_of case s).kind
enter-units case a r s fitting within free =
    let nothing : share_of case r (place_of case s, get_or a.of s None) ≡ 0 = ap (λ (o : Option ℕ). share_of case r (place_of case s, o)) free in
    omega (arith, units-with case a r s (Some r) fitting within, nothing, own-share case r (place_of case s))

keep-value : (b : Bool) (m n : ℕ) → b ≡ true → m ≡ n → cond b m 0 ≡ n
keep-value true m n h k = k
keep-value false m n h k = cc

-- the part where it stands gains what it gives
enter-part : (at : Place → ℕ) (case : Case) (a : Assignment) (r s : ℕ) → IsTrue (fits case a) → s < length case.places → get_or a.of s None ≡ None
    → in_part at case (with_place a s (Some r)) r (at (place_of case s)) ≡ in_part at case a r (at (place_of case s)) + value_for case r (place_of case s).kind
enter-part at case a r s fitting within free =
    let here : ℕ = at (place_of case s) in
    let nothing : share_of case r (place_of case s, get_or a.of s None) ≡ 0 = ap (λ (o : Option ℕ). share_of case r (place_of case s, o)) free in
    omega (
      arith,
      where-with (λ t. at t == here) case a r s (Some r) fitting within,
      no-more (here == here) (share_of case r (place_of case s, get_or a.of s None)) nothing,
      keep-value (here == here) (share_of case r (place_of case s, Some r)) (value_for case r (place_of case s).kind) (stands-there here) (own-share case r (place_of case s)),
    )

entered-parts : (at : Place → ℕ) (case : Case) (a : Assignment) (r s : ℕ) (table : List ℕ) → IsTrue (fits case a) → s < length case.places → get_or a.of s None ≡ None
    → length table ≡ 64 → at (place_of case s) < 64 → HasParts at case a r table
    → HasParts at case (with_place a s (Some r)) r (set table (at (place_of case s)) (get_or table (at (place_of case s)) 0 + value_for case r (place_of case s).kind))
entered-parts at case a r s table fitting within free long few was number =
    let here : get_or table (at (place_of case s)) 0 + value_for case r (place_of case s).kind ≡ in_part at case (with_place a s (Some r)) r (at (place_of case s)) =
    omega (arith, was (at (place_of case s)), enter-part at case a r s fitting within free) in
    own-parts at case a r s _ (Some r) table fitting within long few was here number (at (place_of case s) == number) refl

enter-sums : (case : Case) (a : Assignment) (xs : List Sums) (r s : ℕ) → IsTrue (fits case a) → s < length case.places → get_or a.of s None ≡ None
    → AreSums case a xs → r < length case.wants
    → AreSums case (with_place a s (Some r)) (set xs r (raised (sums_of xs r) (place_of case s).board (place_of case s).center (value_for case r (place_of case s).kind)))
enter-sums case a xs r s fitting within free sums in_range =
    let mine : Sums = sums_of xs r in
    let total : mine.total + value_for case r (place_of case s).kind ≡ units case (with_place a s (Some r)) r = omega (arith, sums.total r in_range, enter-units case a r s fitting within free) in
    sums-with case a xs r s (Some r) (raised mine (place_of case s).board (place_of case s).center (value_for case r (place_of case s).kind)) fitting within (inl free) (inr refl) sums in_range total
    (length-set mine.boards (place_of case s).board _ ∙ sums.boards_long r in_range)
    (entered-parts (λ t. t.board) case a r s mine.boards fitting within free (sums.boards_long r in_range) (board-few case s within) (λ n. sums.on_board r n in_range))
    (length-set mine.centers (place_of case s).center _ ∙ sums.centers_long r in_range)
    (entered-parts (λ t. t.center) case a r s mine.centers fitting within free (sums.centers_long r in_range) (center-few case s within) (λ n. sums.in_center r n in_range))

-- ---- what an assignment keeps

pub counts-range : (case : Case) (a : Assignment) (s r : ℕ) → IsTrue (fits case a) → s < length case.places → get_or a.of s None ≡ Some r → r < length case.wants
counts-range case a s r fitting within counts =
    let there : s < length a.of = omega (arith, within, length-fits case a fitting) in
    let here : nat_lt r (length case.wants) ≡ true =
    sym (ap (λ (o : Option ℕ). option_map_or (λ q. nat_lt q (length case.wants)) o true) counts)
    ∙ list_all-at (λ (o : Option ℕ). option_map_or (λ q. nat_lt q (length case.wants)) o true) a.of s None there (and-right _ _ fitting) in
    grind (arith, nat_tests, here)

pub with_place-fits : (case : Case) (a : Assignment) (s : ℕ) (to : Option ℕ) → IsTrue (fits case a) → option_map_or (λ r. nat_lt r (length case.wants)) to true ≡ true
    → IsTrue (fits case (with_place a s to))
with_place-fits case a s to fitting h =
    let long : length (set a.of s to) ≡ length case.places = length-set a.of s to ∙ length-fits case a fitting in
    let same : (length (set a.of s to) == length case.places) ≡ true = grind (arith, nat_tests, long) in
    both _ _ same (all-set (λ (o : Option ℕ). option_map_or (λ q. nat_lt q (length case.wants)) o true) a.of s to (and-right _ _ fitting) h)

-- the same in the words of the code
pub leave-at : (case : Case) (a : Assignment) (xs zs : List Sums) (of : List (Option ℕ)) (r s : ℕ) (at : Place) (v : ℕ) → IsTrue (fits case a) → s < length case.places → get_or a.of s None ≡ Some r
    → AreSums case a xs → at ≡ place_of case s → v ≡ value_for case r (place_of case s).kind
    → zs ≡ set xs r (lessened (sums_of xs r) at.board at.center v) → of ≡ set a.of s None
    → IsTrue (fits case (record { of = of })) × AreSums case (record { of = of }) zs
leave-at case a xs zs of r s at v fitting within counts sums k h is so =
    let in_range : r < length case.wants = counts-range case a s r fitting within counts in
    let same : zs ≡ set xs r (lessened (sums_of xs r) (place_of case s).board (place_of case s).center (value_for case r (place_of case s).kind)) =
    is ∙ ap (λ (p : Place). set xs r (lessened (sums_of xs r) p.board p.center v)) k ∙ ap (λ n. set xs r (lessened (sums_of xs r) (place_of case s).board (place_of case s).center n)) h in (
      subst (λ (ys : List (Option ℕ)). IsTrue (fits case (record { of = ys }))) (sym so) (with_place-fits case a s None fitting refl),
      subst (λ (ys : List (Option ℕ)). AreSums case (record { of = ys }) zs) (sym so)
          (subst (λ (ws : List Sums). AreSums case (without a s) ws) (sym same) (leave-sums case a xs r s fitting within counts sums in_range)),
    )

pub enter-at : (case : Case) (a : Assignment) (xs zs : List Sums) (of : List (Option ℕ)) (r s : ℕ) (at : Place) (v : ℕ) → IsTrue (fits case a) → s < length case.places → get_or a.of s None ≡ None
    → AreSums case a xs → r < length case.wants → at ≡ place_of case s → v ≡ value_for case r (place_of case s).kind
    → zs ≡ set xs r (raised (sums_of xs r) at.board at.center v) → of ≡ set a.of s (Some r)
    → IsTrue (fits case (record { of = of })) × AreSums case (record { of = of }) zs
enter-at case a xs zs of r s at v fitting within free sums in_range k h is so =
    let there : nat_lt r (length case.wants) ≡ true = grind (arith, nat_tests, in_range) in
    let same : zs ≡ set xs r (raised (sums_of xs r) (place_of case s).board (place_of case s).center (value_for case r (place_of case s).kind)) =
    is ∙ ap (λ (p : Place). set xs r (raised (sums_of xs r) p.board p.center v)) k ∙ ap (λ n. set xs r (raised (sums_of xs r) (place_of case s).board (place_of case s).center n)) h in (
      subst (λ (ys : List (Option ℕ)). IsTrue (fits case (record { of = ys }))) (sym so) (with_place-fits case a s (Some r) fitting there),
      subst (λ (ys : List (Option ℕ)). AreSums case (record { of = ys }) zs) (sym so)
          (subst (λ (ws : List Sums). AreSums case (with_place a s (Some r)) ws) (sym same) (enter-sums case a xs r s fitting within free sums in_range)),
    )

-- what a loss takes, where a table has it
pub lost-part : (case : Case) (a : Assignment) (r number : ℕ) (lost named : Lost) → lost ≡ named → number ≡ units_where (is_lost named) case a r → number ≡ units_where (is_lost lost) case a r
lost-part case a r number lost named e h = h ∙ sym (ap (λ l. units_where (is_lost l) case a r) e)

-- ---- no server counts

sum-nobody : (f : Place × Option ℕ → ℕ) → ((s : Place) → f (s, None) ≡ 0) → (places : List Place) → sum_by f (zip places (replicate (length places) None)) ≡ 0
sum-nobody f nothing [] = refl
sum-nobody f nothing (s ∷ places) =
    omega (arith, sum_by-cons f (s, None) (zip places (replicate (length places) None)), nothing s, sum-nobody f nothing places)

units-nobody : (case : Case) (r : ℕ) → units case (free_plan case) r ≡ 0
units-nobody case r = sum-nobody (share_of case r) (λ s. refl) case.places

part-nobody : (at : Place → ℕ) (case : Case) (r number : ℕ) → in_part at case (free_plan case) r number ≡ 0
part-nobody at case r number =
    sum_by-filter (λ t. at t.0 == number) (share_of case r) (servers_with_places case (free_plan case))
    ∙ sum-nobody (λ t. cond (at t.0 == number) (share_of case r t) 0) (λ s. no-more (at s == number) 0 refl) case.places

all-zero : (n k : ℕ) → ◌≡◌ {A = ℕ} (get_or (replicate n 0) k 0) 0
all-zero zero k = refl
all-zero (suc n) zero = refl
all-zero (suc n) (suc k) = all-zero n k

all-none : (n k : ℕ) → list_all (λ (o : Option ℕ). option_map_or (λ q. nat_lt q n) o true) (replicate k None) ≡ true
all-none n zero = refl
all-none n (suc k) = all-none n k

pub nobody-fits : (case : Case) → IsTrue (fits case (free_plan case))
nobody-fits case =
    let long = length-replicate (length case.places) (let o : Option ℕ = None in o) in
    let same : (length (free_plan case).of == length case.places) ≡ true = grind (arith, nat_tests, long) in
    both _ _ same (all-none (length case.wants) (length case.places))

pub nobody-sums : (case : Case) → AreSums case (free_plan case) (replicate (length case.wants) empty_sums)
nobody-sums case =
    let nothing : ℕ = 0 in
    let read : (r : ℕ) → r < length case.wants → sums_of (replicate (length case.wants) empty_sums) r ≡ empty_sums =
    λ r there. get_or-replicate (length case.wants) r empty_sums no_sums there in
    record {
      long = length-replicate (length case.wants) empty_sums;
      boards_long = λ r there. ap (λ (x : Sums). length x.boards) (read r there) ∙ length-replicate 64 nothing;
      centers_long = λ r there. ap (λ (x : Sums). length x.centers) (read r there) ∙ length-replicate 64 nothing;
      total = λ r there. ap (λ (x : Sums). x.total) (read r there) ∙ sym (units-nobody case r);
      on_board = λ r board there. ap (λ (x : Sums). get_or x.boards board 0) (read r there) ∙ all-zero 64 board ∙ sym (part-nobody (λ t. t.board) case r board);
      in_center = λ r center there. ap (λ (x : Sums). get_or x.centers center 0) (read r there) ∙ all-zero 64 center ∙ sym (part-nobody (λ t. t.center) case r center);
    }
