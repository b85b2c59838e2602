-- The units of each reservation when one server counts for something else.
use Rattle.std.proofs.Common.{◌≡◌, ℕ, zero, suc, ◌+◌, ◌-◌, ◌<◌, ◌≤◌, ◌≢◌, Bool, true, false, cond, List, [], ◌∷◌, length, get_or, set, map, arith, ap, sym, ◌∙◌, refl, subst, Some, None}
use Rattle.std.specs.Prelude.{Option, sum_by, zip, ◌==◌, ◌&&◌, nat_lt}
use Rattle.std.proofs.lemmas.Bool.Decides.{nat_tests}
use Rattle.std.proofs.lemmas.List.{length-set, get_or-set_same, get_or-set_other, length-map, map-set, get_or-map}
use Rattle.std.proofs.lemmas.List.Sums.{sum_by-set, sum_by-cons, sum_by-le}
use Rattle.std.proofs.lemmas.Slice.Zip.{get_or-zip, length-zip}
use Rattle.plan_model.specs.declared.cases.Place.{Place}
use Rattle.plan_model.specs.declared.cases.Case.{Case}
use Rattle.plan_model.specs.Units.{is_for, share_of, value_for, place_of, no_place}
use Rattle.plan_model.proofs.SumLemmas.{value-most, few-places}
use Rattle.spare_pool.specs.declared.standings.Standing.{Standing}
use Rattle.spare_pool.specs.States.{State, standing_of, with_standing, no_standing, counts_for, units_of, value_of, state_rule, may_stand}
use Rattle.spare_pool.specs.Sums.{AreUnits, lessened, raised, HasUnits, HasRoom}
use Rattle.plan_model.proofs.CaseFacts.{and-left, and-right}
use Rattle.spare_pool.proofs.Rules.{zip-set, rule-long, serves-of, Serves}

-- what a server that counts for a reservation, or for none, gives one
abbrev pub given : State → ℕ → ℕ → Option ℕ → ℕ
given state r s to = share_of state.case r (place_of state.case s, to)

-- a reservation's units when one server stands otherwise
pub units-with : (state : State) (r s : ℕ) (new : Standing) → length state.servers ≡ length state.case.places → s < length state.servers
    → units_of (with_standing state s new) r + given state r s (counts_for (standing_of state s)) ≡ units_of state r + given state r s (counts_for new)
units-with state r s new long within =
    let f : Place × Option ℕ → ℕ = share_of state.case r in
    let places : List Place = state.case.places in
    let of : List (Option ℕ) = map counts_for state.servers in
    let there : s < length places = omega (arith, within, long) in
    let inside_of : s < length of = omega (arith, within, length-map state.servers counts_for) in
    let inside : s < length (zip places of) = omega (arith, there, inside_of, length-zip places of) in
    let at : get_or of s None ≡ counts_for (standing_of state s) = get_or-map counts_for state.servers s no_standing None within in
    let read : f (get_or (zip places of) s (no_place, None)) ≡ f (place_of state.case s, counts_for (standing_of state s)) =
    ap f (get_or-zip places of s (no_place, None) there inside_of) ∙ ap (λ (o : Option ℕ). f (place_of state.case s, o)) at in
    let edit : sum_by f (zip places (map counts_for (set state.servers s new))) ≡ sum_by f (set (zip places of) s (place_of state.case s, counts_for new)) =
    ap (λ (xs : List (Option ℕ)). sum_by f (zip places xs)) (map-set counts_for state.servers s new) ∙ ap (sum_by f) (zip-set places of s (counts_for new) no_place there) in
    let move : sum_by f (set (zip places of) s (place_of state.case s, counts_for new)) + f (get_or (zip places of) s (no_place, None)) ≡ sum_by f (zip places of) + f (place_of state.case s, counts_for new) =
    sum_by-set f (zip places of) s (place_of state.case s, counts_for new) (no_place, None) inside in
    omega (arith, read, edit, move)

-- what a server gives the reservation that it counts for, another one, and any where it counts for none
pub given-same : (state : State) (r s : ℕ) → given state r s (Some r) ≡ value_of state r s
given-same state r s =
    let same : (r == r) ≡ true = grind (arith, nat_tests) in
    ap (λ (b : Bool). let n : ℕ = cond b (value_of state r s) 0 in n) same

pub given-other : (state : State) (q r s : ℕ) → (r == q) ≡ false → given state q s (Some r) ≡ 0
given-other state q r s other = ap (λ (b : Bool). let n : ℕ = cond b (value_of state q s) 0 in n) other

ne-of : (a b : ℕ) → (a == b) ≡ false → b ≢ a
ne-of a b h e = grind (arith, nat_tests, h)

eq-of : (a b : ℕ) → (a == b) ≡ true → a ≡ b
eq-of a b h = grind (arith, nat_tests, h)

-- the numbers beside the servers, one by one, when a server counts no more
lessened-at : (state : State) (s q : ℕ) (from : Option ℕ) (xs : List ℕ) → HasUnits state.case s from xs
    → get_or (lessened state.case s from xs) q 0 + given state q s from ≡ get_or xs q 0
lessened-at state s q None xs some = omega arith
lessened-at state s q (Some r) xs some = at (r == q) refl
  where
    at : (b : Bool) → (r == q) ≡ b → get_or (lessened state.case s (Some r) xs) q 0 + given state q s (Some r) ≡ get_or xs q 0
    at true e =
        let new : ℕ = get_or xs r 0 - value_of state r s in
        let read : get_or (set xs r new) r 0 ≡ new = get_or-set_same xs r new 0 some.1 in
        let gives : given state r s (Some r) ≡ value_of state r s = given-same state r s in
        subst (λ (p : ℕ). get_or (lessened state.case s (Some r) xs) p 0 + given state p s (Some r) ≡ get_or xs p 0) (eq-of r q e) (omega (arith, read, gives, some.2))
    at false e = omega (arith, get_or-set_other xs r q (get_or xs r 0 - value_of state r s) 0 (ne-of r q e), given-other state q r s e)

raised-at : (state : State) (s q : ℕ) (to : Option ℕ) (xs : List ℕ) → HasRoom state.case to xs
    → get_or (raised state.case s to xs) q 0 ≡ get_or xs q 0 + given state q s to
raised-at state s q None xs room = omega arith
raised-at state s q (Some r) xs room = at (r == q) refl
  where
    at : (b : Bool) → (r == q) ≡ b → get_or (raised state.case s (Some r) xs) q 0 ≡ get_or xs q 0 + given state q s (Some r)
    at true e =
        let new : ℕ = get_or xs r 0 + value_of state r s in
        let read : get_or (set xs r new) r 0 ≡ new = get_or-set_same xs r new 0 room.1 in
        let gives : given state r s (Some r) ≡ value_of state r s = given-same state r s in
        subst (λ (p : ℕ). get_or (raised state.case s (Some r) xs) p 0 ≡ get_or xs p 0 + given state p s (Some r)) (eq-of r q e) (omega (arith, read, gives))
    at false e = omega (arith, get_or-set_other xs r q (get_or xs r 0 + value_of state r s) 0 (ne-of r q e), given-other state q r s e)

lessened-long : (case : Case) (s : ℕ) (from : Option ℕ) (xs : List ℕ) → length (lessened case s from xs) ≡ length xs
lessened-long case s None xs = refl
lessened-long case s (Some r) xs = length-set xs r (get_or xs r 0 - value_for case r (place_of case s).kind)

raised-long : (case : Case) (s : ℕ) (to : Option ℕ) (xs : List ℕ) → length (raised case s to xs) ≡ length xs
raised-long case s None xs = refl
raised-long case s (Some r) xs = length-set xs r (get_or xs r 0 + value_for case r (place_of case s).kind)

-- the numbers stay the units when a server stands otherwise
pub units-put : (state : State) (s : ℕ) (new : Standing) (xs ys zs : List ℕ) → length state.servers ≡ length state.case.places → s < length state.servers
    → AreUnits state xs → HasUnits state.case s (counts_for (standing_of state s)) xs → ys ≡ lessened state.case s (counts_for (standing_of state s)) xs
    → HasRoom state.case (counts_for new) ys → zs ≡ raised state.case s (counts_for new) ys
    → AreUnits (with_standing state s new) zs
units-put state s new xs ys zs long within are some left room all =
    record {
      long = ap length all ∙ raised-long state.case s (counts_for new) ys ∙ ap length left ∙ lessened-long state.case s (counts_for (standing_of state s)) xs ∙ are.long;
      each = λ q there.
          let one : get_or ys q 0 + given state q s (counts_for (standing_of state s)) ≡ get_or xs q 0 =
          ap (λ (l : List ℕ). get_or l q 0 + given state q s (counts_for (standing_of state s))) left ∙ lessened-at state s q (counts_for (standing_of state s)) xs some in
          let two : get_or zs q 0 ≡ get_or ys q 0 + given state q s (counts_for new) = ap (λ (l : List ℕ). get_or l q 0) all ∙ raised-at state s q (counts_for new) ys room in
          omega (arith, one, two, are.each q there, units-with state q s new long within);
    }

-- a reservation has at least what one of its servers gives
share-le : (case : Case) (r i : ℕ) (ps : List Place) (os : List (Option ℕ)) → i < length ps → i < length os
    → share_of case r (get_or ps i no_place, get_or os i None) ≤ sum_by (share_of case r) (zip ps os)
share-le case r i [] os h k = absurd (omega (arith, h))
share-le case r i (p ∷ ps) [] h k = absurd (omega (arith, k))
share-le case r zero (p ∷ ps) (o ∷ os) h k = omega (arith, sum_by-cons (share_of case r) (p, o) (zip ps os))
share-le case r (suc i) (p ∷ ps) (o ∷ os) h k = omega (arith, sum_by-cons (share_of case r) (p, o) (zip ps os), share-le case r i ps os (omega (arith, h)) (omega (arith, k)))

pub given-le : (state : State) (r s : ℕ) → length state.servers ≡ length state.case.places → s < length state.servers
    → given state r s (counts_for (standing_of state s)) ≤ units_of state r
given-le state r s long within =
    let there : s < length state.case.places = omega (arith, within, long) in
    let inside : s < length (map counts_for state.servers) = omega (arith, within, length-map state.servers counts_for) in
    let at : get_or (map counts_for state.servers) s None ≡ counts_for (standing_of state s) = get_or-map counts_for state.servers s no_standing None within in
    subst (λ (o : Option ℕ). given state r s o ≤ units_of state r) at (share-le state.case r s state.case.places (map counts_for state.servers) there inside)

-- ---- what a server counts for may be taken away, and what it will count for has room

pub counted : (x : Standing) (r : ℕ) → counts_for x ≡ Some r → x.serves ≡ Some r
counted x r h = on x.up h
  where
    on : (up : Bool) → ◌≡◌ {A = Option ℕ} (cond up x.serves None) (Some r) → x.serves ≡ Some r
    on true k = k
    on false k = cc

pub has-units : (state : State) (s : ℕ) (xs : List ℕ) → state_rule state ≡ true → s < length state.servers → AreUnits state xs
    → HasUnits state.case s (counts_for (standing_of state s)) xs
has-units state s xs rule within are = at (counts_for (standing_of state s)) refl
  where
    at : (o : Option ℕ) → counts_for (standing_of state s) ≡ o → HasUnits state.case s o xs
    at None e = tt
    at (Some r) e =
        let k : Serves state s r = serves-of state s r rule within (counted (standing_of state s) r e) in
        let le : given state r s (Some r) ≤ units_of state r = subst (λ (o : Option ℕ). given state r s o ≤ units_of state r) e (given-le state r s (rule-long state rule) within) in
        let gives : given state r s (Some r) ≡ value_of state r s = given-same state r s in
        (k.in_range, omega (arith, k.in_range, are.long), omega (arith, le, gives, are.each r k.in_range))

share-most : (case : Case) (r : ℕ) (s : Place × Option ℕ) → r < length case.wants → share_of case r s ≤ 1000
share-most case r s within = at (is_for r s.1)
  where
    at : (b : Bool) → cond b (value_for case r s.0.kind) 0 ≤ 1000
    at true = value-most case r s.0.kind within
    at false = omega arith

units-few : (state : State) (r : ℕ) → r < length state.case.wants → units_of state r ≤ 20000000
units-few state r within =
    let of : List (Option ℕ) = map counts_for state.servers in
    omega (arith, sum_by-le (share_of state.case r) 1000 (zip state.case.places of) (λ k d inside. share-most state.case r (get_or (zip state.case.places of) k d) within), length-zip state.case.places of, few-places state.case)

-- the reservation that a server which may stand so counts for is there
stands-range : (case : Case) (p : Place) (x : Standing) (r : ℕ) → may_stand case (p, x) ≡ true → x.serves ≡ Some r → r < length case.wants
stands-range case p x r stands is =
    let all : (x.up && nat_lt r (length case.wants) && nat_lt 0 (value_for case r p.kind)) ≡ true =
    sym (ap (λ (o : Option ℕ). may_stand case (p, record { serves = o; up = x.up })) is) ∙ stands in
    let low : nat_lt r (length case.wants) ≡ true = and-right _ _ (and-left _ _ all) in
    grind (arith, nat_tests, low)

pub has-room : (state : State) (s : ℕ) (new : Standing) (xs ys : List ℕ) → state_rule state ≡ true → s < length state.servers → AreUnits state xs
    → ys ≡ lessened state.case s (counts_for (standing_of state s)) xs → may_stand state.case (place_of state.case s, new) ≡ true
    → HasRoom state.case (counts_for new) ys
has-room state s new xs ys rule within are left stands = at (counts_for new) refl
  where
    at : (o : Option ℕ) → counts_for new ≡ o → HasRoom state.case o ys
    at None e = tt
    at (Some r) e =
        let there : r < length state.case.wants = stands-range state.case (place_of state.case s) new r stands (counted new r e) in
        let from : Option ℕ = counts_for (standing_of state s) in
        let long : length ys ≡ length xs = ap length left ∙ lessened-long state.case s from xs in
        let less : get_or ys r 0 + given state r s from ≡ get_or xs r 0 =
        ap (λ (l : List ℕ). get_or l r 0 + given state r s from) left ∙ lessened-at state s r from xs (has-units state s xs rule within are) in
        (there, omega (arith, there, long, are.long), omega (arith, less, are.each r there, units-few state r there))
