-- Which places of one server a phase allows.
use Rattle.std.proofs.Common.{◌≡◌, ℕ, set, ◌+◌, ◌-◌, ◌<◌, ◌≤◌, ◌==◌, Bool, true, false, cond, List, length, get_or, arith, ap, sym, ◌∙◌, refl, Some, None, subst}
use Rattle.std.specs.Prelude.{zip, Option, ◌&&◌, nat_le, nat_lt, nat_eq, IsTrue}
use Rattle.std.specs.List.{list_all, range_with_len}
use Rattle.std.specs.Option.{option_map_or, option_eq}
use Rattle.std.proofs.lemmas.List.{length-set}
use Rattle.std.proofs.lemmas.Grind.{get_or-set_at}
use Rattle.std.proofs.lemmas.List.Recursion.{and_set}
use Rattle.std.proofs.lemmas.Slice.Zip.{get_or-zip, length-zip}
use Rattle.std.proofs.lemmas.Bool.{eqb-true, eq-eqb}
use Rattle.std.proofs.lemmas.Bool.Decides.{nat_tests}
use Rattle.plan_model.specs.declared.cases.Place.{Place}
use Rattle.plan_model.specs.declared.cases.Case.{Case}
use Rattle.plan_model.specs.declared.cases.Assignment.{Assignment}
use Rattle.plan_model.specs.Units.{units, units_where, servers_with_places, server_with, place_of, no_place, want_of, value_for}
use Rattle.plan_model.specs.Allowed.{fits, serves, keeps_need, region_allowed}
use Rattle.plan_model.specs.Losses.{is_lost, loss_at}
use Rattle.plan_model.specs.Rack.{is_movable, none_or_in, keeps_to_chosen}
use Rattle.plan_model.proofs.AllowedLaws.{list_all-range_at, keeps-total, keeps-survives, keeps-from}
use Rattle.plan_model.proofs.SumLemmas.{length-fits}
use Rattle.plan_model.proofs.CaseFacts.{list_all-at, and-left, and-right}
use Rattle.program_rows.specs.Settings.{Setting}
use Rattle.program_rows.specs.Phases.{IsStart, phase_allowed}
use Rattle.program_rows.proofs.RangeSums.{list_all-range}
use Rattle.steady_plans.specs.Steady.{replaced}
use Rattle.steady_plans.specs.Local.{may_take}
use Rattle.steady_plans.proofs.Lists.{zip-set}
use Rattle.steady_plans.proofs.Changes.{replaced-twice, replaced-same, gets-units, units-of_all}
use Rattle.steady_plans.proofs.Costs.{HaveSameUnits, keeps-same, others-same}

both : (a b : Bool) → a ≡ true → b ≡ true → (a && b) ≡ true
both true b e h = h
both false b e h = e

option_eq-true : (o p : Option ℕ) → option_eq nat_eq o p ≡ true → o ≡ p
option_eq-true None None h = refl
option_eq-true (Some x) (Some y) h = ap (λ z. Some z) (eqb-true x y h)
option_eq-true None (Some y) h = cc
option_eq-true (Some x) None h = cc

-- a test of all elements, where one of them changes to one that passes
all-set : {X : Type 0} (test : X → Bool) (xs : List X) (i : ℕ) (y : X) → test y ≡ true → list_all test xs ≡ true → list_all test (set xs i y) ≡ true
all-set test xs i y here all = and_set (list_all test) test refl (λ _ _. refl) xs i y here all

-- ---- the needs

cond-most : (b : Bool) (n : ℕ) → cond b n 0 ≤ n
cond-most true n = omega arith
cond-most false n = omega arith

nat_le-of : (m n : ℕ) → nat_le m n ≡ true → m ≤ n
nat_le-of m n h = grind (arith, nat_tests, h)

nat_le-from : (m n : ℕ) → m ≤ n → nat_le m n ≡ true
nat_le-from m n h = grind (arith, nat_tests, h)

-- a reservation that gets a server more keeps its need
pub keeps-more : (case : Case) (b : Assignment) (s r : ℕ) → length b.of ≡ length case.places → s < length case.places → get_or b.of s None ≡ None
    → keeps_need case b r ≡ true → keeps_need case (replaced b s (Some r)) r ≡ true
keeps-more case b s r size within none keeps =
    let c = replaced b s (Some r) in
    let p = place_of case s in
    let need = (want_of case r).need in
    let more : ℕ = cond (r == r) (value_for case r p.kind) 0 in
    let total : units case c r ≡ units case b r + more =
    sym (units-of_all case c r) ∙ gets-units (λ t. 0 == 0) case b s r r size within none ∙ ap (λ n. n + more) (units-of_all case b r) in
    let enough = nat_le-of need (units case b r) (keeps-total case b r keeps) in
    keeps-from case c r (omega (arith, total, enough))
    (λ number there.
    let lost = is_lost (loss_at (want_of case r).protection number) in
    let gone = gets-units lost case b s r r size within none in
    let left = nat_le-of need (units case b r - units_where lost case b r) (keeps-survives case b r number keeps there) in
    let fewer = cond-most (lost p) more in
    omega (arith, total, gone, left, fewer))

module _ (case : Case) (setting : Setting) (start : IsStart case setting) (a : Assignment) (allowed : phase_allowed case setting a ≡ true) (s : ℕ) (within : s < length case.places) where
  abbrev p : Place
  p = place_of case s

  abbrev from : Option ℕ
  from = get_or a.of s None

  abbrev bare : Assignment
  bare = replaced a s None

  fit : IsTrue (fits case a)
  fit = and-left _ _ (and-left _ _ (and-left _ _ allowed))

  size : length a.of ≡ length case.places
  size = length-fits case a fit

  bare-size : length bare.of ≡ length case.places
  bare-size = length-set a.of s None ∙ size

  pub bare-none : get_or bare.of s None ≡ None
  bare-none = get_or-set_at a.of s s None None refl (omega (arith, size, within))

  a-keeps : (q : ℕ) → q < length case.wants → keeps_need case a q ≡ true
  a-keeps q there = list_all-range_at (keeps_need case a) (length case.wants) q (and-right _ _ (and-left _ _ allowed)) there

  back : (to : Option ℕ) → replaced bare s to ≡ replaced a s to
  back to = replaced-twice a s None to

  -- the other reservations keep their needs without the server
  bare-keeps-by : (q : ℕ) (o : Option ℕ) → from ≡ o → q < length case.wants → (o ≡ Some q → keeps_need case bare q ≡ true) → keeps_need case bare q ≡ true
  bare-keeps-by q None is there own = ap (λ (x : Assignment). keeps_need case x q) (replaced-same a s None is) ∙ a-keeps q there
  bare-keeps-by q (Some r) is there own = by (r == q) refl
    where
      by : (b : Bool) → (r == q) ≡ b → keeps_need case bare q ≡ true
      by true e = own (ap (λ z. Some z) (eqb-true r q e))
      by false e =
          let same : HaveSameUnits case (replaced bare s (Some r)) bare q = others-same case bare s r bare-size within bare-none q e in
          sym (keeps-same case (replaced bare s (Some r)) bare q same) ∙ ap (λ (x : Assignment). keeps_need case x q) (back (Some r) ∙ replaced-same a s (Some r) is) ∙ a-keeps q there

  pub bare-keeps : ((r : ℕ) → from ≡ Some r → keeps_need case bare r ≡ true) → (q : ℕ) → q < length case.wants → keeps_need case bare q ≡ true
  bare-keeps own q there = bare-keeps-by q from refl there (own q)

  new-keeps : (to : Option ℕ) → ((q : ℕ) → q < length case.wants → keeps_need case bare q ≡ true) → (q : ℕ) → q < length case.wants → keeps_need case (replaced a s to) q ≡ true
  new-keeps None keeps q there = keeps q there
  new-keeps (Some r) keeps q there = sym (ap (λ (x : Assignment). keeps_need case x q) (back (Some r))) ∙ by (r == q) refl
    where
      by : (b : Bool) → (r == q) ≡ b → keeps_need case (replaced bare s (Some r)) q ≡ true
      by true e =
          let same = eqb-true r q e in
          subst (λ (z : ℕ). keeps_need case (replaced bare s (Some r)) z ≡ true) same (keeps-more case bare s r bare-size within bare-none (subst (λ (z : ℕ). keeps_need case bare z ≡ true) (sym same) (keeps q there)))
      by false e = keeps-same case (replaced bare s (Some r)) bare q (others-same case bare s r bare-size within bare-none q e) ∙ keeps q there

  in-range : (to : Option ℕ) → none_or_in setting.active to ≡ true → option_map_or (λ r. nat_lt r (length case.wants)) to true ≡ true
  in-range None h = refl
  in-range (Some r) h = let there = start.there r h in grind (arith, nat_tests, there)

  start-size : length setting.start.of ≡ length case.places
  start-size = length-fits case setting.start start.fit

  beside : s < length (servers_with_places case setting.start)
  beside = omega (arith, length-zip case.places setting.start.of, start-size, within)

  start-at : get_or (servers_with_places case setting.start) s (no_place, None) ≡ server_with case setting.start s
  start-at = get_or-zip case.places setting.start.of s (no_place, None) within (omega (arith, start-size, within))

  keeps-by : (b : Bool) (to : Option ℕ) → is_movable case setting.active (server_with case setting.start s) ≡ b → b ≡ true → none_or_in setting.active to ≡ true
      → keeps_to_chosen case setting.active (server_with case setting.start s, to) ≡ true
  keeps-by b to e moves in_active = ap (λ z. cond z (none_or_in setting.active to) (option_eq nat_eq (server_with case setting.start s).1 to)) (e ∙ moves) ∙ in_active

  -- a place that a server may take, where the reservation that loses it keeps its need
  pub allowed-place : (to : Option ℕ) → is_movable case setting.active (server_with case setting.start s) ≡ true → may_take case setting s to ≡ true
      → ((r : ℕ) → from ≡ Some r → keeps_need case bare r ≡ true) → phase_allowed case setting (replaced a s to) ≡ true
  allowed-place to movable may own =
      let c = replaced a s to in
      let active : none_or_in setting.active to ≡ true = and-left _ _ may in
      let served : serves case (p, to) ≡ true = serves-by to (and-left _ _ movable) (and-right _ _ may) in
      let long : length c.of ≡ length case.places = length-set a.of s to ∙ size in
      let fitting : fits case c ≡ true =
      both (length c.of == length case.places) (list_all (λ o. option_map_or (λ r. nat_lt r (length case.wants)) o true) c.of) (eq-eqb (length c.of) (length case.places) long)
      (all-set (λ o. option_map_or (λ r. nat_lt r (length case.wants)) o true) a.of s to (in-range to active) (and-right _ _ fit)) in
      let serving : list_all (serves case) (servers_with_places case c) ≡ true =
      ap (list_all (serves case)) (zip-set case.places a.of s to no_place within)
      ∙ all-set (serves case) (servers_with_places case a) s (p, to) served (and-right _ _ (and-left _ _ (and-left _ _ allowed))) in
      let needs : list_all (keeps_need case c) (range_with_len 0 (length case.wants)) ≡ true =
      list_all-range (keeps_need case c) (length case.wants) (new-keeps to (bare-keeps own)) in
      let chosen : list_all (keeps_to_chosen case setting.active) (zip (servers_with_places case setting.start) c.of) ≡ true =
      ap (list_all (keeps_to_chosen case setting.active)) (zip-set (servers_with_places case setting.start) a.of s to (no_place, None) beside)
      ∙ all-set (keeps_to_chosen case setting.active) (zip (servers_with_places case setting.start) a.of) s (get_or (servers_with_places case setting.start) s (no_place, None), to)
      (ap (λ z. keeps_to_chosen case setting.active (z, to)) start-at ∙ keeps-by (is_movable case setting.active (server_with case setting.start s)) to refl movable active)
      (and-right _ _ allowed) in
      both (region_allowed case c) (list_all (keeps_to_chosen case setting.active) (zip (servers_with_places case setting.start) c.of))
      (both (fits case c && list_all (serves case) (servers_with_places case c)) (list_all (keeps_need case c) (range_with_len 0 (length case.wants)))
      (both (fits case c) (list_all (serves case) (servers_with_places case c)) fitting serving) needs)
      chosen
    where
      serves-by : (o : Option ℕ) → (p.up && none_or_in setting.active (server_with case setting.start s).1) ≡ true → option_map_or (λ r. nat_lt 0 (value_for case r p.kind)) o true ≡ true → serves case (p, o) ≡ true
      serves-by None up value = refl
      serves-by (Some r) up value = both p.up (nat_lt 0 (value_for case r p.kind)) (and-left _ _ up) value

  -- ---- and the other way round

  chosen-at : (o : Option ℕ) (c : Assignment) → phase_allowed case setting c ≡ true → get_or c.of s None ≡ o → keeps_to_chosen case setting.active (server_with case setting.start s, o) ≡ true
  chosen-at o c good is =
      let long : length c.of ≡ length case.places = length-fits case c (and-left _ _ (and-left _ _ (and-left _ _ good))) in
      let pairs = servers_with_places case setting.start in
      let inside : s < length (zip pairs c.of) = omega (arith, length-zip pairs c.of, beside, long, within) in
      let read = get_or-zip pairs c.of s ((no_place, None), None) beside (omega (arith, long, within)) in
      sym (ap (λ z. keeps_to_chosen case setting.active z) (read ∙ ap (λ z. (z, get_or c.of s None)) start-at ∙ ap (λ z. (server_with case setting.start s, z)) is))
      ∙ list_all-at (keeps_to_chosen case setting.active) (zip pairs c.of) s ((no_place, None), None) inside (and-right _ _ good)

  served-at : (o : Option ℕ) (c : Assignment) → phase_allowed case setting c ≡ true → get_or c.of s None ≡ o → serves case (p, o) ≡ true
  served-at o c good is =
      let long : length c.of ≡ length case.places = length-fits case c (and-left _ _ (and-left _ _ (and-left _ _ good))) in
      let pairs = servers_with_places case c in
      let inside : s < length pairs = omega (arith, length-zip case.places c.of, long, within) in
      let read = get_or-zip case.places c.of s (no_place, None) within (omega (arith, long, within)) in
      sym (ap (serves case) (read ∙ ap (λ z. (p, z)) is)) ∙ list_all-at (serves case) pairs s (no_place, None) inside (and-right _ _ (and-left _ _ (and-left _ _ good)))

  new-at : (to : Option ℕ) → get_or (replaced a s to).of s None ≡ to
  new-at to = get_or-set_at a.of s s to None refl (omega (arith, size, within))

  -- a server that the phase does not move stays
  pub stays : (to : Option ℕ) → is_movable case setting.active (server_with case setting.start s) ≡ false → phase_allowed case setting (replaced a s to) ≡ true → to ≡ from
  stays to fixed good =
      let start_place = (server_with case setting.start s).1 in
      let same_at : (o : Option ℕ) (c : Assignment) → phase_allowed case setting c ≡ true → get_or c.of s None ≡ o → start_place ≡ o =
      λ o c fine is. option_eq-true start_place o (sym (ap (λ z. cond z (none_or_in setting.active o) (option_eq nat_eq start_place o)) fixed) ∙ chosen-at o c fine is) in
      sym (same_at to (replaced a s to) good (new-at to)) ∙ same_at from a allowed refl

  -- an allowed place is one that the server may take
  pub takes : (to : Option ℕ) → is_movable case setting.active (server_with case setting.start s) ≡ true → phase_allowed case setting (replaced a s to) ≡ true → may_take case setting s to ≡ true
  takes to movable good =
      both (none_or_in setting.active to) (option_map_or (λ r. nat_lt 0 (value_for case r p.kind)) to true)
      (sym (ap (λ z. cond z (none_or_in setting.active to) (option_eq nat_eq (server_with case setting.start s).1 to)) movable) ∙ chosen-at to (replaced a s to) good (new-at to))
      (value-by to (served-at to (replaced a s to) good (new-at to)))
    where
      value-by : (o : Option ℕ) → serves case (p, o) ≡ true → option_map_or (λ r. nat_lt 0 (value_for case r p.kind)) o true ≡ true
      value-by None h = refl
      value-by (Some r) h = and-right _ _ h

  -- where the reservation that has the server needs it, the server stays
  pub needed : (r : ℕ) (to : Option ℕ) → from ≡ Some r → r < length case.wants → keeps_need case bare r ≡ false → phase_allowed case setting (replaced a s to) ≡ true → to ≡ Some r
  needed r None is there lacks good =
      let keeps : keeps_need case bare r ≡ true = list_all-range_at (keeps_need case bare) (length case.wants) r (and-right _ _ (and-left _ _ good)) there in
      let clash : true ≡ false = sym keeps ∙ lacks in
      cc
  needed r (Some q) is there lacks good = by (q == r) refl
    where
      by : (b : Bool) → (q == r) ≡ b → ◌≡◌ {A = Option ℕ} (Some q) (Some r)
      by true e = ap (λ z. Some z) (eqb-true q r e)
      by false e =
          let keeps : keeps_need case (replaced a s (Some q)) r ≡ true = list_all-range_at (keeps_need case (replaced a s (Some q))) (length case.wants) r (and-right _ _ (and-left _ _ good)) there in
          let same = keeps-same case (replaced bare s (Some q)) bare r (others-same case bare s q bare-size within bare-none r e) in
          let bare_keeps : keeps_need case bare r ≡ true = sym same ∙ ap (λ (x : Assignment). keeps_need case x r) (back (Some q)) ∙ keeps in
          let clash : true ≡ false = sym bare_keeps ∙ lacks in
          cc
