-- The region phase and the rack phase are phases, and what each allows and costs is its own.
use Rattle.std.proofs.Common.{◌≡◌, ℕ, zero, suc, ◌+◌, ◌<◌, ◌≤◌, Bool, true, false, cond, List, [], ◌∷◌, length, get_or, arith, ap, sym, ◌∙◌, refl, Some, None, All, subst, replicate}
use Rattle.std.specs.Prelude.{sum_by, filter, zip, Option, nat_lt, nat_eq, ◌==◌, ◌&&◌, ◌||◌, IsTrue, slice_index_or}
use Rattle.std.specs.List.{list_all, list_any, range_with_len}
use Rattle.std.specs.Option.{option_eq, option_map_or}
use Rattle.std.proofs.lemmas.List.Elements.{All-filter, All-head, All-tail, filter_passes}
use Rattle.std.proofs.lemmas.List.Recursion.{or_at}
use Rattle.std.proofs.lemmas.Slice.Zip.{get_or-zip, length-zip}
use Rattle.std.proofs.lemmas.Bool.{eqb-true, eq-eqb}
use Rattle.std.proofs.lemmas.Bool.Decides.{nat_tests}
use Rattle.plan_model.specs.declared.cases.Place.{Place}
use Rattle.plan_model.specs.declared.cases.Case.{Case}
use Rattle.plan_model.specs.declared.cases.Assignment.{Assignment}
use Rattle.plan_model.specs.Units.{value_for, no_place, servers_with_places, all_reservations, free_plan}
use Rattle.plan_model.specs.Allowed.{serves, fits, keeps_need, region_allowed}
use Rattle.plan_model.specs.Costs.{region_cost, rack_cost, rack_excess}
use Rattle.plan_model.specs.Rack.{is_movable, none_or_in, some_value, keeps_to_chosen, rack_allowed}
use Rattle.plan_model.proofs.SumLemmas.{length-fits, sum_by-filter, sum_by-filter-le}
use Rattle.plan_model.proofs.CaseFacts.{list_all-at}
use Rattle.plan_model.proofs.AllowedLaws.{list_all-range_at}
use Rattle.program_rows.specs.Settings.{Setting, region_setting, rack_setting}
use Rattle.program_rows.specs.Phases.{IsPhase, is_active, phase_allowed, phase_cost}
use Rattle.program_rows.proofs.RangeSums.{some_value-of, once-in_range, none-in_range, value-in_range, in-range}
use Rattle.program_rows.proofs.PhaseSums.{any-weaker, any-at, once-sum, All-trio, trio}
use Rattle.program_rows.proofs.PhaseCosts.{list_all-from}
use Rattle.class_expand.specs.PhaseLaws.{AreChosen, RegionAllowedIsWholePoint, RegionWholePointIsAllowed, RackAllowedIsWholePoint, RackWholePointIsAllowed}
use Rattle.program_rows.proofs.Lists.{All-range_to}
use Rattle.class_expand.proofs.WholePoint.{allowed-is_point}
use Rattle.class_expand.proofs.Back.{point-is_allowed}

and-left : (a b : Bool) → (a && b) ≡ true → a ≡ true
and-left true b h = refl
and-left false b h = h

and-right : (a b : Bool) → (a && b) ≡ true → b ≡ true
and-right true b h = h
and-right false b h = cc

both : (a b : Bool) → a ≡ true → b ≡ true → (a && b) ≡ true
both true b e h = h
both false b e h = e

same_answer : (a b : Bool) → (a ≡ true → b ≡ true) → (b ≡ true → a ≡ true) → a ≡ b
same_answer true b f g = sym (f refl)
same_answer false true f g = g refl
same_answer false false f g = refl

none-of : (n s : ℕ) → slice_index_or (replicate {A = Option ℕ} n None) s None ≡ None
none-of zero s = refl
none-of (suc n) zero = refl
none-of (suc n) (suc s) = none-of n s

in_range-most : (n r : ℕ) (b : Bool) → nat_lt r n ≡ b → sum_by (λ q. cond (q == r) 1 0) (range_with_len 0 n) ≤ 1
in_range-most n r true e = let within : r < n = grind (arith, nat_tests, e) in let once = once-in_range n r within in omega (arith, once)
in_range-most n r false e = let past : n ≤ r = grind (arith, nat_tests, e) in let none = none-in_range n r past in omega (arith, none)

lt-from : (m n : ℕ) → nat_lt m n ≡ true → m < n
lt-from m n h = grind (arith, nat_tests)

lt-true : (m n : ℕ) → m < n → nat_lt m n ≡ true
lt-true m n h = grind (arith, nat_tests)

length-none : (n : ℕ) → length (replicate {A = Option ℕ} n None) ≡ n
length-none zero = refl
length-none (suc n) = ap suc (length-none n)

all-none : (test : Option ℕ → Bool) → test None ≡ true → (n : ℕ) → list_all test (replicate n None) ≡ true
all-none test h zero = refl
all-none test h (suc n) = both (test None) (list_all test (replicate n None)) h (all-none test h n)

serve-none : (case : Case) (ps : List Place) → list_all (serves case) (zip ps (replicate (length ps) None)) ≡ true
serve-none case [] = refl
serve-none case (p ∷ ps) = serve-none case ps

there-range : (n r : ℕ) → list_any (λ q. q == r) (range_with_len 0 n) ≡ true → r < n
there-range n r h = any-at (λ q. q < n) r (range_with_len 0 n) (All-range_to (λ q. q < n) n (λ q within. within)) h

-- ---- the region phase

pub region-is_phase : (case : Case) → IsPhase case (region_setting case)
region-is_phase case = record {
  there = λ r active. there-range (length case.wants) r active;
  once = λ r. in_range-most (length case.wants) r (nat_lt r (length case.wants)) refl;
  fit = both (length (free_plan case).of == length case.places) (list_all (λ to. option_map_or (λ r. nat_lt r (length case.wants)) to true) (free_plan case).of)
      (eq-eqb (length (free_plan case).of) (length case.places) (length-none (length case.places)))
      (all-none (λ to. option_map_or (λ r. nat_lt r (length case.wants)) to true) refl (length case.places));
  serve = serve-none case case.places;
  keep = λ r within idle. let clash : true ≡ false = sym (in-range (length case.wants) r within) ∙ idle in cc;
}

region-keeps : (case : Case) (p : Place) (to : Option ℕ) → option_map_or (λ r. nat_lt r (length case.wants)) to true ≡ true → serves case (p, to) ≡ true
    → (b : Bool) → is_movable case (all_reservations case) (p, None) ≡ b → cond b (none_or_in (all_reservations case) to) (option_eq nat_eq None to) ≡ true
region-keeps case p None fit served true e = refl
region-keeps case p None fit served false e = refl
region-keeps case p (Some q) fit served true e = in-range (length case.wants) q (lt-from q (length case.wants) fit)
region-keeps case p (Some q) fit served false e =
    let moves : is_movable case (all_reservations case) (p, None) ≡ true =
    both _ _ (both p.up true (and-left _ _ served) refl) (some_value-of case q p.kind (lt-from q (length case.wants) fit) (and-right _ _ served)) in
    let clash : true ≡ false = sym moves ∙ e in
    cc

pub region-phase_allowed : (case : Case) (a : Assignment) → region_allowed case a ≡ true → phase_allowed case (region_setting case) a ≡ true
region-phase_allowed case a allowed =
    let setting = region_setting case in
    let phase = region-is_phase case in
    let first = and-left _ _ allowed in
    let fit : IsTrue (fits case a) = and-left _ _ first in
    let same = length-fits case a fit in
    both (region_allowed case a) (list_all (keeps_to_chosen case setting.active) (trio case setting phase a same)) allowed
    (list_all-from (keeps_to_chosen case setting.active) (trio case setting phase a same)
    (All-trio case setting phase a same (λ s. keeps_to_chosen case setting.active s ≡ true) (λ i within.
    let p : Place = get_or case.places i no_place in
    let to : Option ℕ = get_or a.of i None in
    let second : i < length a.of = omega (arith, same, within) in
    let beside : i < length (servers_with_places case a) = omega (arith, length-zip case.places a.of, same, within) in
    let ranged = list_all-at (λ o. option_map_or (λ r. nat_lt r (length case.wants)) o true) a.of i None second (and-right _ _ fit) in
    let served : serves case (p, to) ≡ true = subst (λ s. serves case s ≡ true) (get_or-zip case.places a.of i (no_place, None) within second) (list_all-at (serves case) (servers_with_places case a) i (no_place, None) beside (and-right _ _ first)) in
    ap (λ o. keeps_to_chosen case setting.active ((p, o), to)) (none-of (length case.places) i)
    ∙ region-keeps case p to ranged served (is_movable case setting.active (p, None)) refl)))

plus-none : (n : ℕ) → n + 0 ≡ n
plus-none n = omega arith

pub region-up : RegionAllowedIsWholePoint
region-up case how program a is allowed =
    let up = allowed-is_point case (region_setting case) how program a (region-is_phase case) is (region-phase_allowed case a allowed) in
    (up.0, up.1 ∙ plus-none (region_cost case a))

pub region-back : RegionWholePointIsAllowed
region-back case how program point a is whole expands =
    let back = point-is_allowed case (region_setting case) how program point a (region-is_phase case) is whole expands in
    let most : region_cost case a + 0 ≤ _ = back.1 in
    (and-left _ _ back.0, omega (arith, most))

-- ---- the rack phase

any-filter : (p t : ℕ → Bool) (xs : List ℕ) → list_any t (filter p xs) ≡ list_any (λ x. p x && t x) xs
any-filter p t [] = refl
any-filter p t (x ∷ xs) =
    let step : (b : Bool) → list_any t (cond b (x ∷ filter p xs) (filter p xs)) ≡ ((b && t x) || list_any (λ y. p y && t y) xs) =
    λ b. elim b as (λ v. list_any t (cond v (x ∷ filter p xs) (filter p xs)) ≡ ((v && t x) || list_any (λ y. p y && t y) xs))
    [ true ↦ ap (λ c. t x || c) (any-filter p t xs) | false ↦ any-filter p t xs ] in
    step (p x)

list_all-agree : {X : Type 0} (f g : X → Bool) (xs : List X) → All (λ x. f x ≡ g x) xs → list_all f xs ≡ list_all g xs
list_all-agree f g [] a = refl
list_all-agree f g (x ∷ xs) a =
    ap (λ b. b && list_all f xs) (All-head (λ y. f y ≡ g y) x xs a) ∙ ap (λ b. g x && b) (list_all-agree f g xs (All-tail (λ y. f y ≡ g y) x xs a))

-- some element that passes, as what holds of each that passes
any-passes : (p : ℕ → Bool) (b : Bool) (xs : List ℕ) → All (λ x. p x ≡ true → b ≡ true) xs → list_any p xs ≡ true → b ≡ true
any-passes p b [] a e = cc
any-passes p b (x ∷ xs) a e =
    let step : (c : Bool) → p x ≡ c → (c || list_any p xs) ≡ true → b ≡ true =
    λ c. elim c as (λ v. p x ≡ v → (v || list_any p xs) ≡ true → b ≡ true)
    [ true ↦ λ f k. All-head (λ y. p y ≡ true → b ≡ true) x xs a f | false ↦ λ f k. any-passes p b xs (All-tail (λ y. p y ≡ true → b ≡ true) x xs a) k ] in
    step (p x) refl e

any-itself : (xs : List ℕ) → All (λ r. list_any (λ q. q == r) xs ≡ true) xs
any-itself xs k d within = or_at (list_any (λ q. q == get_or xs k d)) (λ q. q == get_or xs k d) refl (λ _ _. refl) xs k d within (eq-eqb (get_or xs k d) (get_or xs k d) refl)

-- one that is there and passes
any-from : (p : ℕ → Bool) (r : ℕ) (xs : List ℕ) → list_any (λ q. q == r) xs ≡ true → p r ≡ true → list_any p xs ≡ true
any-from p r xs there h = any-weaker (λ q. q == r) p (λ q e. ap p (eqb-true q r e) ∙ h) xs there

module _ (case : Case) (region : Assignment) (chosen : List ℕ) where
  abbrev setting : Setting
  setting = rack_setting case region chosen

  abbrev is_chosen : ℕ → Bool
  is_chosen r = list_any (λ q. q == r) chosen

  -- the active reservations are the chosen ones that are there
  active-chosen : (r : ℕ) → is_active setting r ≡ true → is_chosen r ≡ true
  active-chosen r h =
      any-at (λ q. is_chosen q ≡ true) r setting.active (filter_passes is_chosen (range_with_len 0 (length case.wants))) h

  active-there : (r : ℕ) → is_active setting r ≡ true → r < length case.wants
  active-there r h =
      any-at (λ q. q < length case.wants) r setting.active (All-filter is_chosen (λ q. q < length case.wants) (range_with_len 0 (length case.wants)) (All-range_to (λ q. q < length case.wants) (length case.wants) (λ q within. within))) h

  chosen-active : (r : ℕ) → r < length case.wants → is_chosen r ≡ true → is_active setting r ≡ true
  chosen-active r within h =
      any-filter is_chosen (λ q. q == r) (range_with_len 0 (length case.wants))
      ∙ any-weaker (λ q. q == r) (λ q. is_chosen q && q == r) (λ q e. both (is_chosen q) (q == r) (ap is_chosen (eqb-true q r e) ∙ h) e) (range_with_len 0 (length case.wants)) (in-range (length case.wants) r within)

  pub rack-is_phase : region_allowed case region ≡ true → IsPhase case setting
  rack-is_phase allowed = record {
    there = active-there;
    once = λ r. let less = sum_by-filter-le is_chosen (λ q. cond (q == r) 1 0) (range_with_len 0 (length case.wants)) in
        let most = in_range-most (length case.wants) r (nat_lt r (length case.wants)) refl in omega (arith, less, most);
    fit = and-left _ _ (and-left _ _ allowed);
    serve = and-right _ _ (and-left _ _ allowed);
    keep = λ r within idle. list_all-range_at (keeps_need case region) (length case.wants) r (and-right _ _ allowed) within;
  }

  -- over reservations that are there the two lists say the same
  none_or-same : (to : Option ℕ) → option_map_or (λ r. nat_lt r (length case.wants)) to true ≡ true → none_or_in chosen to ≡ none_or_in setting.active to
  none_or-same None h = refl
  none_or-same (Some r) h = same_answer (is_chosen r) (is_active setting r) (chosen-active r (lt-from r (length case.wants) h)) (active-chosen r)

  some_value-same : (kind : ℕ) → some_value case chosen kind ≡ some_value case setting.active kind
  some_value-same kind =
      let passes : ℕ → Bool = λ r. nat_lt 0 (value_for case r kind) in
      same_answer (list_any passes chosen) (list_any passes setting.active)
      (any-passes passes (list_any passes setting.active) chosen
      (λ k d inside h. let r = get_or chosen k d in any-from passes r setting.active (chosen-active r (value-in_range case r kind h) (any-itself chosen k d inside)) h))
      (any-passes passes (list_any passes chosen) setting.active
      (λ k d inside h. let r = get_or setting.active k d in any-from passes r chosen (active-chosen r (any-itself setting.active k d inside)) h))

  may_move-same : (p : Place) (from : Option ℕ) → option_map_or (λ r. nat_lt r (length case.wants)) from true ≡ true → is_movable case chosen (p, from) ≡ is_movable case setting.active (p, from)
  may_move-same p from h = ap (λ b. p.up && b && some_value case chosen p.kind) (none_or-same from h) ∙ ap (λ b. p.up && none_or_in setting.active from && b) (some_value-same p.kind)

  keeps-same : (p : Place) (from to : Option ℕ) → option_map_or (λ r. nat_lt r (length case.wants)) from true ≡ true → option_map_or (λ r. nat_lt r (length case.wants)) to true ≡ true
      → keeps_to_chosen case chosen ((p, from), to) ≡ keeps_to_chosen case setting.active ((p, from), to)
  keeps-same p from to h k =
      ap (λ b. cond b (none_or_in chosen to) (option_eq nat_eq from to)) (may_move-same p from h) ∙ ap (λ b. cond (is_movable case setting.active (p, from)) b (option_eq nat_eq from to)) (none_or-same to k)

  module _ (allowed : region_allowed case region ≡ true) (a : Assignment) (fit : IsTrue (fits case a)) where
    abbrev all : List ((Place × Option ℕ) × Option ℕ)
    all = trio case setting (rack-is_phase allowed) a (length-fits case a fit)

    trio-same : All (λ s. keeps_to_chosen case chosen s ≡ keeps_to_chosen case setting.active s) all
    trio-same = All-trio case setting (rack-is_phase allowed) a (length-fits case a fit) (λ s. keeps_to_chosen case chosen s ≡ keeps_to_chosen case setting.active s) (λ i within.
        let fits_region : IsTrue (fits case region) = and-left _ _ (and-left _ _ allowed) in
        let first : i < length region.of = (let same = length-fits case region fits_region in omega (arith, same, within)) in
        let second : i < length a.of = (let same = length-fits case a fit in omega (arith, same, within)) in
        keeps-same (get_or case.places i no_place) (get_or region.of i None) (get_or a.of i None)
        (list_all-at (λ o. option_map_or (λ r. nat_lt r (length case.wants)) o true) region.of i None first (and-right _ _ fits_region))
        (list_all-at (λ o. option_map_or (λ r. nat_lt r (length case.wants)) o true) a.of i None second (and-right _ _ fit)))

    lists-same : list_all (keeps_to_chosen case chosen) (zip (servers_with_places case region) a.of) ≡ list_all (keeps_to_chosen case setting.active) (zip (servers_with_places case region) a.of)
    lists-same = list_all-agree (keeps_to_chosen case chosen) (keeps_to_chosen case setting.active) all trio-same

  pub rack-phase_allowed : region_allowed case region ≡ true → (a : Assignment) → region_allowed case a ≡ true → rack_allowed case region chosen a ≡ phase_allowed case setting a
  rack-phase_allowed allowed a good = ap (λ b. region_allowed case a && b) (lists-same allowed a (and-left _ _ (and-left _ _ good)))

  pub rack-phase_cost : AreChosen case chosen → (a : Assignment) → rack_cost case a chosen ≡ phase_cost case setting a
  rack-phase_cost are a =
      ap (λ n. region_cost case a + n) (once-sum (rack_excess case a) (length case.wants) chosen are.there are.once ∙ sym (sum_by-filter is_chosen (rack_excess case a) (range_with_len 0 (length case.wants))))

pub rack-up : RackAllowedIsWholePoint
rack-up case region chosen how program a good are is allowed =
    let phase = rack-is_phase case region chosen good in
    let same = rack-phase_allowed case region chosen good a (and-left _ _ allowed) in
    let up = allowed-is_point case (rack_setting case region chosen) how program a phase is (sym same ∙ allowed) in
    (up.0, up.1 ∙ sym (rack-phase_cost case region chosen are a))

pub rack-back : RackWholePointIsAllowed
rack-back case region chosen how program point a good are is whole expands =
    let phase = rack-is_phase case region chosen good in
    let back = point-is_allowed case (rack_setting case region chosen) how program point a phase is whole expands in
    let same = rack-phase_allowed case region chosen good a (and-left _ _ back.0) in
    let cost = rack-phase_cost case region chosen are a in
    let most = back.1 in
    (same ∙ back.0, omega (arith, most, cost))
