-- The servers at the start, one after the other.
use Rattle.std.proofs.Common.{◌≡◌, ℕ, zero, suc, ◌+◌, ◌<◌, ◌≤◌, true, List, [], ◌∷◌, ◌++◌, length, get_or, set, map, take, drop, arith, ap, ap₂, sym, ◌∙◌, refl, subst, Some, None}
use Rattle.std.specs.Prelude.{Option, sum_by, zip, replicate, nat_lt, ◌==◌}
use Rattle.std.specs.List.{list_all}
use Rattle.std.specs.Option.{option_map_or}
use Rattle.std.proofs.lemmas.Bool.Decides.{nat_tests}
use Rattle.std.proofs.lemmas.List.{length-map, take_all, drop_all, append-nil, get_or-map, length-replicate, get_or-replicate}
use Rattle.std.proofs.lemmas.List.Sums.{sum_by-cons}
use Rattle.std.proofs.lemmas.Slice.Zip.{get_or-zip, length-zip}
use Rattle.plan_model.specs.declared.cases.Place.{Place}
use Rattle.plan_model.specs.declared.cases.Case.{Case}
use Rattle.plan_model.specs.declared.cases.Assignment.{Assignment}
use Rattle.plan_model.specs.Units.{share_of, place_of, no_place, servers_with_places, value_for}
use Rattle.plan_model.specs.Allowed.{fits, serves}
use Rattle.plan_model.proofs.CaseFacts.{list_all-at, and-left, and-right}
use Rattle.plan_model.proofs.SumLemmas.{length-fits}
use Rattle.spare_pool.specs.declared.standings.Standing.{Standing}
use Rattle.spare_pool.specs.States.{State, no_standing, down, counts_for, may_stand, state_rule, is_spare, standing_at_start}
use Rattle.spare_pool.specs.Sums.{AreUnits}
use Rattle.spare_pool.specs.Firsts.{IsSpareOf, IsFirst, AreFirsts}
use Rattle.spare_pool.proofs.Rules.{both, false-true}

-- ---- all servers are down

abbrev pub all_down : Case → State
all_down case = record { case = case; servers = replicate (length case.places) down }

down-at : (n s : ℕ) → get_or (replicate n down) s no_standing ≡ down
down-at zero s = refl
down-at (suc n) zero = refl
down-at (suc n) (suc s) = down-at n s

sum-down : (f : Place × Option ℕ → ℕ) → ((p : Place) → f (p, None) ≡ 0) → (ps : List Place) (n : ℕ) → sum_by f (zip ps (map counts_for (replicate n down))) ≡ 0
sum-down f none [] n = refl
sum-down f none (p ∷ ps) zero = refl
sum-down f none (p ∷ ps) (suc n) = omega (arith, none p, sum-down f none ps n, sum_by-cons f (p, None) (zip ps (map counts_for (replicate n down))))

pub down-units : (case : Case) → AreUnits (all_down case) (replicate (length case.wants) 0)
down-units case =
    let zero_units : ℕ = 0 in
    record {
      long = length-replicate (length case.wants) zero_units;
      each = λ r there. get_or-replicate (length case.wants) r zero_units zero_units there ∙ sym (sum-down (share_of case r) (λ p. refl) case.places (length case.places));
    }

down-stand : (case : Case) (ps : List Place) (n : ℕ) → list_all (may_stand case) (zip ps (replicate n down)) ≡ true
down-stand case [] n = refl
down-stand case (p ∷ ps) zero = refl
down-stand case (p ∷ ps) (suc n) = down-stand case ps n

pub down-rule : (case : Case) → state_rule (all_down case) ≡ true
down-rule case =
    let long : length (replicate (length case.places) down) ≡ length case.places = length-replicate (length case.places) down in
    let same : (length (replicate (length case.places) down) == length case.places) ≡ true = grind (arith, nat_tests, long) in
    both _ _ same (down-stand case case.places (length case.places))

no-spare : (case : Case) (type s : ℕ) → IsSpareOf (all_down case) type s → ⊥
no-spare case type s h = false-true (sym (ap is_spare (down-at (length case.places) s)) ∙ h.spare)

none-first : (case : Case) (type : ℕ) (o : Option ℕ) → o ≡ None → IsFirst (all_down case) type o
none-first case type o is = subst (λ (p : Option ℕ). IsFirst (all_down case) type p) (sym is) (λ s. no-spare case type s)

pub down-firsts : (case : Case) → AreFirsts (all_down case) (replicate case.kinds None)
down-firsts case =
    let none : Option ℕ = None in
    record {
      long = length-replicate case.kinds none;
      each = λ type there. none-first case type _ (get_or-replicate case.kinds type none none there);
    }

-- ---- the servers that stand as at the start, and those that are still down

abbrev pub starts : Case → Assignment → List Standing
starts case a = map standing_at_start (zip case.places a.of)

abbrev pub so_far : List Standing → ℕ → List Standing
so_far xs i = take i xs ++ drop i (replicate (length xs) down)

more-suc : (xs : List Standing) (i : ℕ) → i < length xs → set (so_far xs i) i (get_or xs i no_standing) ≡ so_far xs (suc i)
more-suc [] i h = absurd (omega (arith, h))
more-suc (x ∷ xs) zero h = refl
more-suc (x ∷ xs) (suc i) h = ap (λ ys. x ∷ ys) (more-suc xs i (omega (arith, h)))

pub starts-long : (case : Case) (a : Assignment) → fits case a ≡ true → length (starts case a) ≡ length case.places
starts-long case a fitting = omega (arith, length-map (zip case.places a.of) standing_at_start, length-zip case.places a.of, length-fits case a fitting)

pub starts-none : (case : Case) (a : Assignment) → fits case a ≡ true → replicate (length case.places) down ≡ so_far (starts case a) 0
starts-none case a fitting = ap (λ n. replicate n down) (sym (starts-long case a fitting))

starts-at : (case : Case) (a : Assignment) (s : ℕ) → fits case a ≡ true → s < length case.places → get_or (starts case a) s no_standing ≡ standing_at_start (place_of case s, get_or a.of s None)
starts-at case a s fitting within =
    let there : s < length a.of = omega (arith, within, length-fits case a fitting) in
    let inside : s < length (zip case.places a.of) = omega (arith, within, there, length-zip case.places a.of) in
    get_or-map standing_at_start (zip case.places a.of) s (no_place, None) no_standing inside ∙ ap standing_at_start (get_or-zip case.places a.of s (no_place, None) within there)

pub starts-more : (case : Case) (a : Assignment) (s : ℕ) (servers : List Standing) (new : Standing) → fits case a ≡ true → s < length case.places → servers ≡ so_far (starts case a) s
    → new ≡ standing_at_start (place_of case s, get_or a.of s None) → set servers s new ≡ so_far (starts case a) (s + 1)
starts-more case a s servers new fitting within so is =
    let inside : s < length (starts case a) = omega (arith, within, starts-long case a fitting) in
    let next : suc s ≡ s + 1 = omega arith in
    ap (λ xs. set xs s new) so ∙ ap (set (so_far (starts case a) s) s) (is ∙ sym (starts-at case a s fitting within)) ∙ more-suc (starts case a) s inside ∙ ap (so_far (starts case a)) next

pub starts-whole : (case : Case) (a : Assignment) (n : ℕ) (servers : List Standing) → length case.places ≤ n → fits case a ≡ true → servers ≡ so_far (starts case a) n → servers ≡ starts case a
starts-whole case a n servers past fitting so =
    let long : length (starts case a) ≤ n = omega (arith, past, starts-long case a fitting) in
    let m = length-replicate (length (starts case a)) down in
    let rest : drop n (replicate (length (starts case a)) down) ≡ [] = drop_all n (replicate (length (starts case a)) down) (omega (arith, m, long)) in
    so ∙ ap (λ xs. xs ++ drop n (replicate (length (starts case a)) down)) (take_all n (starts case a) long)
    ∙ ap (λ xs. starts case a ++ xs) rest ∙ append-nil (starts case a)

-- a server that serves may stand so at the start
start-stands : (case : Case) (p : Place) (to : Option ℕ) → option_map_or (λ r. nat_lt r (length case.wants)) to true ≡ true → serves case (p, to) ≡ true
    → may_stand case (p, standing_at_start (p, to)) ≡ true
start-stands case p None there serving = refl
start-stands case p (Some r) there serving =
    both _ _ (both _ _ (and-left p.up (nat_lt 0 (value_for case r p.kind)) serving) there) (and-right p.up (nat_lt 0 (value_for case r p.kind)) serving)

pub starts-stand : (case : Case) (a : Assignment) (s : ℕ) (new : Standing) → fits case a ≡ true → list_all (serves case) (servers_with_places case a) ≡ true → s < length case.places
    → new ≡ standing_at_start (place_of case s, get_or a.of s None) → may_stand case (place_of case s, new) ≡ true
starts-stand case a s new fitting serving within is =
    let there : s < length a.of = omega (arith, within, length-fits case a fitting) in
    let inside : s < length (zip case.places a.of) = omega (arith, within, there, length-zip case.places a.of) in
    let range : option_map_or (λ r. nat_lt r (length case.wants)) (get_or a.of s None) true ≡ true =
    list_all-at (λ (to : Option ℕ). option_map_or (λ r. nat_lt r (length case.wants)) to true) a.of s None there (and-right _ _ fitting) in
    let serves_here : serves case (place_of case s, get_or a.of s None) ≡ true =
    sym (ap (serves case) (get_or-zip case.places a.of s (no_place, None) within there)) ∙ list_all-at (serves case) (zip case.places a.of) s (no_place, None) inside serving in
    ap (λ (x : Standing). may_stand case (place_of case s, x)) is ∙ start-stands case (place_of case s) (get_or a.of s None) range serves_here

pub so_far-long : (xs : List Standing) (i : ℕ) → length (so_far xs i) ≡ length xs
so_far-long xs zero = length-replicate (length xs) down
so_far-long [] (suc i) = refl
so_far-long (x ∷ xs) (suc i) = let rest = so_far-long xs i in cc

pub so_far-within : (case : Case) (a : Assignment) (s : ℕ) (servers : List Standing) → fits case a ≡ true → s < length case.places → servers ≡ so_far (starts case a) s → s < length servers
so_far-within case a s servers fitting within so = omega (arith, within, starts-long case a fitting, ap length so, so_far-long (starts case a) s)

pub state-same : (state : State) (case : Case) (servers : List Standing) → state.case ≡ case → state.servers ≡ servers → state ≡ record { case = case; servers = servers }
state-same state case servers e f = ap₂ (λ (k : Case) (xs : List Standing). let t : State = record { case = k; servers = xs } in t) e f
