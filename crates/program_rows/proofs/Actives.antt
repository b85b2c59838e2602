-- The active reservations and the start of a phase.
use Rattle.std.proofs.Common.{◌≡◌, ℕ, zero, suc, take, ◌+◌, ◌<◌, ◌≤◌, Bool, true, false, cond, List, [], ◌∷◌, ◌++◌, length, get_or, replicate, arith, ap, sym, ◌∙◌, refl, Some, None, All, subst}
use Rattle.std.specs.Prelude.{filter, sum_by, Option, nat_lt, ◌==◌, ◌&&◌, ◌||◌, IsTrue, slice_index_or}
use Rattle.std.specs.List.{list_all, list_any, range_with_len}
use Rattle.std.specs.Option.{option_map_or}
use Rattle.std.proofs.lemmas.List.{append-nil, length-map, length-replicate, get_or-map, take_more, take_all}
use Rattle.std.proofs.lemmas.List.FromFn.{length-range_with_len}
use Rattle.std.proofs.lemmas.List.Elements.{filter-append}
use Rattle.std.proofs.lemmas.List.Folds.{list_any-append}
use Rattle.std.proofs.lemmas.Slice.Zip.{get_or-zip, length-zip}
use Rattle.std.proofs.lemmas.Bool.{eqb-true, eq-eqb}
use Rattle.std.proofs.lemmas.Bool.Decides.{nat_tests}
use Rattle.plan_model.specs.declared.cases.Case.{Case}
use Rattle.plan_model.specs.Units.{value_for, all_reservations, servers_with_places, server_with, no_place, free_plan}
use Rattle.plan_model.specs.Allowed.{fits}
use Rattle.plan_model.specs.Rack.{some_value, none_or_in, is_movable}
use Rattle.plan_model.proofs.NumberLemmas.{range_more}
use Rattle.plan_model.proofs.SumLemmas.{length-fits, sum_by-filter-le}
use Rattle.plan_model.proofs.CaseFacts.{list_all-at}
use Rattle.program_rows.specs.declared.phases.Phase.{Phase}
use Rattle.program_rows.specs.declared.phases.Phase.TheVariants.{Region, Rack}
use Rattle.program_rows.specs.Settings.{setting_of, movable_flags, start_fits, makes_active, start_place}
use Rattle.program_rows.proofs.RangeSums.{once-in_range, none-in_range}
use Rattle.program_rows.specs.Phases.{IsStart}
use Rattle.program_rows.proofs.Lists.{All-range_to, All-filter_to}
use Rattle.program_rows.proofs.PhaseSums.{any-at, any-weaker}
use Rattle.program_rows.proofs.Pushes.{length-filter}

and-left : (a b : Bool) → (a && b) ≡ true → a ≡ true
and-left true b h = refl
and-left false b h = h

and-right : (a b : Bool) → (a && b) ≡ true → b ≡ true
and-right true b h = h
and-right false b h = cc

pub filter-true : {X : Type 0} (xs : List X) → filter (λ _. true) xs ≡ xs
filter-true [] = refl
filter-true (x ∷ xs) = ap (λ ys. x ∷ ys) (filter-true xs)

-- the active reservations are those that the phase makes active
pub active-is : (case : Case) (phase : Phase) → (setting_of case phase).active ≡ filter (makes_active phase) (all_reservations case)
active-is case Region = sym (filter-true (all_reservations case))
active-is case (Rack from chosen) = refl

pub any-filter : {X : Type 0} (p t : X → Bool) (xs : List X) → list_any t (filter p xs) ≡ list_any (λ x. p x && t x) xs
any-filter p t [] = refl
any-filter p t (x ∷ xs) =
    let step : (b : Bool) → list_any t (cond b (x ∷ filter p xs) (filter p xs)) ≡ ((b && t x) || list_any (λ y. p y && t y) xs) =
    λ b. elim b as (λ v. list_any t (cond v (x ∷ filter p xs) (filter p xs)) ≡ ((v && t x) || list_any (λ y. p y && t y) xs))
    [ true ↦ ap (λ c. t x || c) (any-filter p t xs) | false ↦ any-filter p t xs ] in
    step (p x)

or-false : (b c : Bool) → b ≡ false → c ≡ false → (b || c) ≡ false
or-false true c e f = cc
or-false false c e f = f

or-true : (b c : Bool) → c ≡ true → (b || c) ≡ true
or-true true c f = refl
or-true false c f = f

or-none : (b : Bool) → (b || false) ≡ b
or-none true = refl
or-none false = refl

both : (a b : Bool) → a ≡ true → b ≡ true → (a && b) ≡ true
both true b e h = h
both false b e h = e

-- one more number of a range
pub any-range_more : (t : ℕ → Bool) (n : ℕ) → list_any t (range_with_len 0 (n + 1)) ≡ (list_any t (range_with_len 0 n) || t n)
any-range_more t n = ap (list_any t) (range_more n) ∙ list_any-append t (range_with_len 0 n) (n ∷ []) ∙ ap (λ b. list_any t (range_with_len 0 n) || b) (or-none (t n))

pub any-range_fails : (t : ℕ → Bool) (n : ℕ) → list_any t (range_with_len 0 n) ≡ false → t n ≡ false → list_any t (range_with_len 0 (n + 1)) ≡ false
any-range_fails t n e f = any-range_more t n ∙ or-false (list_any t (range_with_len 0 n)) (t n) e f

by-suc : (t : ℕ → Bool) (n i : ℕ) → (b : Bool) → nat_lt i n ≡ b → i < suc n → t i ≡ true → (i < n → list_any t (range_with_len 0 n) ≡ true) → (list_any t (range_with_len 0 n) || t n) ≡ true
by-suc t n i true e within h below =
    let less : i < n = grind (arith, nat_tests, e) in
    ap (λ b. b || t n) (below less)
by-suc t n i false e within h below =
    let same : i ≡ n = grind (arith, nat_tests, e) in
    or-true (list_any t (range_with_len 0 n)) (t n) (ap t (sym same) ∙ h)

-- a number of a range that passes
pub any-range_passes : (t : ℕ → Bool) (n i : ℕ) → i < n → t i ≡ true → list_any t (range_with_len 0 n) ≡ true
any-range_passes t zero i within h = absurd (omega arith)
any-range_passes t (suc n) i within h =
    let next : suc n ≡ n + 1 = omega arith in
    ap (λ k. list_any t (range_with_len 0 k)) next ∙ any-range_more t n ∙ by-suc t n i (nat_lt i n) refl within h (λ less. any-range_passes t n i less h)

-- whether some active reservation has a value, over all numbers
pub some_value-is : (case : Case) (phase : Phase) (kind : ℕ)
    → some_value case (setting_of case phase).active kind ≡ list_any (λ r. makes_active phase r && nat_lt 0 (value_for case r kind)) (range_with_len 0 (length case.wants))
some_value-is case phase kind =
    ap (λ rs. some_value case rs kind) (active-is case phase)
    ∙ any-filter (makes_active phase) (λ r. nat_lt 0 (value_for case r kind)) (all_reservations case)

any-one : (p : ℕ → Bool) (n r : ℕ) → r < n → (b : Bool) → p r ≡ b → list_any (λ q. p q && (q == r)) (range_with_len 0 n) ≡ b
any-one p n r within true e = any-range_passes (λ q. p q && (q == r)) n r within (both (p r) (r == r) e (eq-eqb r r refl))
any-one p n r within false e = none n
  where
    none-at : (q : ℕ) → (b c : Bool) → p q ≡ b → (q == r) ≡ c → (b && c) ≡ false
    none-at q true true f g = let same : p q ≡ p r = ap p (eqb-true q r g) in let clash : true ≡ false = sym f ∙ same ∙ e in cc
    none-at q true false f g = refl
    none-at q false c f g = refl

    none : (m : ℕ) → list_any (λ q. p q && (q == r)) (range_with_len 0 m) ≡ false
    none zero = refl
    none (suc m) =
        let next : suc m ≡ m + 1 = omega arith in
        ap (λ k. list_any (λ q. p q && (q == r)) (range_with_len 0 k)) next ∙ any-range_fails (λ q. p q && (q == r)) m (none m) (none-at m (p m) (m == r) refl refl)

-- a reservation that is there is active where the phase makes it so
pub is-active : (case : Case) (phase : Phase) (r : ℕ) → r < length case.wants → list_any (λ q. q == r) (setting_of case phase).active ≡ makes_active phase r
is-active case phase r within =
    ap (list_any (λ q. q == r)) (active-is case phase)
    ∙ any-filter (makes_active phase) (λ q. q == r) (all_reservations case)
    ∙ any-one (makes_active phase) (length case.wants) r within (makes_active phase r) refl

-- ---- the start

none-of : (n s : ℕ) → slice_index_or (replicate {A = Option ℕ} n None) s None ≡ None
none-of zero s = refl
none-of (suc n) zero = refl
none-of (suc n) (suc s) = none-of n s

pub start-is : (case : Case) (phase : Phase) (s : ℕ) → slice_index_or (setting_of case phase).start.of s None ≡ start_place phase s
start-is case Region s = none-of (length case.places) s
start-is case (Rack from chosen) s = refl

pub start-within : (case : Case) (phase : Phase) (s : ℕ) → start_fits case phase ≡ true → s < length case.places
    → option_map_or (λ r. nat_lt r (length case.wants)) (start_place phase s) true ≡ true
start-within case Region s fit within = refl
start-within case (Rack from chosen) s fit within =
    let same = length-fits case from.now fit in
    let inside : s < length from.now.of = omega (arith, same, within) in
    list_all-at (λ to. option_map_or (λ r. nat_lt r (length case.wants)) to true) from.now.of s None inside (and-right _ _ fit)

none_or_in-by : (case : Case) (phase : Phase) (to : Option ℕ) → option_map_or (λ r. nat_lt r (length case.wants)) to true ≡ true
    → none_or_in (setting_of case phase).active to ≡ option_map_or (makes_active phase) to true
none_or_in-by case phase None fit = refl
none_or_in-by case phase (Some r) fit = let within : r < length case.wants = grind (arith, nat_tests, fit) in is-active case phase r within

-- whether a server starts with none or an active reservation
pub none_or_in-is : (case : Case) (phase : Phase) (s : ℕ) → start_fits case phase ≡ true → s < length case.places
    → none_or_in (setting_of case phase).active (slice_index_or (setting_of case phase).start.of s None) ≡ option_map_or (makes_active phase) (start_place phase s) true
none_or_in-is case phase s fit within =
    ap (none_or_in (setting_of case phase).active) (start-is case phase s) ∙ none_or_in-by case phase (start_place phase s) (start-within case phase s fit within)

-- ---- the flags of movable servers

same-length : (case : Case) (phase : Phase) → start_fits case phase ≡ true → length (setting_of case phase).start.of ≡ length case.places
same-length case Region fit = length-replicate (length case.places) None
same-length case (Rack from chosen) fit = length-fits case from.now fit

pub length-assigned : (case : Case) (phase : Phase) → start_fits case phase ≡ true → length (servers_with_places case (setting_of case phase).start) ≡ length case.places
length-assigned case phase fit = let same = same-length case phase fit in omega (arith, length-zip case.places (setting_of case phase).start.of, same)

pub assigned-at : (case : Case) (phase : Phase) → start_fits case phase ≡ true → (s : ℕ) → s < length case.places
    → get_or (servers_with_places case (setting_of case phase).start) s (no_place, None) ≡ server_with case (setting_of case phase).start s
assigned-at case phase fit s within =
    let same = same-length case phase fit in
    get_or-zip case.places (setting_of case phase).start.of s (no_place, None) within (omega (arith, same, within))

pub length-flags : (case : Case) (phase : Phase) → start_fits case phase ≡ true → length (movable_flags case (setting_of case phase)) ≡ length case.places
length-flags case phase fit =
    let setting = setting_of case phase in
    let same = same-length case phase fit in
    omega (arith, length-map (servers_with_places case setting.start) (is_movable case setting.active), length-zip case.places setting.start.of, same)

pub flag-at : (case : Case) (phase : Phase) → start_fits case phase ≡ true → (s : ℕ) → s < length case.places
    → get_or (movable_flags case (setting_of case phase)) s false ≡ is_movable case (setting_of case phase).active (server_with case (setting_of case phase).start s)
flag-at case phase fit s within =
    let setting = setting_of case phase in
    let same = same-length case phase fit in
    let second : s < length setting.start.of = omega (arith, same, within) in
    let beside : s < length (servers_with_places case setting.start) = omega (arith, length-zip case.places setting.start.of, same, within) in
    get_or-map (is_movable case setting.active) (servers_with_places case setting.start) s (no_place, None) false beside
    ∙ ap (is_movable case setting.active) (get_or-zip case.places setting.start.of s (no_place, None) within second)

pub flags-more : (case : Case) (phase : Phase) → start_fits case phase ≡ true → (s : ℕ) → s < length case.places
    → take (s + 1) (movable_flags case (setting_of case phase))
    ≡ take s (movable_flags case (setting_of case phase)) ++ is_movable case (setting_of case phase).active (server_with case (setting_of case phase).start s) ∷ []
flags-more case phase fit s within =
    let flags = movable_flags case (setting_of case phase) in
    let inside : s < length flags = omega (arith, length-flags case phase fit, within) in
    take_more flags s false inside ∙ ap (λ b. take s flags ++ b ∷ []) (flag-at case phase fit s within)

pub flags-all : (case : Case) (phase : Phase) → start_fits case phase ≡ true → (n : ℕ) → length case.places ≤ n
    → take n (movable_flags case (setting_of case phase)) ≡ movable_flags case (setting_of case phase)
flags-all case phase fit n past =
    let flags = movable_flags case (setting_of case phase) in
    take_all n flags (omega (arith, length-flags case phase fit, past))

-- ---- one more reservation

filter-one : (p : ℕ → Bool) (n : ℕ) (b : Bool) → p n ≡ b → filter p (n ∷ []) ≡ cond b (n ∷ []) []
filter-one p n true e = ap (λ b. cond b (n ∷ []) []) e
filter-one p n false e = ap (λ b. cond b (n ∷ []) []) e

range-more : (p : ℕ → Bool) (n : ℕ) (b : Bool) → p n ≡ b → filter p (range_with_len 0 (n + 1)) ≡ filter p (range_with_len 0 n) ++ cond b (n ∷ []) []
range-more p n b e = ap (filter p) (range_more n) ∙ filter-append p (range_with_len 0 n) (n ∷ []) ∙ ap (λ rs. filter p (range_with_len 0 n) ++ rs) (filter-one p n b e)

pub range-passes : (p : ℕ → Bool) (n : ℕ) → p n ≡ true → filter p (range_with_len 0 (n + 1)) ≡ filter p (range_with_len 0 n) ++ n ∷ []
range-passes p n e = range-more p n true e

pub range-fails : (p : ℕ → Bool) (n : ℕ) → p n ≡ false → filter p (range_with_len 0 (n + 1)) ≡ filter p (range_with_len 0 n)
range-fails p n e = range-more p n false e ∙ append-nil (filter p (range_with_len 0 n))

-- ---- what every start keeps

there-range : (n r : ℕ) → list_any (λ q. q == r) (range_with_len 0 n) ≡ true → r < n
there-range n r h = any-at (λ q. q < n) r (range_with_len 0 n) (All-range_to (λ q. q < n) n (λ q within. within)) h

any-of_filter : (p : ℕ → Bool) (r : ℕ) (xs : List ℕ) → list_any (λ q. q == r) (filter p xs) ≡ true → list_any (λ q. q == r) xs ≡ true
any-of_filter p r xs h = any-weaker (λ q. p q && (q == r)) (λ q. q == r) (λ q e. and-right (p q) (q == r) e) xs (sym (any-filter p (λ q. q == r) xs) ∙ h)

pub in_range-most : (n r : ℕ) (b : Bool) → nat_lt r n ≡ b → sum_by (λ q. cond (q == r) 1 0) (range_with_len 0 n) ≤ 1
in_range-most n r true e = let within : r < n = grind (arith, nat_tests, e) in let once = once-in_range n r within in omega (arith, once)
in_range-most n r false e = let past : n ≤ r = grind (arith, nat_tests, e) in let none = none-in_range n r past in omega (arith, none)

all-none : (test : Option ℕ → Bool) → test None ≡ true → (n : ℕ) → list_all test (replicate n None) ≡ true
all-none test h zero = refl
all-none test h (suc n) = both (test None) (list_all test (replicate n None)) h (all-none test h n)

start-fit : (case : Case) (phase : Phase) → start_fits case phase ≡ true → IsTrue (fits case (setting_of case phase).start)
start-fit case Region fit =
    both (length (free_plan case).of == length case.places) (list_all (λ to. option_map_or (λ r. nat_lt r (length case.wants)) to true) (free_plan case).of)
    (eq-eqb (length (free_plan case).of) (length case.places) (length-replicate (length case.places) None))
    (all-none (λ to. option_map_or (λ r. nat_lt r (length case.wants)) to true) refl (length case.places))
start-fit case (Rack from chosen) fit = fit

pub is-start : (case : Case) (phase : Phase) → start_fits case phase ≡ true → IsStart case (setting_of case phase)
is-start case phase fit = record {
  there = λ r active. there-range (length case.wants) r (any-of_filter (makes_active phase) r (all_reservations case) (sym (ap (list_any (λ q. q == r)) (active-is case phase)) ∙ active));
  once = λ r.
      let same = ap (sum_by (λ q. cond (q == r) 1 0)) (active-is case phase) in
      let less = sum_by-filter-le (makes_active phase) (λ q. cond (q == r) 1 0) (all_reservations case) in
      let most = in_range-most (length case.wants) r (nat_lt r (length case.wants)) refl in
      omega (arith, same, less, most);
  fit = start-fit case phase fit;
}

-- the active reservations are there, and at most 64
pub active-there : (case : Case) (phase : Phase) → All (λ r. r < length case.wants) (setting_of case phase).active
active-there case phase =
    subst (λ (rs : List ℕ). All (λ r. r < length case.wants) rs) (sym (active-is case phase))
    (All-filter_to (λ r. r < length case.wants) (makes_active phase) (all_reservations case) (All-range_to (λ r. makes_active phase r ≡ true → r < length case.wants) (length case.wants) (λ r within _. within)))

pub active-few : (case : Case) (phase : Phase) → length (setting_of case phase).active ≤ 64
active-few case phase =
    let same = ap length (active-is case phase) in
    let less = length-filter (makes_active phase) (all_reservations case) in
    let wants : length case.wants ≤ 64 = grind (arith, nat_tests, case.kept) in
    omega (arith, same, less, wants, length-range_with_len 0 (length case.wants))
