-- What a phase starts from.
use Rattle.std.proofs.Common.{◌≡◌, ℕ, zero, suc, ◌+◌, ◌<◌, ◌≤◌, ◌==◌, Bool, true, false, cond, List, [], ◌∷◌, length, replicate, arith, ap, sym, ◌∙◌, refl, None}
use Rattle.std.specs.Prelude.{Option, filter, sum_by, ◌&&◌, ◌||◌, nat_lt, IsTrue}
use Rattle.std.specs.List.{list_all, list_any, range_with_len}
use Rattle.std.specs.Option.{option_map_or}
use Rattle.std.proofs.lemmas.List.{length-replicate}
use Rattle.std.proofs.lemmas.Bool.{eqb-true, eq-eqb}
use Rattle.std.proofs.lemmas.Bool.Decides.{nat_tests}
use Rattle.plan_model.specs.declared.cases.Case.{Case}
use Rattle.plan_model.specs.declared.cases.Assignment.{Assignment}
use Rattle.plan_model.specs.Units.{all_reservations, free_plan}
use Rattle.plan_model.specs.Allowed.{fits}
use Rattle.plan_model.proofs.SumLemmas.{sum_by-filter-le}
use Rattle.plan_model.proofs.CaseFacts.{and-left, and-right}
use Rattle.program_rows.specs.declared.phases.Phase.{Phase}
use Rattle.program_rows.specs.declared.phases.Phase.TheVariants.{Region, Rack}
use Rattle.program_rows.specs.Settings.{setting_of, region_setting, rack_setting, makes_active, start_fits}
use Rattle.program_rows.specs.Phases.{IsStart, is_active, start_allowed}
use Rattle.program_rows.proofs.RangeSums.{once-in_range, none-in_range, in-range}

both : (a b : Bool) → a ≡ true → b ≡ true → (a && b) ≡ true
both true b e h = h
both false b e h = e

-- ---- active reservations

filtered-by : (x r : ℕ) (rest others : Bool) (b c d : Bool) → (x == r) ≡ b → (b ≡ true → c ≡ d) → rest ≡ (d && others) → cond c (b || rest) rest ≡ (d && (b || others))
filtered-by x r rest others true true d e same h = ap (λ z. z && true) (same refl)
filtered-by x r rest others true false d e same h = h ∙ ap (λ z. z && others) (sym (same refl)) ∙ ap (λ z. z && true) (same refl)
filtered-by x r rest others false true d e same h = h
filtered-by x r rest others false false d e same h = h

cond-any : (t : ℕ → Bool) (c : Bool) (x : ℕ) (xs : List ℕ) → list_any t (cond c (x ∷ xs) xs) ≡ cond c (t x || list_any t xs) (list_any t xs)
cond-any t true x xs = refl
cond-any t false x xs = refl

-- a number stands in what passes a test where it stands in the whole and passes
any-filtered : (p : ℕ → Bool) (r : ℕ) (xs : List ℕ) → list_any (λ q. q == r) (filter p xs) ≡ (p r && list_any (λ q. q == r) xs)
any-filtered p r [] = none (p r)
  where
    none : (b : Bool) → false ≡ (b && false)
    none true = refl
    none false = refl
any-filtered p r (x ∷ xs) =
    cond-any (λ q. q == r) (p x) x (filter p xs)
    ∙ filtered-by x r (list_any (λ q. q == r) (filter p xs)) (list_any (λ q. q == r) xs) (x == r) (p x) (p r) refl (λ e. ap p (eqb-true x r e)) (any-filtered p r xs)

-- a reservation that is there is active in the setting exactly where the phase makes it active
pub active-is : (case : Case) (phase : Phase) (r : ℕ) → r < length case.wants → is_active (setting_of case phase) r ≡ makes_active phase r
active-is case Region r there = in-range (length case.wants) r there
active-is case (Rack from chosen) r there =
    let picked : ℕ → Bool = λ q. list_any (λ c. c == q) chosen.now in
    any-filtered picked r (all_reservations case) ∙ ap (λ b. picked r && b) (in-range (length case.wants) r there) ∙ plain (picked r)
  where
    plain : (b : Bool) → (b && true) ≡ b
    plain true = refl
    plain false = refl

-- ---- the start

in_range-most : (n r : ℕ) (b : Bool) → nat_lt r n ≡ b → sum_by (λ q. cond (q == r) 1 0) (range_with_len 0 n) ≤ 1
in_range-most n r true e = let within : r < n = grind (arith, nat_tests, e) in let once = once-in_range n r within in omega (arith, once)
in_range-most n r false e = let past : n ≤ r = grind (arith, nat_tests, e) in let none = none-in_range n r past in omega (arith, none)

below-by : (a r n : ℕ) (b rest : Bool) → (a == r) ≡ b → (rest ≡ true → r < a + 1 + n) → (b || rest) ≡ true → r < a + suc n
below-by a r n true rest e h k = let same = eqb-true a r e in omega (arith, same)
below-by a r n false rest e h k = let less = h k in omega (arith, less)

range-below : (r a n : ℕ) → list_any (λ q. q == r) (range_with_len a n) ≡ true → r < a + n
range-below r a zero h = cc
range-below r a (suc n) h = below-by a r n (a == r) (list_any (λ q. q == r) (range_with_len (a + 1) n)) refl (range-below r (a + 1) n) h

range-there : (n r : ℕ) → list_any (λ q. q == r) (range_with_len 0 n) ≡ true → r < n
range-there n r h = let less = range-below r 0 n h in omega (arith, less)

all-none : (test : Option ℕ → Bool) → test None ≡ true → (n : ℕ) → list_all test (replicate n None) ≡ true
all-none test h zero = refl
all-none test h (suc n) = both (test None) (list_all test (replicate n None)) h (all-none test h n)

region-starts : (case : Case) → IsStart case (region_setting case)
region-starts case = record {
  there = λ r active. range-there (length case.wants) r active;
  once = λ r. in_range-most (length case.wants) r (nat_lt r (length case.wants)) refl;
  fit = both (length (free_plan case).of == length case.places) (list_all (λ to. option_map_or (λ r. nat_lt r (length case.wants)) to true) (free_plan case).of)
      (eq-eqb (length (free_plan case).of) (length case.places) (length-replicate (length case.places) None))
      (all-none (λ to. option_map_or (λ r. nat_lt r (length case.wants)) to true) refl (length case.places));
}

rack-starts : (case : Case) (region : Assignment) (chosen : List ℕ) → IsTrue (fits case region) → IsStart case (rack_setting case region chosen)
rack-starts case region chosen fit = record {
  there = λ r active.
      let picked : ℕ → Bool = λ q. list_any (λ c. c == q) chosen in
      range-there (length case.wants) r (and-right _ _ (sym (any-filtered picked r (all_reservations case)) ∙ active));
  once = λ r.
      let picked : ℕ → Bool = λ q. list_any (λ c. c == q) chosen in
      let less = sum_by-filter-le picked (λ q. cond (q == r) 1 0) (all_reservations case) in
      let most = in_range-most (length case.wants) r (nat_lt r (length case.wants)) refl in
      omega (arith, less, most);
  fit = fit;
}

pub phase-starts : (case : Case) (phase : Phase) → start_allowed case phase ≡ true → IsStart case (setting_of case phase)
phase-starts case Region h = region-starts case
phase-starts case (Rack from chosen) h = rack-starts case from.now chosen.now (and-left _ _ (and-left _ _ h))

pub phase-start_fits : (case : Case) (phase : Phase) → start_allowed case phase ≡ true → start_fits case phase ≡ true
phase-start_fits case Region h = refl
phase-start_fits case (Rack from chosen) h = and-left _ _ (and-left _ _ h)
