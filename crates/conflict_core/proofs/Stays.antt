-- An allowed assignment stays allowed where only some reservations are kept.
use Rattle.std.proofs.Common.{eq-eqb, ◌≡◌, ℕ, zero, suc, ◌==◌, ◌+◌, ◌-◌, ◌<◌, Bool, true, cond, List, [], ◌∷◌, length, get_or, arith, ap, sym, ◌∙◌, refl}
use Rattle.std.specs.Prelude.{nat_lt, nat_le, ◌&&◌, Some, None, Option, sum_by, zip, map, filter, slice_index}
use Rattle.std.specs.Option.{option_map_or}
use Rattle.std.specs.List.{list_all, range_with_len}
use Rattle.std.proofs.lemmas.Bool.Decides.{nat_tests}
use Rattle.std.proofs.lemmas.List.{length-map, get_or-map}
use Rattle.std.proofs.lemmas.List.Sums.{sum_by-cons}
use Rattle.std.proofs.lemmas.List.Folds.{list_all-map}
use Rattle.std.proofs.lemmas.List.Elements.{All-get_or}
use Rattle.std.proofs.lemmas.List.Quantifiers.{position-Some}
use Rattle.ras_requests.specs.declared.requests.Protection.{Protection}
use Rattle.ras_requests.specs.declared.requests.Protection.TheVariants as protection
use Rattle.plan_model.specs.declared.cases.Place.{Place}
use Rattle.plan_model.specs.declared.cases.Want.{Want}
use Rattle.plan_model.specs.declared.cases.Case.{Case}
use Rattle.plan_model.specs.declared.cases.Assignment.{Assignment}
use Rattle.plan_model.specs.declared.losses.Lost.{Lost}
use Rattle.plan_model.specs.declared.losses.Lost.TheVariants.{Total, Board, Center}
use Rattle.plan_model.specs.Units.{all_reservations, want_of, no_want, is_for, value_for, share_of, servers_with_places, units, units_where}
use Rattle.plan_model.specs.Losses.{is_lost, losses, losses_named, loss_at}
use Rattle.plan_model.specs.Allowed.{fits, serves, keeps_need, survives, region_allowed}
use Rattle.plan_model.proofs.CaseFacts.{and-left, and-right}
use Rattle.plan_model.proofs.SumLemmas.{sum_by-filter}
use Rattle.plan_model.proofs.AllowedLaws.{list_all-range_at}
use Rattle.plan_model.proofs.JoinRule.{both}
use Rattle.conflict_core.specs.Kept.{AreMembers}
use Rattle.conflict_core.specs.Cases.{number_in, kept_place, kept_to, kept_assignment, IsKeptCase}
use Rattle.conflict_core.specs.Laws.{KeptStaysAllowed}
use Rattle.conflict_core.proofs.Members.{for-member}

sum-pairs : {X Y Z W : Type 0} (f : Z × W → ℕ) (g : X × Y → ℕ) (u : X → Z) (v : Y → W) → ((x : X) (y : Y) → f (u x, v y) ≡ g (x, y))
    → (xs : List X) (ys : List Y) → sum_by f (zip (map u xs) (map v ys)) ≡ sum_by g (zip xs ys)
sum-pairs f g u v same [] ys = refl
sum-pairs f g u v same (x ∷ xs) [] = refl
sum-pairs f g u v same (x ∷ xs) (y ∷ ys) =
    sum_by-cons f (u x, v y) (zip (map u xs) (map v ys))
    ∙ ap (λ n. n + sum_by f (zip (map u xs) (map v ys))) (same x y)
    ∙ ap (λ n. g (x, y) + n) (sum-pairs f g u v same xs ys)
    ∙ sym (sum_by-cons g (x, y) (zip xs ys))

all-pairs : {X Y Z W : Type 0} (f : Z × W → Bool) (g : X × Y → Bool) (u : X → Z) (v : Y → W) → ((x : X) (y : Y) → g (x, y) ≡ true → f (u x, v y) ≡ true)
    → (xs : List X) (ys : List Y) → list_all g (zip xs ys) ≡ true → list_all f (zip (map u xs) (map v ys)) ≡ true
all-pairs f g u v then [] ys all = refl
all-pairs f g u v then (x ∷ xs) [] all = refl
all-pairs f g u v then (x ∷ xs) (y ∷ ys) all =
    both (f (u x, v y)) (list_all f (zip (map u xs) (map v ys))) (then x y (and-left _ _ all)) (all-pairs f g u v then xs ys (and-right _ _ all))

list_all-same : {X : Type 0} (p q : X → Bool) → ((x : X) → p x ≡ q x) → (xs : List X) → list_all p xs ≡ list_all q xs
list_all-same p q same [] = refl
list_all-same p q same (x ∷ xs) = ap (λ b. b && list_all p xs) (same x) ∙ ap (λ b. q x && b) (list_all-same p q same xs)

list_all-every : {X : Type 0} (p : X → Bool) → ((x : X) → p x ≡ true) → (xs : List X) → list_all p xs ≡ true
list_all-every p every [] = refl
list_all-every p every (x ∷ xs) = both (p x) (list_all p xs) (every x) (list_all-every p every xs)

-- a test of every number from one on, so many
all-range : (test : ℕ → Bool) (first count : ℕ) → ((i : ℕ) → i < first + count → test i ≡ true) → list_all test (range_with_len first count) ≡ true
all-range test first zero each = refl
all-range test first (suc count) each =
    both (test first) (list_all test (range_with_len (first + 1) count)) (each first (omega arith))
    (all-range test (first + 1) count (λ i within. each i (omega arith)))

module _ (members : List ℕ) (case other : Case) (a : Assignment) (those : AreMembers (length case.wants) members) (kept : IsKeptCase members case other) where
  abbrev after : Assignment
  after = kept_assignment members a

  want-same : (n : ℕ) → n < length members → want_of other n ≡ want_of case (get_or members n 0)
  want-same n within = ap (λ ws. get_or ws n no_want) kept.wants ∙ get_or-map (want_of case) members n 0 no_want within

  pairs : servers_with_places other after ≡ zip (map (kept_place members) case.places) (map (kept_to members) a.of)
  pairs = ap (λ ps. zip ps (map (kept_to members) a.of)) kept.places

  share-same : (n : ℕ) → n < length members → (p : Place) (to : Option ℕ)
      → share_of other n (kept_place members p, kept_to members to) ≡ share_of case (get_or members n 0) (p, to)
  share-same n within p to =
      ap (λ b. cond b (value_for other n p.kind) 0) (for-member members n to those.rising within)
      ∙ ap (λ (w : Want). cond (is_for (get_or members n 0) to) (slice_index w.values p.kind) 0) (want-same n within)

  units-same : (n : ℕ) → n < length members → units other after n ≡ units case a (get_or members n 0)
  units-same n within =
      ap (sum_by (share_of other n)) pairs
      ∙ sum-pairs (share_of other n) (share_of case (get_or members n 0)) (kept_place members) (kept_to members) (share-same n within) case.places a.of

  lost-same : (lost : Lost) (p : Place) → is_lost lost (kept_place members p) ≡ is_lost lost p
  lost-same Total p = refl
  lost-same (Board board) p = refl
  lost-same (Center center) p = refl

  -- what a server gives where it is lost
  lost-share : (n : ℕ) (lost : Lost) → n < length members → (p : Place) (to : Option ℕ)
      → cond (is_lost lost (kept_place members p)) (share_of other n (kept_place members p, kept_to members to)) 0
      ≡ cond (is_lost lost p) (share_of case (get_or members n 0) (p, to)) 0
  lost-share n lost within p to =
      ap (λ b. cond b (share_of other n (kept_place members p, kept_to members to)) 0) (lost-same lost p)
      ∙ ap (λ u. cond (is_lost lost p) u 0) (share-same n within p to)

  where-same : (n : ℕ) (lost : Lost) → n < length members → units_where (is_lost lost) other after n ≡ units_where (is_lost lost) case a (get_or members n 0)
  where-same n lost within =
      ap (λ ps. sum_by (share_of other n) (filter (λ (s : Place × Option ℕ). is_lost lost s.0) ps)) pairs
      ∙ sum_by-filter (λ (s : Place × Option ℕ). is_lost lost s.0) (share_of other n) (zip (map (kept_place members) case.places) (map (kept_to members) a.of))
      ∙ sum-pairs (λ (s : Place × Option ℕ). cond (is_lost lost s.0) (share_of other n s) 0) (λ (s : Place × Option ℕ). cond (is_lost lost s.0) (share_of case (get_or members n 0) s) 0)
      (kept_place members) (kept_to members) (lost-share n lost within) case.places a.of
      ∙ sym (sum_by-filter (λ (s : Place × Option ℕ). is_lost lost s.0) (share_of case (get_or members n 0)) (servers_with_places case a))

  survives-same : (n : ℕ) → n < length members → (lost : Lost) → survives other after n lost ≡ survives case a (get_or members n 0) lost
  survives-same n within lost =
      ap (λ (w : Want). nat_le w.need (units other after n - units_where (is_lost lost) other after n)) (want-same n within)
      ∙ ap (λ u. nat_le (want_of case (get_or members n 0)).need (u - units_where (is_lost lost) other after n)) (units-same n within)
      ∙ ap (λ u. nat_le (want_of case (get_or members n 0)).need (units case a (get_or members n 0) - u)) (where-same n lost within)

  named-same : (p : Protection) → losses_named other p ≡ losses_named case p
  named-same protection.Total = refl
  named-same protection.Board = kept.boards
  named-same protection.Center = kept.centers

  losses-same : (n : ℕ) → n < length members → losses other n ≡ losses case (get_or members n 0)
  losses-same n within =
      ap (λ (w : Want). Total ∷ map (loss_at w.protection) (range_with_len 0 (losses_named other w.protection))) (want-same n within)
      ∙ ap (λ many. Total ∷ map (loss_at (want_of case (get_or members n 0)).protection) (range_with_len 0 many)) (named-same (want_of case (get_or members n 0)).protection)

  keeps-same : (n : ℕ) → n < length members → keeps_need other after n ≡ keeps_need case a (get_or members n 0)
  keeps-same n within =
      ap (list_all (survives other after n)) (losses-same n within)
      ∙ list_all-same (survives other after n) (survives case a (get_or members n 0)) (survives-same n within) (losses case (get_or members n 0))

  many : length other.wants ≡ length members
  many = ap length kept.wants ∙ length-map members (want_of case)

  to-there : (to : Option ℕ) → option_map_or (λ r. nat_lt r (length other.wants)) (kept_to members to) true ≡ true
  to-there None = refl
  to-there (Some r) = by (number_in members r) refl
    where
      by : (o : Option ℕ) → number_in members r ≡ o → option_map_or (λ n. nat_lt n (length other.wants)) o true ≡ true
      by None e = refl
      by (Some k) e = let there = position-Some (λ q. q == r) members k 0 e in grind (arith, nat_tests, there.0, many)

  fits-there : fits case a ≡ true → fits other after ≡ true
  fits-there fitting =
      let before : length a.of ≡ length case.places = grind (arith, nat_tests, fitting) in
      both _ _
      (eq-eqb (length (map (kept_to members) a.of)) (length other.places) (length-map a.of (kept_to members) ∙ before ∙ sym (length-map case.places (kept_place members)) ∙ sym (ap length kept.places)))
      (list_all-map (λ to. option_map_or (λ r. nat_lt r (length other.wants)) to true) (kept_to members) a.of
      ∙ list_all-every (λ to. option_map_or (λ r. nat_lt r (length other.wants)) (kept_to members to) true) to-there a.of)

  serves-there : (p : Place) (to : Option ℕ) → serves case (p, to) ≡ true → serves other (kept_place members p, kept_to members to) ≡ true
  serves-there p None served = refl
  serves-there p (Some r) served = by (number_in members r) refl
    where
      by : (o : Option ℕ) → number_in members r ≡ o → option_map_or (λ n. p.up && nat_lt 0 (value_for other n p.kind)) o true ≡ true
      by None e = refl
      by (Some k) e =
          let there = position-Some (λ q. q == r) members k 0 e in
          let is : get_or members k 0 ≡ r = grind (arith, nat_tests, there.1) in
          let same : want_of other k ≡ want_of case r = want-same k there.0 ∙ ap (want_of case) is in
          ap (λ (w : Want). p.up && nat_lt 0 (slice_index w.values p.kind)) same ∙ served

  inside : (n : ℕ) → n < 0 + length other.wants → n < length members
  inside n within = omega (arith, many, within)

  pub stays : region_allowed case a ≡ true → region_allowed other after ≡ true
  stays allowed =
      let needs : list_all (keeps_need case a) (all_reservations case) ≡ true = and-right _ _ allowed in
      let served : list_all (serves case) (servers_with_places case a) ≡ true = and-right _ _ (and-left _ _ allowed) in
      both _ _
      (both _ _ (fits-there (and-left _ _ (and-left _ _ allowed)))
      (ap (list_all (serves other)) pairs ∙ all-pairs (serves other) (serves case) (kept_place members) (kept_to members) serves-there case.places a.of served))
      (all-range (keeps_need other after) 0 (length other.wants) (λ n within.
      keeps-same n (inside n within)
      ∙ list_all-range_at (keeps_need case a) (length case.wants) (get_or members n 0) needs (All-get_or (λ r. r < length case.wants) members n 0 (inside n within) those.there)))

pub kept-stays : KeptStaysAllowed
kept-stays members case other a those kept allowed = stays members case other a those kept allowed
