-- What the takes for one reservation, and for one after the other, leave.
use Rattle.std.proofs.Common.{◌≡◌, ℕ, zero, suc, ◌+◌, ◌<◌, ◌≤◌, ◌⊎◌, inl, inr, Bool, true, false, cond, List, [], ◌∷◌, length, arith, ap, sym, subst, ◌∙◌, refl, Some, None, ◌==◌, nat_lt}
use Rattle.std.specs.Prelude.{Option, IsTrue, ◌&&◌, ◌-◌, map, zip, option_and_then}
use Rattle.std.specs.Option.{option_map_or}
use Rattle.std.specs.List.{list_all, range_with_len}
use Rattle.std.proofs.lemmas.Bool.Decides.{nat_tests}
use Rattle.std.proofs.lemmas.List.{length-map}
use Rattle.plan_model.specs.declared.cases.Holder.{Holder}
use Rattle.plan_model.specs.declared.cases.Holder.TheVariants.{Free, Held, Gone}
use Rattle.plan_model.specs.CaseRule.{holder_in_range, place_in_range}
use Rattle.plan_model.proofs.CaseFacts.{and-left, and-right}
use Rattle.plan_model.specs.declared.cases.Place.{Place}
use Rattle.plan_model.specs.declared.cases.Case.{Case}
use Rattle.plan_model.specs.declared.cases.Assignment.{Assignment}
use Rattle.plan_model.specs.Units.{servers_with_places, all_reservations, value_for}
use Rattle.plan_model.specs.Allowed.{fits, serves, keeps_need, region_allowed}
use Rattle.plan_model.proofs.NumberLemmas.{list_all-range_more}
use Rattle.first_plans.specs.Kept.{kept_plan, kept_at, kept_by}
use Rattle.first_plans.specs.FirstPlan.{given, next_server, filled, filled_each}
use Rattle.first_plans.proofs.Given.{both, other-keeps, given-fits, given-serves, next-is_taken, IsTaken}

-- an assignment that fits and in which every server serves
pub record IsLawful (case : Case) (a : Assignment) : Type 0 where
  pub fits : IsTrue (fits case a)
  pub serves : list_all (serves case) (servers_with_places case a) ≡ true

-- the takes for r leave a lawful assignment, in which r keeps its need and every other reservation does where it did
pub record IsFilled (case : Case) (a : Assignment) (r : ℕ) (b : Assignment) : Type 0 where
  pub lawful : IsLawful case b
  pub keeps : keeps_need case b r ≡ true
  pub others : (q : ℕ) → (r == q) ≡ false → keeps_need case b q ≡ keeps_need case a q

some-is : (a b : Assignment) → Some a ≡ Some b → a ≡ b
some-is a b e = cc

some-none : (b : Assignment) → Some b ≡ None → ⊥
some-none b e = cc

pub given-lawful : (case : Case) (a : Assignment) (s r : ℕ) → r < length case.wants → IsLawful case a → IsTaken case a r s → IsLawful case (given a s r)
given-lawful case a s r within lawful taken =
    record { fits = given-fits case a s r lawful.fits within; serves = given-serves case a s r taken.there taken.serves lawful.serves }

stays : (case : Case) (a b : Assignment) (r : ℕ) → IsLawful case a → keeps_need case a r ≡ true → Some a ≡ Some b → IsFilled case a r b
stays case a b r lawful keeps e =
    subst (λ (c : Assignment). IsFilled case a r c) (some-is a b e) (record { lawful = lawful; keeps = keeps; others = λ q other. refl })

-- one server more
taken-then : (case : Case) (r most : ℕ) (a b : Assignment) → r < length case.wants → IsLawful case a
    → ((s : ℕ) → IsLawful case (given a s r) → filled case r most (given a s r) ≡ Some b → IsFilled case (given a s r) r b)
    → (o : Option ℕ) → next_server case a r ≡ o → option_and_then (λ s. filled case r most (given a s r)) o ≡ Some b → IsFilled case a r b
taken-then case r most a b within lawful rest None next e = absurd (some-none b (sym e))
taken-then case r most a b within lawful rest (Some s) next e =
    let taken = next-is_taken case a r s lawful.fits next in
    let after = rest s (given-lawful case a s r within lawful taken) e in
    record {
      lawful = after.lawful;
      keeps = after.keeps;
      others = λ q other. after.others q other ∙ other-keeps case a s r q lawful.fits taken.there taken.free other;
    }

by-need : (case : Case) (r : ℕ) (a b : Assignment) (else : Option Assignment) → IsLawful case a → (else ≡ Some b → IsFilled case a r b)
    → (k : Bool) → keeps_need case a r ≡ k → cond k (Some a) else ≡ Some b → IsFilled case a r b
by-need case r a b else lawful rest true keeps e = stays case a b r lawful keeps e
by-need case r a b else lawful rest false keeps e = rest e

pub filled-is : (case : Case) (r most : ℕ) (a b : Assignment) → r < length case.wants → IsLawful case a → filled case r most a ≡ Some b → IsFilled case a r b
filled-is case r zero a b within lawful e = by-need case r a b None lawful (λ h. absurd (some-none b (sym h))) (keeps_need case a r) refl e
filled-is case r (suc most) a b within lawful e =
    by-need case r a b (option_and_then (λ s. filled case r most (given a s r)) (next_server case a r)) lawful
    (λ h. taken-then case r most a b within lawful (λ s after. filled-is case r most (given a s r) b within after) (next_server case a r) refl h)
    (keeps_need case a r) refl e

-- ---- the kept assignment

abbrev there : Case → Option ℕ → Bool
there case to = option_map_or (λ r. nat_lt r (length case.wants)) to true

kept-there : (case : Case) (s : Place) (h : Holder) → holder_in_range (length case.wants) h ≡ true → there case (kept_by case s h) ≡ true
kept-there case s Free h = refl
kept-there case s (Held r) h = by-test (s.up && nat_lt 0 (value_for case r s.kind))
  where
    by-test : (b : Bool) → there case (cond b (Some r) None) ≡ true
    by-test true = h
    by-test false = refl
kept-there case s Gone h = refl

kept-serves : (case : Case) (s : Place) (h : Holder) → serves case (s, kept_by case s h) ≡ true
kept-serves case s Free = refl
kept-serves case s (Held r) = by-test (s.up && nat_lt 0 (value_for case r s.kind)) refl
  where
    by-test : (b : Bool) → (s.up && nat_lt 0 (value_for case r s.kind)) ≡ b → serves case (s, cond b (Some r) None) ≡ true
    by-test true e = e
    by-test false e = refl
kept-serves case s Gone = refl

all-there : (case : Case) (kinds racks boards centers : ℕ) (ss : List Place) → list_all (place_in_range kinds racks boards centers (length case.wants)) ss ≡ true
    → list_all (there case) (map (kept_at case) ss) ≡ true
all-there case kinds racks boards centers [] ranges = refl
all-there case kinds racks boards centers (s ∷ ss) ranges =
    let here : place_in_range kinds racks boards centers (length case.wants) s ≡ true = and-left _ _ ranges in
    both (there case (kept_at case s)) (list_all (there case) (map (kept_at case) ss)) (kept-there case s s.holder (and-right _ _ here))
    (all-there case kinds racks boards centers ss (and-right _ _ ranges))

all-serve : (case : Case) (ss : List Place) → list_all (serves case) (zip ss (map (kept_at case) ss)) ≡ true
all-serve case [] = refl
all-serve case (s ∷ ss) = both (serves case (s, kept_at case s)) (list_all (serves case) (zip ss (map (kept_at case) ss))) (kept-serves case s s.holder) (all-serve case ss)

pub kept-lawful : (case : Case) → IsLawful case (kept_plan case)
kept-lawful case =
    let ranges : list_all (place_in_range case.kinds case.racks case.boards case.centers (length case.wants)) case.places ≡ true = and-right _ _ (and-left _ _ (and-left _ _ case.kept)) in
    let long : length (map (kept_at case) case.places) ≡ length case.places = length-map case.places (kept_at case) in
    let same : (length (map (kept_at case) case.places) == length case.places) ≡ true = grind (arith, nat_tests, long) in
    record {
      fits = both _ _ same (all-there case case.kinds case.racks case.boards case.centers case.places ranges);
      serves = all-serve case case.places;
    }

-- ---- the first plan is allowed

pub allowed-is : (case : Case) (a : Assignment) → IsLawful case a → ((q : ℕ) → q < length case.wants → keeps_need case a q ≡ true) → region_allowed case a ≡ true
allowed-is case a lawful keep =
    both (fits case a && list_all (serves case) (servers_with_places case a)) (list_all (keeps_need case a) (all_reservations case))
    (both (fits case a) (list_all (serves case) (servers_with_places case a)) lawful.fits lawful.serves)
    (below-keep case a (length case.wants) keep)
  where
    below-keep : (case : Case) (a : Assignment) (n : ℕ) → ((q : ℕ) → q < n → keeps_need case a q ≡ true) → list_all (keeps_need case a) (range_with_len 0 n) ≡ true
    below-keep case a zero keep = refl
    below-keep case a (suc n) keep =
        let one : suc n ≡ n + 1 = omega arith in
        ap (λ k. list_all (keeps_need case a) (range_with_len 0 k)) one
        ∙ list_all-range_more (keeps_need case a) n (below-keep case a n (λ q h. keep q (omega arith))) (keep n (omega arith))

-- ---- the loops

-- what is left of the reservations from r on, where r is filled
pub each-step : (case : Case) (a b : Assignment) (r : ℕ) (result : Option Assignment) → r < length case.wants → Some b ≡ filled case r (length case.places) a
    → filled_each case a (range_with_len r (length case.wants - r)) ≡ result → filled_each case b (range_with_len (r + 1) (length case.wants - (r + 1))) ≡ result
each-step case a b r result within here e =
    let more : length case.wants - r ≡ suc (length case.wants - (r + 1)) = omega arith in
    ap (option_and_then (λ c. filled_each case c (range_with_len (r + 1) (length case.wants - (r + 1))))) here
    ∙ sym (ap (λ n. filled_each case a (range_with_len r n)) more) ∙ e

pub each-ends : (case : Case) (a : Assignment) (r : ℕ) (result : Option Assignment) → r < length case.wants → None ≡ filled case r (length case.places) a
    → filled_each case a (range_with_len r (length case.wants - r)) ≡ result → None ≡ result
each-ends case a r result within here e =
    let more : length case.wants - r ≡ suc (length case.wants - (r + 1)) = omega arith in
    ap (option_and_then (λ c. filled_each case c (range_with_len (r + 1) (length case.wants - (r + 1))))) here
    ∙ sym (ap (λ n. filled_each case a (range_with_len r n)) more) ∙ e

pub kept-after : (case : Case) (a b : Assignment) (r : ℕ) → IsFilled case a r b → ((q : ℕ) → q < r → keeps_need case a q ≡ true) → (q : ℕ) → q < r + 1 → keeps_need case b q ≡ true
kept-after case a b r is below q h =
    elim (below-or_at q r h) [
      | inl less ↦ (let other : (r == q) ≡ false = grind (arith, nat_tests, less) in is.others q other ∙ below q less)
      | inr same ↦ ap (keeps_need case b) same ∙ is.keeps
    ]
  where
    below-or_at : (q r : ℕ) → q < r + 1 → (q < r) ⊎ (q ≡ r)
    below-or_at q r h = search arith

-- one take less is left
pub take-step : (case : Case) (a b : Assignment) (r s i : ℕ) → i < length case.places → keeps_need case a r ≡ false → next_server case a r ≡ Some s → b ≡ given a s r
    → filled case r (length case.places - (i + 1)) b ≡ filled case r (length case.places - i) a
take-step case a b r s i within lacks next is =
    let more : length case.places - i ≡ suc (length case.places - (i + 1)) = omega arith in
    sym (
    ap (λ n. filled case r n a) more
    ∙ ap (λ k. cond k (Some a) (option_and_then (λ t. filled case r (length case.places - (i + 1)) (given a t r)) (next_server case a r))) lacks
    ∙ ap (option_and_then (λ t. filled case r (length case.places - (i + 1)) (given a t r))) next
    ∙ ap (filled case r (length case.places - (i + 1))) (sym is)
    )

pub take-none : (case : Case) (a : Assignment) (r i : ℕ) → i < length case.places → keeps_need case a r ≡ false → next_server case a r ≡ None
    → filled case r (length case.places - i) a ≡ None
take-none case a r i within lacks next =
    let more : length case.places - i ≡ suc (length case.places - (i + 1)) = omega arith in
    ap (λ n. filled case r n a) more
    ∙ ap (λ k. cond k (Some a) (option_and_then (λ t. filled case r (length case.places - (i + 1)) (given a t r)) (next_server case a r))) lacks
    ∙ ap (option_and_then (λ t. filled case r (length case.places - (i + 1)) (given a t r))) next

pub take-enough : (case : Case) (a : Assignment) (r n : ℕ) → keeps_need case a r ≡ true → filled case r n a ≡ Some a
take-enough case a r zero keeps = ap (λ k. cond k (Some a) None) keeps
take-enough case a r (suc n) keeps = ap (λ k. cond k (Some a) (option_and_then (λ t. filled case r n (given a t r)) (next_server case a r))) keeps

pub take-last : (case : Case) (a : Assignment) (r i : ℕ) → length case.places ≤ i → filled case r (length case.places - i) a ≡ cond (keeps_need case a r) (Some a) None
take-last case a r i past =
    let none : length case.places - i ≡ 0 = omega arith in
    ap (λ n. filled case r n a) none
