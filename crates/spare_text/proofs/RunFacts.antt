-- One step more of a run, and its text.
use Rattle.std.proofs.Common.{◌≡◌, ℕ, suc, zero, ◌+◌, ◌<◌, ◌≤◌, Bool, true, false, cond, List, [], ◌∷◌, ◌++◌, length, take, get_or, sym, ap, ap₂, ◌∙◌, refl, subst, arith, append_assoc}
use Rattle.std.specs.Prelude.{flat_map, count_by, nat_lt}
use Rattle.std.specs.List.{list_all}
use Rattle.std.proofs.lemmas.Bool.Decides.{nat_tests}
use Rattle.std.proofs.lemmas.List.Sums.{sum_by_push}
use Rattle.std.proofs.lemmas.List.Concat.{flat_map-append}
use Rattle.std.proofs.lemmas.List.{append-nil, take_more}
use Rattle.plan_model.proofs.CaseFacts.{list_all-at}
use Rattle.spare_pool.specs.declared.standings.Change.{Change}
use Rattle.spare_pool.specs.declared.standings.Outcome.{Outcome}
use Rattle.spare_pool.specs.declared.failure.Failure.{Failure}
use Rattle.spare_pool.specs.States.{State}
use Rattle.spare_pool.specs.Steps.{IsStep, change_within}
use Rattle.spare_pool.proofs.StepsThere.{step-there, step-unique}
use Rattle.spare_text.specs.Told.{Told, IsTold, is_short, shorts_of}
use Rattle.spare_text.specs.Texts.{step_text, steps_text, run_text, IsSpareText, TellsRun}
use Rattle.spare_text.specs.Laws.{SpareTextIsThere, SpareTextIsUnique}

told-more : (state mid after : State) (failures : List Failure) (steps : List Told) (failure : Failure) (outcome : Outcome)
    → IsTold state failures steps mid → IsStep mid failure.change outcome after
    → IsTold state (failures ++ failure ∷ []) (steps ++ record { failure = failure; outcome = outcome; after = after } ∷ []) after
told-more state mid after [] [] failure outcome h k =
    (refl, subst (λ (t : State). IsStep t failure.change outcome after) h k, refl)
told-more state mid after [] (step ∷ steps) failure outcome h k = absurd h
told-more state mid after (e ∷ failures) [] failure outcome h k = absurd h
told-more state mid after (e ∷ failures) (step ∷ steps) failure outcome h k =
    (h.0, h.1, told-more step.after mid after failures steps failure outcome h.2 k)

-- no failure yet
pub tells-none : (servers reservations : List (List ℕ)) (state : State) (text : List ℕ) → TellsRun servers reservations state [] state text text 0
tells-none servers reservations state text = ([], (refl, sym (append-nil text), refl))

-- and one failure more
pub tells-more : (servers reservations : List (List ℕ)) (state mid after : State) (failures : List Failure) (failure : Failure) (outcome : Outcome)
    (before text grown : List ℕ) (shorts : ℕ)
    → TellsRun servers reservations state failures mid before text shorts
    → IsStep mid failure.change outcome after
    → grown ≡ text ++ step_text servers reservations (record { failure = failure; outcome = outcome; after = after })
    → TellsRun servers reservations state (failures ++ failure ∷ []) after before grown (shorts + cond (is_short outcome) 1 0)
tells-more servers reservations state mid after failures failure outcome before text grown shorts h k is =
    let step : Told = record { failure = failure; outcome = outcome; after = after } in
    let steps : List Told = h.0 in (
      steps ++ step ∷ [],
      (
        told-more state mid after failures steps failure outcome h.1.0 k,
        is ∙ ap (λ xs. xs ++ step_text servers reservations step) h.1.1 ∙ append_assoc before (steps_text servers reservations steps) (step_text servers reservations step)
            ∙ ap (λ xs. before ++ xs) (ap (λ xs. steps_text servers reservations steps ++ xs) (sym (append-nil (step_text servers reservations step)))
            ∙ sym (flat_map-append (step_text servers reservations) steps (step ∷ []))),
        ap (λ n. n + cond (is_short outcome) 1 0) h.1.2 ∙ sym (sum_by_push (λ (s : Told). cond (is_short s.outcome) 1 0) steps step),
      ),
    )

-- as many steps as failures
pub told-count : (state after : State) (failures : List Failure) (steps : List Told) → IsTold state failures steps after → length steps ≡ length failures
told-count state after [] [] h = refl
told-count state after [] (s ∷ steps) h = absurd h
told-count state after (e ∷ failures) [] h = absurd h
told-count state after (e ∷ failures) (s ∷ steps) h = let rest = told-count s.after after failures steps h.2 in cc

-- ---- a run is there, and only one

told-there : (state : State) (failures : List Failure) → (steps : List Told) × ((after : State) × IsTold state failures steps after)
told-there state [] = ([], (state, refl))
told-there state (failure ∷ failures) =
    let step = step-there state failure.change in
    let rest = told-there step.1.0 failures in
    (record { failure = failure; outcome = step.0; after = step.1.0 } ∷ rest.0, (rest.1.0, (refl, step.1.1, rest.1.1)))

same-told : (failure failure' : Failure) (outcome outcome' : Outcome) (after after' : State) → failure ≡ failure' → outcome ≡ outcome' → after ≡ after'
    → ◌≡◌ {A = Told} (record { failure = failure; outcome = outcome; after = after }) (record { failure = failure'; outcome = outcome'; after = after' })
same-told failure failure' outcome outcome' after after' a b d = rw (a, b, d) refl

told-unique : (state after other : State) (failures : List Failure) (steps given : List Told) → IsTold state failures steps after → IsTold state failures given other
    → (steps ≡ given) × (after ≡ other)
told-unique state after other [] [] [] h k = (refl, h ∙ sym k)
told-unique state after other [] [] (g ∷ given) h k = absurd k
told-unique state after other [] (s ∷ steps) given h k = absurd h
told-unique state after other (failure ∷ failures) [] given h k = absurd h
told-unique state after other (failure ∷ failures) (s ∷ steps) [] h k = absurd k
told-unique state after other (failure ∷ failures) (s ∷ steps) (g ∷ given) h k =
    let one = step-unique state s.after g.after failure.change s.outcome g.outcome h.1 k.1 in
    let there : IsTold s.after failures given other = subst (λ (t : State). IsTold t failures given other) (sym one.1) k.2 in
    let rest = told-unique s.after after other failures steps given h.2 there in
    let same : s ≡ g = same-told s.failure g.failure s.outcome g.outcome s.after g.after (h.0 ∙ sym k.0) one.0 one.1 in
    (ap₂ (λ (x : Told) (xs : List Told). x ∷ xs) same rest.0, rest.1)

pub text-there : SpareTextIsThere
text-there servers reservations state failures =
    let run = told-there state failures in
    (run_text servers reservations run.0, (run.0, (run.1.0, (run.1.1, refl))))

pub text-unique : SpareTextIsUnique
text-unique servers reservations state failures text other h k =
    let same = told-unique state h.1.0 k.1.0 failures h.0 k.0 h.1.1.0 k.1.1.0 in
    h.1.1.1 ∙ ap (λ (steps : List Told). run_text servers reservations steps) same.0 ∙ sym k.1.1.1

-- ---- in the words of the loop

pub tells-next : (servers reservations : List (List ℕ)) (state mid after : State) (items : List Failure) (i : ℕ) (d : Failure) (outcome : Outcome)
    (before text grown : List ℕ) (shorts short : ℕ)
    → i < length items → TellsRun servers reservations state (take i items) mid before text shorts
    → IsStep mid (get_or items i d).change outcome after
    → grown ≡ text ++ step_text servers reservations (record { failure = get_or items i d; outcome = outcome; after = after })
    → short ≡ cond (is_short outcome) 1 0
    → TellsRun servers reservations state (take (i + 1) items) after before grown (shorts + short)
tells-next servers reservations state mid after items i d outcome before text grown shorts short within h k is s =
    subst (λ (n : ℕ). TellsRun servers reservations state (take (i + 1) items) after before grown (shorts + n)) (sym s)
    (subst (λ (xs : List Failure). TellsRun servers reservations state xs after before grown (shorts + cond (is_short outcome) 1 0)) (sym (take_more items i d within))
    (tells-more servers reservations state mid after (take i items) (get_or items i d) outcome before text grown shorts h k is))

pub short-few : (outcome : Outcome) (short : ℕ) → short ≡ cond (is_short outcome) 1 0 → short ≤ 1
short-few outcome short h = omega (arith, h, one-most (is_short outcome))
  where
    one-most : (b : Bool) → cond b 1 0 ≤ 1
    one-most true = omega arith
    one-most false = omega arith

-- the change at a place is to one of so many servers
pub change-at : (n : ℕ) (failures : List Failure) (i : ℕ) (d : Failure) → list_all (λ (failure : Failure). change_within n failure.change) failures ≡ true → i < length failures
    → change_within n (get_or failures i d).change ≡ true
change-at n failures i d all within = list_all-at (λ (failure : Failure). change_within n failure.change) failures i d within all

-- two texts after an empty one
pub two-joined : (t u v a b : List ℕ) → t ≡ [] → u ≡ t ++ a → v ≡ u ++ b → v ≡ a ++ b
two-joined t u v a b e f g = g ∙ ap (λ xs. xs ++ b) (f ∙ ap (λ xs. xs ++ a) e)
