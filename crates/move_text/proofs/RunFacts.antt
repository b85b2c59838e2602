-- One step more of a run, and its text.
use Rattle.std.proofs.Common.{◌≡◌, ℕ, ◌+◌, ◌<◌, ◌≤◌, Bool, true, false, cond, List, [], ◌∷◌, ◌++◌, length, take, get_or, sym, ap, ap₂, ◌∙◌, refl, subst, arith, append_assoc, Result, Ok, Err, Vec, Global}
use Rattle.std.specs.declared.alloc.AllocError.{AllocError}
use Rattle.std.specs.Prelude.{flat_map, sum_by, count_by, nat_lt, IfOk}
use Rattle.std.specs.List.{list_all}
use Rattle.std.proofs.lemmas.List.Sums.{sum_by_push}
use Rattle.std.proofs.lemmas.List.Concat.{flat_map-append}
use Rattle.std.proofs.lemmas.List.{append-nil, take_more}
use Rattle.online_mover.specs.declared.stands.Command.{Command}
use Rattle.online_mover.specs.declared.stands.Taken.{Taken as Outcome}
use Rattle.online_mover.specs.declared.timed.Timed.{Timed}
use Rattle.online_mover.specs.States.{State, state_rule}
use Rattle.online_mover.specs.Steps.{IsStep}
use Rattle.online_mover.proofs.FurtherLaws.{step-targets}
use Rattle.online_mover.proofs.StepProofs.{step-there, step-unique, step-keeps_rule}
use Rattle.online_mover.proofs.Sizes.{step-length}
use Rattle.move_text.specs.Told.{Told, IsTold, is_stale, commands_of, stales_of}
use Rattle.move_text.specs.Texts.{step_text, steps_text, run_text, TellsRun, IsMoveText, IsMoveTextTo}
use Rattle.move_text.specs.Laws.{MoveTextIsThere, MoveTextIsUnique, MoveTextEndIsUnique, MoveTextKeepsCase}

told-more : (state mid after : State) (events : List Timed) (steps : List Told) (timed : Timed) (taken : Outcome) (commands : List Command)
    → IsTold state events steps mid → IsStep mid timed.event taken commands after
    → IsTold state (events ++ timed ∷ []) (steps ++ record { timed = timed; taken = taken; commands = commands; after = after } ∷ []) after
told-more state mid after [] [] timed taken commands h k =
    (refl, subst (λ (t : State). IsStep t timed.event taken commands after) h k, refl)
told-more state mid after [] (step ∷ steps) timed taken commands h k = absurd h
told-more state mid after (e ∷ events) [] timed taken commands h k = absurd h
told-more state mid after (e ∷ events) (step ∷ steps) timed taken commands h k =
    (h.0, h.1, told-more step.after mid after events steps timed taken commands h.2 k)

-- no event yet
pub tells-none : (servers reservations : List (List ℕ)) (state : State) (text : List ℕ) → TellsRun servers reservations state [] state text text 0 0
tells-none servers reservations state text = ([], (refl, sym (append-nil text), refl, refl))

-- and one event more
pub tells-more : (servers reservations : List (List ℕ)) (state mid after : State) (events : List Timed) (timed : Timed) (taken : Outcome) (commands : List Command)
    (before text grown : List ℕ) (given stales : ℕ)
    → TellsRun servers reservations state events mid before text given stales
    → IsStep mid timed.event taken commands after
    → grown ≡ text ++ step_text servers reservations (record { timed = timed; taken = taken; commands = commands; after = after })
    → TellsRun servers reservations state (events ++ timed ∷ []) after before grown (given + length commands) (stales + cond (is_stale taken) 1 0)
tells-more servers reservations state mid after events timed taken commands before text grown given stales h k is =
    let step : Told = record { timed = timed; taken = taken; commands = commands; after = after } in
    let steps : List Told = h.0 in (
      steps ++ step ∷ [],
      (
        told-more state mid after events steps timed taken commands h.1.0 k,
        is ∙ ap (λ xs. xs ++ step_text servers reservations step) h.1.1 ∙ append_assoc before (steps_text servers reservations steps) (step_text servers reservations step)
            ∙ ap (λ xs. before ++ xs) (ap (λ xs. steps_text servers reservations steps ++ xs) (sym (append-nil (step_text servers reservations step)))
            ∙ sym (flat_map-append (step_text servers reservations) steps (step ∷ []))),
        ap (λ n. n + length commands) h.1.2 ∙ sym (sum_by_push (λ (s : Told). length s.commands) steps step),
        ap (λ n. n + cond (is_stale taken) 1 0) h.1.3 ∙ sym (sum_by_push (λ (s : Told). cond (is_stale s.taken) 1 0) steps step),
      ),
    )

-- ---- a run is there, and only one

told-there : (state : State) (events : List Timed) → (steps : List Told) × ((after : State) × IsTold state events steps after)
told-there state [] = ([], (state, refl))
told-there state (timed ∷ events) =
    let step = step-there state timed.event in
    let rest = told-there step.1.1.0 events in
    (record { timed = timed; taken = step.0; commands = step.1.0; after = step.1.1.0 } ∷ rest.0, (rest.1.0, (refl, step.1.1.1, rest.1.1)))

same-told : (timed timed' : Timed) (taken taken' : Outcome) (commands commands' : List Command) (after after' : State) → timed ≡ timed' → taken ≡ taken' → commands ≡ commands' → after ≡ after'
    → ◌≡◌ {A = Told} (record { timed = timed; taken = taken; commands = commands; after = after }) (record { timed = timed'; taken = taken'; commands = commands'; after = after' })
same-told timed timed' taken taken' commands commands' after after' a b c d = rw (a, b, c, d) refl

told-unique : (state after other : State) (events : List Timed) (steps given : List Told) → IsTold state events steps after → IsTold state events given other
    → (steps ≡ given) × (after ≡ other)
told-unique state after other [] [] [] h k = (refl, h ∙ sym k)
told-unique state after other [] [] (g ∷ given) h k = absurd k
told-unique state after other [] (s ∷ steps) given h k = absurd h
told-unique state after other (timed ∷ events) [] given h k = absurd h
told-unique state after other (timed ∷ events) (s ∷ steps) [] h k = absurd k
told-unique state after other (timed ∷ events) (s ∷ steps) (g ∷ given) h k =
    let one = step-unique state s.after g.after timed.event s.taken g.taken s.commands g.commands h.1 k.1 in
    let there : IsTold s.after events given other = subst (λ (t : State). IsTold t events given other) (sym one.2) k.2 in
    let rest = told-unique s.after after other events steps given h.2 there in
    let same : s ≡ g = same-told s.timed g.timed s.taken g.taken s.commands g.commands s.after g.after (h.0 ∙ sym k.0) one.0 one.1 one.2 in
    (ap₂ (λ (x : Told) (xs : List Told). x ∷ xs) same rest.0, rest.1)

pub text-there : MoveTextIsThere
text-there servers reservations state events =
    let run = told-there state events in
    (run_text servers reservations run.0 run.1.0, (run.1.0, (run.0, (run.1.1, refl))))

pub end-unique : MoveTextEndIsUnique
end-unique servers reservations state after other_after events text other h k =
    let same = told-unique state after other_after events h.0 k.0 h.1.0 k.1.0 in
    (h.1.1 ∙ ap₂ (λ (steps : List Told) (end : State). run_text servers reservations steps end) same.0 same.1 ∙ sym k.1.1, same.1)

pub text-unique : MoveTextIsUnique
text-unique servers reservations state events text other h k = (end-unique servers reservations state h.0 k.0 events text other h.1 k.1).0

pub text-only : (servers reservations : List (List ℕ)) (state after : State) (events : List Timed) (r : Result (Vec ℕ Global) AllocError)
    → IfOk r (λ text. IsMoveTextTo servers reservations state events text.items after) → IfOk r (λ text. IsMoveText servers reservations state events text.items)
text-only servers reservations state after events (Ok text) h = (after, h)
text-only servers reservations state after events (Err e) h = tt

-- ---- in the words of the loop

told-length : (state after : State) (events : List Timed) (steps : List Told) → IsTold state events steps after → length after.servers ≡ length state.servers
told-length state after [] [] h = ap (λ (t : State). length t.servers) h
told-length state after [] (s ∷ steps) h = absurd h
told-length state after (e ∷ events) [] h = absurd h
told-length state after (e ∷ events) (s ∷ steps) h =
    told-length s.after after events steps h.2 ∙ step-length state s.after e.event s.taken s.commands h.1

told-case : (state after : State) (events : List Timed) (steps : List Told) → IsTold state events steps after
    → (after.case ≡ state.case) × (after.at_once ≡ state.at_once) × (state_rule state ≡ true → state_rule after ≡ true)
told-case state after [] [] h = (ap (λ (t : State). t.case) h, ap (λ (t : State). t.at_once) h, λ rule. ap state_rule h ∙ rule)
told-case state after [] (s ∷ steps) h = absurd h
told-case state after (e ∷ events) [] h = absurd h
told-case state after (e ∷ events) (s ∷ steps) h =
    let first = step-targets state s.after e.event s.taken s.commands h.1 in
    let rest = told-case s.after after events steps h.2 in
    (rest.0 ∙ first.0, rest.1 ∙ first.1, λ rule. rest.2 (step-keeps_rule state s.after e.event s.taken s.commands rule h.1))

pub end-case : MoveTextKeepsCase
end-case servers reservations state after events text h =
    let case = told-case state after events h.0 h.1.0 in
    (case.0, case.1, told-length state after events h.0 h.1.0, case.2)

pub run-length : (servers reservations : List (List ℕ)) (state after : State) (events : List Timed) (before text : List ℕ) (commands stales : ℕ)
    → TellsRun servers reservations state events after before text commands stales → length after.servers ≡ length state.servers
run-length servers reservations state after events before text commands stales h = told-length state after events h.0 h.1.0

pub tells-next : (servers reservations : List (List ℕ)) (state mid after : State) (items : List Timed) (i : ℕ) (d : Timed) (taken : Outcome) (commands : List Command)
    (before text grown : List ℕ) (given stales more stale : ℕ)
    → i < length items → TellsRun servers reservations state (take i items) mid before text given stales
    → IsStep mid (get_or items i d).event taken commands after
    → grown ≡ text ++ step_text servers reservations (record { timed = get_or items i d; taken = taken; commands = commands; after = after })
    → more ≡ length commands → stale ≡ cond (is_stale taken) 1 0
    → TellsRun servers reservations state (take (i + 1) items) after before grown (given + more) (stales + stale)
tells-next servers reservations state mid after items i d taken commands before text grown given stales more stale within h k is m s =
    subst (λ (n : ℕ). TellsRun servers reservations state (take (i + 1) items) after before grown (given + n) (stales + stale)) (sym m)
    (subst (λ (n : ℕ). TellsRun servers reservations state (take (i + 1) items) after before grown (given + length commands) (stales + n)) (sym s)
    (subst (λ (xs : List Timed). TellsRun servers reservations state xs after before grown (given + length commands) (stales + cond (is_stale taken) 1 0)) (sym (take_more items i d within))
    (tells-more servers reservations state mid after (take i items) (get_or items i d) taken commands before text grown given stales h k is)))

pub stale-few : (taken : Outcome) (stale : ℕ) → stale ≡ cond (is_stale taken) 1 0 → stale ≤ 1
stale-few taken stale h = omega (arith, h, one-most (is_stale taken))
  where
    one-most : (b : Bool) → cond b 1 0 ≤ 1
    one-most true = omega arith
    one-most false = omega arith
