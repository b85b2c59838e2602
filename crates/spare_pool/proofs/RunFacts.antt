-- Every run: it keeps the rule, and loses no more units than it tells.
use Rattle.std.proofs.Common.{◌≡◌, ℕ, ◌+◌, ◌≤◌, Bool, true, false, cond, [], ◌∷◌, length, arith, ap, sym, ◌∙◌, refl, subst, Some, None}
use Rattle.std.specs.Prelude.{Option, ◌==◌}
use Rattle.std.specs.List.{list_all}
use Rattle.std.proofs.lemmas.Bool.Decides.{nat_tests}
use Rattle.std.proofs.lemmas.List.{length-set}
use Rattle.std.proofs.lemmas.List.Sums.{sum_by-cons}
use Rattle.plan_model.proofs.CaseFacts.{and-left, and-right}
use Rattle.spare_pool.specs.declared.standings.Change.{Change}
use Rattle.spare_pool.specs.declared.standings.Change.TheVariants.{Fail, Repair}
use Rattle.spare_pool.specs.declared.standings.Outcome.{Outcome}
use Rattle.spare_pool.specs.declared.standings.Outcome.TheVariants.{Replaced, Short, Idle, Returned, Stale}
use Rattle.spare_pool.specs.States.{State, standing_of, with_standing, down, free, serving, units_of, value_of, state_rule}
use Rattle.spare_pool.specs.Steps.{IsFilled, IsLoss, IsFail, IsRepair, IsStep, change_within}
use Rattle.spare_pool.specs.StepLaws.{missing_after, RunLaws}
use Rattle.spare_pool.proofs.StepFacts.{step-rule, replaced-units, short-units, others-units}

-- a step keeps the number of servers
filled-long : (state after : State) (r value : ℕ) (outcome : Outcome) → IsFilled state r value outcome after → length after.servers ≡ length state.servers
filled-long state after r value (Replaced q by) h = ap (λ (t : State). length t.servers) h.2 ∙ length-set state.servers by (serving r)
filled-long state after r value (Short q (Some by) missing) h = ap (λ (t : State). length t.servers) h.4 ∙ length-set state.servers by (serving r)
filled-long state after r value (Short q None missing) h = ap (λ (t : State). length t.servers) h.4
filled-long state after r value Idle h = absurd h
filled-long state after r value Returned h = absurd h
filled-long state after r value Stale h = absurd h

pub step-long : (state after : State) (change : Change) (outcome : Outcome) → IsStep state change outcome after → length after.servers ≡ length state.servers
step-long state after (Fail s) outcome step = by (standing_of state s).up step
  where
    loss : (o : Option ℕ) → IsLoss state s o outcome after → length after.servers ≡ length state.servers
    loss None h = ap (λ (t : State). length t.servers) h.1 ∙ length-set state.servers s down
    loss (Some r) h = filled-long (with_standing state s down) after r (value_of state r s) outcome h ∙ length-set state.servers s down

    by : (up : Bool) → IsFail state s up outcome after → length after.servers ≡ length state.servers
    by false h = ap (λ (t : State). length t.servers) h.1
    by true h = loss (standing_of state s).serves h
step-long state after (Repair s) outcome step = by (standing_of state s).up step
  where
    by : (up : Bool) → IsRepair state s up outcome after → length after.servers ≡ length state.servers
    by true h = ap (λ (t : State). length t.servers) h.1
    by false h = ap (λ (t : State). length t.servers) h.1 ∙ length-set state.servers s free

-- a step keeps the case
filled-case : (state after : State) (r value : ℕ) (outcome : Outcome) → IsFilled state r value outcome after → after.case ≡ state.case
filled-case state after r value (Replaced q by) h = ap (λ (t : State). t.case) h.2
filled-case state after r value (Short q (Some by) missing) h = ap (λ (t : State). t.case) h.4
filled-case state after r value (Short q None missing) h = ap (λ (t : State). t.case) h.4
filled-case state after r value Idle h = absurd h
filled-case state after r value Returned h = absurd h
filled-case state after r value Stale h = absurd h

pub step-case : (state after : State) (change : Change) (outcome : Outcome) → IsStep state change outcome after → after.case ≡ state.case
step-case state after (Fail s) outcome step = by (standing_of state s).up step
  where
    loss : (o : Option ℕ) → IsLoss state s o outcome after → after.case ≡ state.case
    loss None h = ap (λ (t : State). t.case) h.1
    loss (Some r) h = filled-case (with_standing state s down) after r (value_of state r s) outcome h

    by : (up : Bool) → IsFail state s up outcome after → after.case ≡ state.case
    by false h = ap (λ (t : State). t.case) h.1
    by true h = loss (standing_of state s).serves h
step-case state after (Repair s) outcome step = by (standing_of state s).up step
  where
    by : (up : Bool) → IsRepair state s up outcome after → after.case ≡ state.case
    by true h = ap (λ (t : State). t.case) h.1
    by false h = ap (λ (t : State). t.case) h.1

eq-of : (a b : ℕ) → (a == b) ≡ true → a ≡ b
eq-of a b h = grind (arith, nat_tests, h)

-- one step loses at most what it tells
step-missing : (state after : State) (change : Change) (outcome : Outcome) (q : ℕ) → state_rule state ≡ true → change_within (length state.servers) change ≡ true
    → IsStep state change outcome after → units_of state q ≤ units_of after q + missing_after q outcome
step-missing state after change (Replaced r by) q rule range step = at (r == q) refl
  where
    at : (b : Bool) → (r == q) ≡ b → units_of state q ≤ units_of after q + missing_after q (Replaced r by)
    at true e = subst (λ (p : ℕ). units_of state p ≤ units_of after p + 0) (eq-of r q e) (omega (arith, replaced-units state after change r by rule range step))
    at false e = omega (arith, others-units state after change (Replaced r by) q rule range step e)
step-missing state after change (Short r by missing) q rule range step = at (r == q) refl
  where
    at : (b : Bool) → (r == q) ≡ b → units_of state q ≤ units_of after q + cond b missing 0
    at true e =
        subst (λ (p : ℕ). units_of state p ≤ units_of after p + missing) (eq-of r q e) (omega (arith, (short-units state after change r missing by rule range step).0))
    at false e = omega (arith, others-units state after change (Short r by missing) q rule range step e)
step-missing state after change Idle q rule range step = omega (arith, others-units state after change Idle q rule range step refl)
step-missing state after change Returned q rule range step = omega (arith, others-units state after change Returned q rule range step refl)
step-missing state after change Stale q rule range step = omega (arith, others-units state after change Stale q rule range step refl)

pub run-laws : RunLaws
run-laws state after [] [] rule range run = (
  subst (λ (t : State). state_rule t ≡ true) (sym run) rule,
  λ q. let same : units_of after q ≡ units_of state q = ap (λ (t : State). units_of t q) run in omega (arith, same),
)
run-laws state after [] (outcome ∷ outcomes) rule range run = absurd run
run-laws state after (change ∷ changes) [] rule range run = absurd run
run-laws state after (change ∷ changes) (outcome ∷ outcomes) rule range run =
    let next : State = run.0 in
    let step : IsStep state change outcome next = run.1.0 in
    let here : change_within (length state.servers) change ≡ true = and-left _ _ range in
    let rest : list_all (change_within (length next.servers)) changes ≡ true =
    ap (λ (n : ℕ). list_all (change_within n) changes) (step-long state next change outcome step) ∙ and-right (change_within (length state.servers) change) _ range in
    let laws = run-laws next after changes outcomes (step-rule state next change outcome rule here step) rest run.1.1 in
    (laws.0, λ q. omega (arith, laws.1 q, step-missing state next change outcome q rule here step, sum_by-cons (missing_after q) outcome outcomes))
