-- What a step leaves of the units.
use Rattle.std.proofs.Common.{◌≡◌, ◌≢◌, ℕ, ◌+◌, ◌<◌, ◌≤◌, Bool, true, false, cond, length, arith, ap, sym, ◌∙◌, refl, subst, Some, None}
use Rattle.std.specs.Prelude.{Option, is_some, not, ◌&&◌, ◌==◌, nat_lt}
use Rattle.std.proofs.lemmas.Bool.Decides.{nat_tests}
use Rattle.std.proofs.lemmas.List.{get_or-set_other}
use Rattle.plan_model.specs.Units.{is_for}
use Rattle.spare_pool.specs.declared.standings.Standing.{Standing}
use Rattle.spare_pool.specs.declared.standings.Change.{Change}
use Rattle.spare_pool.specs.declared.standings.Change.TheVariants.{Fail, Repair}
use Rattle.spare_pool.specs.declared.standings.Outcome.{Outcome}
use Rattle.spare_pool.specs.declared.standings.Outcome.TheVariants.{Replaced, Short, Idle, Returned, Stale}
use Rattle.spare_pool.specs.States.{State, standing_of, with_standing, no_standing, down, free, serving, is_spare, counts_for, units_of, value_of, state_rule}
use Rattle.spare_pool.specs.Spares.{NoneIsEnough, IsLeast, IsGreatest}
use Rattle.spare_pool.specs.Steps.{IsFilled, IsLoss, IsFail, IsRepair, IsStep, change_within}
use Rattle.spare_pool.specs.StepLaws.{changed, loser, StepKeepsRule, ReplacedKeepsUnits, ShortIsMissing, OthersKeepUnits}
use Rattle.spare_pool.proofs.Rules.{rule-long, put-rule, may-serve, serves-of, Serves, spare-within, false-true}
use Rattle.spare_pool.proofs.SumFacts.{given, units-with, given-same, given-other}

-- a server that is down, or a spare, counts for none
counts-down : (x : Standing) → x.up ≡ false → counts_for x ≡ None
counts-down x h = ap (λ (b : Bool). let o : Option ℕ = cond b x.serves None in o) h

counts-spare : (x : Standing) → is_spare x ≡ true → counts_for x ≡ None
counts-spare x h = on x.up x.serves h
  where
    on : (up : Bool) (o : Option ℕ) → (up && not (is_some o)) ≡ true → ◌≡◌ {A = Option ℕ} (cond up o None) None
    on true None k = refl
    on true (Some r) k = absurd (false-true k)
    on false o k = refl

counts-up : (x : Standing) (r : ℕ) → x.up ≡ true → x.serves ≡ Some r → counts_for x ≡ Some r
counts-up x r up is = ap (λ (b : Bool). let o : Option ℕ = cond b x.serves None in o) up ∙ is

-- the units of a reservation when a server fails that counted for one, or for none
fail-units : (state : State) (s q : ℕ) (o : Option ℕ) → state_rule state ≡ true → s < length state.servers → counts_for (standing_of state s) ≡ o
    → units_of (with_standing state s down) q + given state q s o ≡ units_of state q
fail-units state s q o rule within is =
    let nothing : given state q s (counts_for down) ≡ 0 = refl in
    let had : given state q s (counts_for (standing_of state s)) ≡ given state q s o = ap (given state q s) is in
    omega (arith, units-with state q s down (rule-long state rule) within, nothing, had)

-- when a server that counted for none counts for a reservation, or still for none
take-units : (state : State) (s q : ℕ) (new : Standing) → state_rule state ≡ true → s < length state.servers → counts_for (standing_of state s) ≡ None
    → units_of (with_standing state s new) q ≡ units_of state q + given state q s (counts_for new)
take-units state s q new rule within is =
    let had : given state q s (counts_for (standing_of state s)) ≡ 0 = ap (given state q s) is in
    omega (arith, units-with state q s new (rule-long state rule) within, had)

down-rule : (state : State) (s : ℕ) → state_rule state ≡ true → s < length state.servers → state_rule (with_standing state s down) ≡ true
down-rule state s rule within = put-rule state s down rule within refl

free-rule : (state : State) (s : ℕ) → state_rule state ≡ true → s < length state.servers → state_rule (with_standing state s free) ≡ true
free-rule state s rule within = put-rule state s free rule within refl

serving-rule : (state : State) (s r : ℕ) → state_rule state ≡ true → s < length state.servers → r < length state.case.wants → 0 < value_of state r s
    → state_rule (with_standing state s (serving r)) ≡ true
serving-rule state s r rule within there some = put-rule state s (serving r) rule within (may-serve state s r there some)

-- what is known where a reservation has lost a server
pub record Lost (state : State) (r value : ℕ) : Type 0 where
  pub rule : state_rule state ≡ true
  pub in_range : r < length state.case.wants
  pub some : 0 < value

-- ---- a reservation that has lost a server

filled-rule : (state after : State) (r value : ℕ) (outcome : Outcome) → Lost state r value → IsFilled state r value outcome after → state_rule after ≡ true
filled-rule state after r value (Replaced q by) k h =
    let least : IsLeast state r value by = h.1 in
    subst (λ (t : State). state_rule t ≡ true) (sym h.2)
    (serving-rule state by r k.rule (spare-within state by least.enough.spare) k.in_range (omega (arith, k.some, least.enough.value)))
filled-rule state after r value (Short q (Some by) missing) k h =
    let greatest : IsGreatest state r by = h.2 in
    subst (λ (t : State). state_rule t ≡ true) (sym h.4)
    (serving-rule state by r k.rule (spare-within state by greatest.some.spare) k.in_range (omega (arith, greatest.some.value)))
filled-rule state after r value (Short q None missing) k h = subst (λ (t : State). state_rule t ≡ true) (sym h.4) k.rule
filled-rule state after r value Idle k h = absurd h
filled-rule state after r value Returned k h = absurd h
filled-rule state after r value Stale k h = absurd h

spare-units : (state : State) (by r q : ℕ) → state_rule state ≡ true → is_spare (standing_of state by) ≡ true
    → units_of (with_standing state by (serving r)) q ≡ units_of state q + given state q by (Some r)
spare-units state by r q rule spare = take-units state by q (serving r) rule (spare-within state by spare) (counts-spare (standing_of state by) spare)

-- where none is enough a spare gives less
pub gives-less : (state : State) (r value by : ℕ) → is_spare (standing_of state by) ≡ true → NoneIsEnough state r value → value_of state r by < value
gives-less state r value by spare none = few (nat_lt (value_of state r by) value) refl
  where
    few : (b : Bool) → nat_lt (value_of state r by) value ≡ b → value_of state r by < value
    few true e = grind (arith, nat_tests, e)
    few false e =
        let enough : value ≤ value_of state r by = grind (arith, nat_tests, e) in
        absurd (none by (record { spare = spare; value = enough }))

-- the reservation gains what the spare gives it
filled-replaced : (state after : State) (r value q by : ℕ) → Lost state r value → IsFilled state r value (Replaced q by) after
    → (q ≡ r) × (units_of state r + value ≤ units_of after r)
filled-replaced state after r value q by k h =
    let least : IsLeast state r value by = h.1 in
    let gains : units_of after r ≡ units_of state r + given state r by (Some r) =
    ap (λ (t : State). units_of t r) h.2 ∙ spare-units state by r r k.rule least.enough.spare in
    (h.0, omega (arith, gains, given-same state r by, least.enough.value))

filled-short : (state after : State) (r value q missing : ℕ) (by : Option ℕ) → Lost state r value → IsFilled state r value (Short q by missing) after
    → (q ≡ r) × ((units_of after r + missing ≡ units_of state r + value) × (0 < missing) × NoneIsEnough state r value)
filled-short state after r value q missing (Some by) k h =
    let greatest : IsGreatest state r by = h.2 in
    let gains : units_of after r ≡ units_of state r + given state r by (Some r) =
    ap (λ (t : State). units_of t r) h.4 ∙ spare-units state by r r k.rule greatest.some.spare in
    let less : value_of state r by < value = gives-less state r value by greatest.some.spare h.1 in
    (h.0, (omega (arith, gains, given-same state r by, h.3, less), omega (arith, h.3, less), h.1))
filled-short state after r value q missing None k h =
    let same : units_of after r ≡ units_of state r = ap (λ (t : State). units_of t r) h.4 in
    (h.0, (omega (arith, same, h.3), omega (arith, h.3, k.some), h.1))

-- another reservation's units stay
filled-other : (state after : State) (r value q : ℕ) (outcome : Outcome) → Lost state r value → IsFilled state r value outcome after
    → (r == q) ≡ false → units_of after q ≡ units_of state q
filled-other state after r value q (Replaced p by) k h other =
    let gains = ap (λ (t : State). units_of t q) h.2 ∙ spare-units state by r q k.rule h.1.enough.spare in
    omega (arith, gains, given-other state q r by other)
filled-other state after r value q (Short p (Some by) missing) k h other =
    let gains = ap (λ (t : State). units_of t q) h.4 ∙ spare-units state by r q k.rule h.2.some.spare in
    omega (arith, gains, given-other state q r by other)
filled-other state after r value q (Short p None missing) k h other = ap (λ (t : State). units_of t q) h.4
filled-other state after r value q Idle k h other = absurd h
filled-other state after r value q Returned k h other = absurd h
filled-other state after r value q Stale k h other = absurd h

filled-loser : (state after : State) (r value : ℕ) (outcome : Outcome) → IsFilled state r value outcome after → loser outcome ≡ Some r
filled-loser state after r value (Replaced q by) h = ap (λ (p : ℕ). let o : Option ℕ = Some p in o) h.0
filled-loser state after r value (Short q (Some by) missing) h = ap (λ (p : ℕ). let o : Option ℕ = Some p in o) h.0
filled-loser state after r value (Short q None missing) h = ap (λ (p : ℕ). let o : Option ℕ = Some p in o) h.0
filled-loser state after r value Idle h = absurd h
filled-loser state after r value Returned h = absurd h
filled-loser state after r value Stale h = absurd h

-- ---- a step by its cases

lost-of : (state : State) (s r : ℕ) → state_rule state ≡ true → s < length state.servers → (standing_of state s).serves ≡ Some r
    → Lost (with_standing state s down) r (value_of state r s)
lost-of state s r rule within is =
    let k : Serves state s r = serves-of state s r rule within is in
    record { rule = down-rule state s rule within; in_range = k.in_range; some = k.some }

within-of : (s n : ℕ) → nat_lt s n ≡ true → s < n
within-of s n h = grind (arith, nat_tests, h)

pub step-rule : StepKeepsRule
step-rule state after (Fail s) outcome rule range step = by (standing_of state s).up step
  where
    within : s < length state.servers
    within = within-of s (length state.servers) range

    loss : (o : Option ℕ) → (standing_of state s).serves ≡ o → IsLoss state s o outcome after → state_rule after ≡ true
    loss None e h = subst (λ (t : State). state_rule t ≡ true) (sym h.1) (down-rule state s rule within)
    loss (Some r) e h = filled-rule (with_standing state s down) after r (value_of state r s) outcome (lost-of state s r rule within e) h

    by : (up : Bool) → IsFail state s up outcome after → state_rule after ≡ true
    by false h = subst (λ (t : State). state_rule t ≡ true) (sym h.1) rule
    by true h = loss (standing_of state s).serves refl h
step-rule state after (Repair s) outcome rule range step = by (standing_of state s).up step
  where
    by : (up : Bool) → IsRepair state s up outcome after → state_rule after ≡ true
    by true h = subst (λ (t : State). state_rule t ≡ true) (sym h.1) rule
    by false h = subst (λ (t : State). state_rule t ≡ true) (sym h.1) (free-rule state s rule (within-of s (length state.servers) range))

-- a step that a reservation lost a server by: the server was up and served it
pub record IsLossOf (state after : State) (s r : ℕ) (outcome : Outcome) : Type 0 where
  pub up : (standing_of state s).up ≡ true
  pub serves : (standing_of state s).serves ≡ Some r
  pub filled : IsFilled (with_standing state s down) r (value_of state r s) outcome after

some-same : {X : Type 0} (x y : X) → ◌≡◌ {A = Option X} (Some x) (Some y) → x ≡ y
some-same x y h = cc

none-some : {X : Type 0} (x : X) → ◌≡◌ {A = Option X} None (Some x) → ⊥
none-some x h = cc

loss-of : (state after : State) (change : Change) (outcome : Outcome) (r : ℕ) → IsStep state change outcome after → loser outcome ≡ Some r
    → IsLossOf state after (changed change) r outcome
loss-of state after (Fail s) outcome r step is = by (standing_of state s).up refl step
  where
    loss : (standing_of state s).up ≡ true → (o : Option ℕ) → (standing_of state s).serves ≡ o → IsLoss state s o outcome after → IsLossOf state after s r outcome
    loss up None e h = absurd (none-some r (sym (ap loser h.0) ∙ is))
    loss up (Some q) e h =
        let same : q ≡ r = some-same q r (sym (filled-loser (with_standing state s down) after q (value_of state q s) outcome h) ∙ is) in
        record {
          up = up;
          serves = e ∙ ap (λ (p : ℕ). let o : Option ℕ = Some p in o) same;
          filled = subst (λ (p : ℕ). IsFilled (with_standing state s down) p (value_of state p s) outcome after) same h;
        }

    by : (up : Bool) → (standing_of state s).up ≡ up → IsFail state s up outcome after → IsLossOf state after s r outcome
    by false e h = absurd (none-some r (sym (ap loser h.0) ∙ is))
    by true e h = loss e (standing_of state s).serves refl h
loss-of state after (Repair s) outcome r step is = by (standing_of state s).up step
  where
    by : (up : Bool) → IsRepair state s up outcome after → IsLossOf state after s r outcome
    by true h = absurd (none-some r (sym (ap loser h.0) ∙ is))
    by false h = absurd (none-some r (sym (ap loser h.0) ∙ is))

pub change-in : (n : ℕ) (change : Change) → change_within n change ≡ true → changed change < n
change-in n (Fail s) h = within-of s n h
change-in n (Repair s) h = within-of s n h

-- what the server gave is taken away
loss-units : (state after : State) (s r : ℕ) (outcome : Outcome) → state_rule state ≡ true → s < length state.servers → IsLossOf state after s r outcome
    → units_of (with_standing state s down) r + value_of state r s ≡ units_of state r
loss-units state after s r outcome rule within k =
    omega (arith, fail-units state s r (Some r) rule within (counts-up (standing_of state s) r k.up k.serves), given-same state r s)

pub replaced-units : ReplacedKeepsUnits
replaced-units state after change r by rule range step =
    let s : ℕ = changed change in
    let within : s < length state.servers = change-in (length state.servers) change range in
    let k : IsLossOf state after s r (Replaced r by) = loss-of state after change (Replaced r by) r step refl in
    let filled = filled-replaced (with_standing state s down) after r (value_of state r s) r by (lost-of state s r rule within k.serves) k.filled in
    omega (arith, loss-units state after s r (Replaced r by) rule within k, filled.1)

-- the spares before the step are those after the server went down, for it was none
spares-before : (state : State) (s r least : ℕ) → is_spare (standing_of state s) ≡ false → NoneIsEnough (with_standing state s down) r least → NoneIsEnough state r least
spares-before state s r least none h t k = at (s == t) refl
  where
    at : (b : Bool) → (s == t) ≡ b → ⊥
    at true e =
        let same : s ≡ t = grind (arith, nat_tests, e) in
        false-true (sym (sym (ap (λ (u : ℕ). is_spare (standing_of state u)) same) ∙ none) ∙ k.spare)
    at false e =
        let other : t ≢ s = λ f. false-true (sym e ∙ (let yes : (s == t) ≡ true = grind (arith, nat_tests, f) in yes)) in
        let stands : standing_of (with_standing state s down) t ≡ standing_of state t = get_or-set_other state.servers s t down no_standing other in
        h t (record { spare = ap is_spare stands ∙ k.spare; value = k.value })

not-spare : (x : Standing) (r : ℕ) → x.serves ≡ Some r → is_spare x ≡ false
not-spare x r is = ap (λ (o : Option ℕ). x.up && not (is_some o)) is ∙ on x.up
  where
    on : (b : Bool) → (b && false) ≡ false
    on true = refl
    on false = refl

pub short-units : ShortIsMissing
short-units state after change r missing by rule range step =
    let s : ℕ = changed change in
    let within : s < length state.servers = change-in (length state.servers) change range in
    let k : IsLossOf state after s r (Short r by missing) = loss-of state after change (Short r by missing) r step refl in
    let filled = filled-short (with_standing state s down) after r (value_of state r s) r missing by (lost-of state s r rule within k.serves) k.filled in
    let had = loss-units state after s r (Short r by missing) rule within k in
    (omega (arith, had, filled.1.0), filled.1.1, spares-before state s r (value_of state r s) (not-spare (standing_of state s) r k.serves) filled.1.2)

-- the other reservations
other-loss : (state after : State) (s r q : ℕ) (outcome : Outcome) → state_rule state ≡ true → s < length state.servers → IsLossOf state after s r outcome → (r == q) ≡ false
    → units_of after q ≡ units_of state q
other-loss state after s r q outcome rule within k other =
    omega (
      arith,
      fail-units state s q (Some r) rule within (counts-up (standing_of state s) r k.up k.serves),
      given-other state q r s other,
      filled-other (with_standing state s down) after r (value_of state r s) q outcome (lost-of state s r rule within k.serves) k.filled other,
    )

pub others-units : OthersKeepUnits
others-units state after change outcome q rule range step other = at (loser outcome) refl
  where
    within : changed change < length state.servers
    within = change-in (length state.servers) change range

    idle : (s : ℕ) → s < length state.servers → (up : Bool) → (standing_of state s).up ≡ up → loser outcome ≡ None → IsFail state s up outcome after → units_of after q ≡ units_of state q
    idle s inside false u none h = ap (λ (t : State). units_of t q) h.1
    idle s inside true u none h = loss (standing_of state s).serves refl h
      where
        loss : (o : Option ℕ) → (standing_of state s).serves ≡ o → IsLoss state s o outcome after → units_of after q ≡ units_of state q
        loss None e l =
            let counts : counts_for (standing_of state s) ≡ None = ap (λ (b : Bool). let o : Option ℕ = cond b (standing_of state s).serves None in o) u ∙ e in
            let nothing : given state q s None ≡ 0 = refl in
            let same : units_of after q ≡ units_of (with_standing state s down) q = ap (λ (t : State). units_of t q) l.1 in
            omega (arith, fail-units state s q None rule inside counts, nothing, same)
        loss (Some r) e l = absurd (none-some r (sym none ∙ filled-loser (with_standing state s down) after r (value_of state r s) outcome l))

    back : (s : ℕ) → s < length state.servers → (up : Bool) → (standing_of state s).up ≡ up → IsRepair state s up outcome after → units_of after q ≡ units_of state q
    back s inside true u h = ap (λ (t : State). units_of t q) h.1
    back s inside false u h =
        let nothing : given state q s (counts_for free) ≡ 0 = refl in
        omega (arith, ap (λ (t : State). units_of t q) h.1, take-units state s q free rule inside (counts-down (standing_of state s) u), nothing)

    none : (c : Change) → changed c < length state.servers → loser outcome ≡ None → IsStep state c outcome after → units_of after q ≡ units_of state q
    none (Fail s) inside e h = idle s inside (standing_of state s).up refl e h
    none (Repair s) inside e h = back s inside (standing_of state s).up refl h

    at : (o : Option ℕ) → loser outcome ≡ o → units_of after q ≡ units_of state q
    at None e = none change within e step
    at (Some r) e =
        other-loss state after (changed change) r q outcome rule within (loss-of state after change outcome r step e) (sym (ap (is_for q) e) ∙ other)
