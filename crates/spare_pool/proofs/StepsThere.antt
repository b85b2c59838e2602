-- Each change has a step, and only one.
use Rattle.std.proofs.Common.{◌≡◌, ℕ, zero, suc, ◌-◌, ◌<◌, ◌≤◌, ◌⊎◌, inl, inr, Bool, true, false, [], ◌∷◌, length, arith, ap, sym, ◌∙◌, refl, subst, Some, None}
use Rattle.std.specs.Prelude.{Option, ◌==◌, nat_lt, nat_le}
use Rattle.std.proofs.lemmas.Bool.Decides.{nat_tests}
use Rattle.spare_pool.specs.declared.standings.Change.TheVariants.{Fail, Repair}
use Rattle.spare_pool.specs.declared.standings.Outcome.{Outcome}
use Rattle.spare_pool.specs.declared.standings.Outcome.TheVariants.{Replaced, Short, Idle, Returned, Stale}
use Rattle.spare_pool.specs.States.{State, standing_of, with_standing, down, free, serving, is_spare, value_of}
use Rattle.spare_pool.specs.Spares.{LessOrFirst, MoreOrFirst, IsEnough, NoneIsEnough, IsLeast, IsGreatest, FindsLeast, FindsGreatest}
use Rattle.spare_pool.specs.Steps.{IsFilled, IsLoss, IsFail, IsRepair}
use Rattle.spare_pool.specs.StepLaws.{StepIsThere, StepIsUnique, RunIsThere}
use Rattle.spare_pool.proofs.Rules.{spare-within, false-true}

-- ---- there is a best spare, or none

-- the best of the first n servers by some order
abbrev BestOf : (ℕ → Type 0) → (ℕ → ℕ → Type 0) → ℕ → Option ℕ → Type 0
BestOf enough better n None = (t : ℕ) → t < n → enough t → ⊥
BestOf enough better n (Some s) = enough s × (s < n) × ((t : ℕ) → t < n → enough t → better s t)

below-next : (t n : ℕ) → t < suc n → (t < n) ⊎ (t ≡ n)
below-next t n h = at (t == n) refl
  where
    at : (b : Bool) → (t == n) ≡ b → (t < n) ⊎ (t ≡ n)
    at true e = inr (grind (arith, nat_tests, e))
    at false e = inl (grind (arith, nat_tests, e, h))

later : (s n : ℕ) → s < n → s < suc n
later s n low = omega (arith, low)

-- a test of each server, and of two which is better: the later one only where it is strictly so
best-of : (enough : ℕ → Type 0) (better : ℕ → ℕ → Type 0) → ((t : ℕ) → enough t ⊎ (enough t → ⊥)) → ((s : ℕ) → better s s)
    → ((s t : ℕ) → s < t → better s t ⊎ (((u : ℕ) → better s u → better t u) × better t s)) → (n : ℕ) → (o : Option ℕ) × BestOf enough better n o
best-of enough better test same pick zero = (None, λ t low k. absurd (omega (arith, low)))
best-of enough better test same pick (suc n) = next (best-of enough better test same pick n).0 (best-of enough better test same pick n).1 (test n)
  where
    next : (o : Option ℕ) → BestOf enough better n o → enough n ⊎ (enough n → ⊥) → (p : Option ℕ) × BestOf enough better (suc n) p
    next None h (inr lacks) = (None, λ t low k. at t (below-next t n low) k)
      where
        at : (t : ℕ) → (t < n) ⊎ (t ≡ n) → enough t → ⊥
        at t (inl l) k = h t l k
        at t (inr e) k = lacks (subst enough e k)
    next None h (inl here) = (Some n, (here, omega arith, λ t low k. at t (below-next t n low) k))
      where
        at : (t : ℕ) → (t < n) ⊎ (t ≡ n) → enough t → better n t
        at t (inl l) k = absurd (h t l k)
        at t (inr e) k = subst (better n) (sym e) (same n)
    next (Some s) h (inr lacks) = (Some s, (h.0, later s n h.1, λ t low k. at t (below-next t n low) k))
      where
        at : (t : ℕ) → (t < n) ⊎ (t ≡ n) → enough t → better s t
        at t (inl l) k = h.2 t l k
        at t (inr e) k = absurd (lacks (subst enough e k))
    next (Some s) h (inl here) = by (pick s n h.1)
      where
        by : better s n ⊎ (((u : ℕ) → better s u → better n u) × better n s) → (p : Option ℕ) × BestOf enough better (suc n) p
        by (inl keep) = (Some s, (h.0, later s n h.1, λ t low k. at t (below-next t n low) k))
          where
            at : (t : ℕ) → (t < n) ⊎ (t ≡ n) → enough t → better s t
            at t (inl l) k = h.2 t l k
            at t (inr e) k = subst (better s) (sym e) keep
        by (inr (go, over)) = (Some n, (here, omega arith, λ t low k. at t (below-next t n low) k))
          where
            at : (t : ℕ) → (t < n) ⊎ (t ≡ n) → enough t → better n t
            at t (inl l) k = go t (h.2 t l k)
            at t (inr e) k = subst (better n) (sym e) (same n)

enough-test : (state : State) (r least t : ℕ) → IsEnough state r least t ⊎ (IsEnough state r least t → ⊥)
enough-test state r least t = at (is_spare (standing_of state t)) refl (nat_le least (value_of state r t)) refl
  where
    at : (b : Bool) → is_spare (standing_of state t) ≡ b → (v : Bool) → nat_le least (value_of state r t) ≡ v → IsEnough state r least t ⊎ (IsEnough state r least t → ⊥)
    at true e true f = inl (record { spare = e; value = grind (arith, nat_tests, f) })
    at true e false f = inr (λ k. let le : least ≤ value_of state r t = k.value in let gt : value_of state r t < least = grind (arith, nat_tests, f) in omega (arith, le, gt))
    at false e v f = inr (λ k. false-true (sym e ∙ k.spare))

least-pick : (state : State) (r s t : ℕ) → s < t → LessOrFirst state r s t ⊎ (((u : ℕ) → LessOrFirst state r s u → LessOrFirst state r t u) × LessOrFirst state r t s)
least-pick state r s t low = at (nat_lt (value_of state r t) (value_of state r s)) refl (value_of state r s == value_of state r t) refl
  where
    go : value_of state r t < value_of state r s → (u : ℕ) → LessOrFirst state r s u → LessOrFirst state r t u
    go less u (inl lt) = inl (omega (arith, less, lt))
    go less u (inr (eq, le)) = inl (omega (arith, less, eq))

    at : (b : Bool) → nat_lt (value_of state r t) (value_of state r s) ≡ b → (v : Bool) → (value_of state r s == value_of state r t) ≡ v
        → LessOrFirst state r s t ⊎ (((u : ℕ) → LessOrFirst state r s u → LessOrFirst state r t u) × LessOrFirst state r t s)
    at true e v f = let less : value_of state r t < value_of state r s = grind (arith, nat_tests, e) in inr (go less, inl less)
    at false e true f = inl (inr (grind (arith, nat_tests, f), omega (arith, low)))
    at false e false f = inl (inl (grind (arith, nat_tests, e, f)))

greatest-pick : (state : State) (r s t : ℕ) → s < t → MoreOrFirst state r s t ⊎ (((u : ℕ) → MoreOrFirst state r s u → MoreOrFirst state r t u) × MoreOrFirst state r t s)
greatest-pick state r s t low = at (nat_lt (value_of state r s) (value_of state r t)) refl (value_of state r s == value_of state r t) refl
  where
    go : value_of state r s < value_of state r t → (u : ℕ) → MoreOrFirst state r s u → MoreOrFirst state r t u
    go more u (inl lt) = inl (omega (arith, more, lt))
    go more u (inr (eq, le)) = inl (omega (arith, more, eq))

    at : (b : Bool) → nat_lt (value_of state r s) (value_of state r t) ≡ b → (v : Bool) → (value_of state r s == value_of state r t) ≡ v
        → MoreOrFirst state r s t ⊎ (((u : ℕ) → MoreOrFirst state r s u → MoreOrFirst state r t u) × MoreOrFirst state r t s)
    at true e v f = let more : value_of state r s < value_of state r t = grind (arith, nat_tests, e) in inr (go more, inl more)
    at false e true f = inl (inr (grind (arith, nat_tests, f), omega (arith, low)))
    at false e false f = inl (inl (grind (arith, nat_tests, e, f)))

least-there : (state : State) (r least : ℕ) → (o : Option ℕ) × FindsLeast state r least o
least-there state r least =
    by (best-of (IsEnough state r least) (LessOrFirst state r) (enough-test state r least) (λ s. inr (refl, omega arith)) (least-pick state r) (length state.servers))
  where
    by : ((o : Option ℕ) × BestOf (IsEnough state r least) (LessOrFirst state r) (length state.servers) o) → (o : Option ℕ) × FindsLeast state r least o
    by (None, h) = (None, λ t k. h t (spare-within state t k.spare) k)
    by (Some s, h) = (Some s, record { enough = h.0; first = λ t k. h.2 t (spare-within state t k.spare) k })

greatest-there : (state : State) (r : ℕ) → (o : Option ℕ) × FindsGreatest state r o
greatest-there state r =
    by (best-of (IsEnough state r 1) (MoreOrFirst state r) (enough-test state r 1) (λ s. inr (refl, omega arith)) (greatest-pick state r) (length state.servers))
  where
    by : ((o : Option ℕ) × BestOf (IsEnough state r 1) (MoreOrFirst state r) (length state.servers) o) → (o : Option ℕ) × FindsGreatest state r o
    by (None, h) = (None, λ t k. h t (spare-within state t k.spare) k)
    by (Some s, h) = (Some s, record { some = h.0; first = λ t k. h.2 t (spare-within state t k.spare) k })

filled-there : (state : State) (r value : ℕ) → (outcome : Outcome) × ((after : State) × IsFilled state r value outcome after)
filled-there state r value = by (least-there state r value)
  where
    short : NoneIsEnough state r value → ((o : Option ℕ) × FindsGreatest state r o) → (outcome : Outcome) × ((after : State) × IsFilled state r value outcome after)
    short none (Some s, h) = (Short r (Some s) (value - value_of state r s), (with_standing state s (serving r), (refl, none, h, refl, refl)))
    short none (None, h) = (Short r None value, (state, (refl, none, h, refl, refl)))

    by : ((o : Option ℕ) × FindsLeast state r value o) → (outcome : Outcome) × ((after : State) × IsFilled state r value outcome after)
    by (Some s, h) = (Replaced r s, (with_standing state s (serving r), (refl, h, refl)))
    by (None, h) = short h (greatest-there state r)

pub step-there : StepIsThere
step-there state (Fail s) = by (standing_of state s).up
  where
    loss : (o : Option ℕ) → (outcome : Outcome) × ((after : State) × IsLoss state s o outcome after)
    loss None = (Idle, (with_standing state s down, (refl, refl)))
    loss (Some r) = filled-there (with_standing state s down) r (value_of state r s)

    by : (up : Bool) → (outcome : Outcome) × ((after : State) × IsFail state s up outcome after)
    by false = (Stale, (state, (refl, refl)))
    by true = loss (standing_of state s).serves
step-there state (Repair s) = by (standing_of state s).up
  where
    by : (up : Bool) → (outcome : Outcome) × ((after : State) × IsRepair state s up outcome after)
    by true = (Stale, (state, (refl, refl)))
    by false = (Returned, (with_standing state s free, (refl, refl)))

pub run-there : RunIsThere
run-there state [] = ([], (state, refl))
run-there state (change ∷ changes) =
    let step = step-there state change in
    let rest = run-there step.1.0 changes in
    (step.0 ∷ rest.0, (rest.1.0, (step.1.0, (step.1.1, rest.1.1))))

-- ---- only one

least-one : (state : State) (r least s t : ℕ) → IsLeast state r least s → IsLeast state r least t → s ≡ t
least-one state r least s t h k = by (h.first t k.enough) (k.first s h.enough)
  where
    by : LessOrFirst state r s t → LessOrFirst state r t s → s ≡ t
    by (inl lt) (inl gt) = absurd (omega (arith, lt, gt))
    by (inl lt) (inr (eq, le)) = absurd (omega (arith, lt, eq))
    by (inr (eq, le)) (inl gt) = absurd (omega (arith, gt, eq))
    by (inr (eq, le)) (inr (same, ge)) = omega (arith, le, ge)

greatest-one : (state : State) (r s t : ℕ) → IsGreatest state r s → IsGreatest state r t → s ≡ t
greatest-one state r s t h k = by (h.first t k.some) (k.first s h.some)
  where
    by : MoreOrFirst state r s t → MoreOrFirst state r t s → s ≡ t
    by (inl lt) (inl gt) = absurd (omega (arith, lt, gt))
    by (inl lt) (inr (eq, le)) = absurd (omega (arith, lt, eq))
    by (inr (eq, le)) (inl gt) = absurd (omega (arith, gt, eq))
    by (inr (eq, le)) (inr (same, ge)) = omega (arith, le, ge)

-- what a step that fills a place says, by its outcome alone
abbrev Told : State → ℕ → ℕ → Option ℕ → Option ℕ → Outcome × State
Told state r value (Some by) rest = (Replaced r by, with_standing state by (serving r))
Told state r value None (Some by) = (Short r (Some by) (value - value_of state r by), with_standing state by (serving r))
Told state r value None None = (Short r None value, state)

pub record IsTold (state : State) (r value : ℕ) (told : Outcome × State) : Type 0 where
  pub least : Option ℕ
  pub finds : FindsLeast state r value least
  pub rest : Option ℕ
  pub greatest : least ≡ None → FindsGreatest state r rest
  pub is : told ≡ Told state r value least rest

some-none : {X : Type 0} (x : X) → ◌≡◌ {A = Option X} (Some x) None → ⊥
some-none x h = cc

told-of : (state after : State) (r value : ℕ) (outcome : Outcome) → IsFilled state r value outcome after → IsTold state r value (outcome, after)
told-of state after r value (Replaced q by) h =
    record {
      least = Some by;
      finds = h.1;
      rest = None;
      greatest = λ e. absurd (some-none by e);
      is = let one = h.0 in let two = h.2 in cc;
    }
told-of state after r value (Short q (Some by) missing) h =
    record {
      least = None;
      finds = h.1;
      rest = Some by;
      greatest = λ e. h.2;
      is = let one = h.0 in let two = h.3 in let three = h.4 in cc;
    }
told-of state after r value (Short q None missing) h =
    record {
      least = None;
      finds = h.1;
      rest = None;
      greatest = λ e. h.2;
      is = let one = h.0 in let two = h.3 in let three = h.4 in cc;
    }
told-of state after r value Idle h = absurd h
told-of state after r value Returned h = absurd h
told-of state after r value Stale h = absurd h

finds-least-one : (state : State) (r least : ℕ) (o p : Option ℕ) → FindsLeast state r least o → FindsLeast state r least p → o ≡ p
finds-least-one state r least None None h k = refl
finds-least-one state r least None (Some t) h k = absurd (h t k.enough)
finds-least-one state r least (Some s) None h k = absurd (k s h.enough)
finds-least-one state r least (Some s) (Some t) h k = ap (λ (u : ℕ). let o : Option ℕ = Some u in o) (least-one state r least s t h k)

finds-greatest-one : (state : State) (r : ℕ) (o p : Option ℕ) → FindsGreatest state r o → FindsGreatest state r p → o ≡ p
finds-greatest-one state r None None h k = refl
finds-greatest-one state r None (Some t) h k = absurd (h t k.some)
finds-greatest-one state r (Some s) None h k = absurd (k s h.some)
finds-greatest-one state r (Some s) (Some t) h k = ap (λ (u : ℕ). let o : Option ℕ = Some u in o) (greatest-one state r s t h k)

told-same : (state : State) (r value : ℕ) (least rest other : Option ℕ) → (least ≡ None → FindsGreatest state r rest) → (least ≡ None → FindsGreatest state r other)
    → Told state r value least rest ≡ Told state r value least other
told-same state r value (Some s) rest other h k = refl
told-same state r value None rest other h k = ap (λ (o : Option ℕ). Told state r value None o) (finds-greatest-one state r rest other (h refl) (k refl))

pair-same : {X Y : Type 0} (x z : X) (y w : Y) → ◌≡◌ {A = X × Y} (x, y) (z, w) → (x ≡ z) × (y ≡ w)
pair-same x z y w h = (ap (λ p. p.0) h, ap (λ p. p.1) h)

filled-one : (state after other : State) (r value : ℕ) (outcome other_outcome : Outcome) → IsFilled state r value outcome after → IsFilled state r value other_outcome other
    → (outcome ≡ other_outcome) × (after ≡ other)
filled-one state after other r value outcome other_outcome h k =
    let a : IsTold state r value (outcome, after) = told-of state after r value outcome h in
    let b : IsTold state r value (other_outcome, other) = told-of state other r value other_outcome k in
    let same : a.least ≡ b.least = finds-least-one state r value a.least b.least a.finds b.finds in
    let first : Told state r value a.least a.rest ≡ Told state r value a.least b.rest = told-same state r value a.least a.rest b.rest a.greatest (λ e. b.greatest (sym same ∙ e)) in
    pair-same outcome other_outcome after other (a.is ∙ first ∙ ap (λ (o : Option ℕ). Told state r value o b.rest) same ∙ sym b.is)

both-one : {X Y : Type 0} {x z u : X} {y w v : Y} → (x ≡ u) × (y ≡ v) → (z ≡ u) × (w ≡ v) → (x ≡ z) × (y ≡ w)
both-one h k = (h.0 ∙ sym k.0, h.1 ∙ sym k.1)

pub step-unique : StepIsUnique
step-unique state after other (Fail s) outcome other_outcome h k = by (standing_of state s).up h k
  where
    loss : (o : Option ℕ) → IsLoss state s o outcome after → IsLoss state s o other_outcome other → (outcome ≡ other_outcome) × (after ≡ other)
    loss None a b = both-one a b
    loss (Some r) a b = filled-one (with_standing state s down) after other r (value_of state r s) outcome other_outcome a b

    by : (up : Bool) → IsFail state s up outcome after → IsFail state s up other_outcome other → (outcome ≡ other_outcome) × (after ≡ other)
    by false a b = both-one a b
    by true a b = loss (standing_of state s).serves a b
step-unique state after other (Repair s) outcome other_outcome h k = by (standing_of state s).up h k
  where
    by : (up : Bool) → IsRepair state s up outcome after → IsRepair state s up other_outcome other → (outcome ≡ other_outcome) × (after ≡ other)
    by true a b = both-one a b
    by false a b = both-one a b
