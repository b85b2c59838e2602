-- The best spare, from the first spare of each type.
use Rattle.std.proofs.Common.{◌≡◌, ℕ, ◌+◌, ◌<◌, ◌≤◌, ◌⊎◌, inl, inr, Bool, true, false, cond, length, arith, ap, sym, ◌∙◌, refl, Some, None}
use Rattle.std.specs.Prelude.{Option, IfSome, ◌==◌, ◌||◌, ◌&&◌, nat_lt}
use Rattle.std.proofs.lemmas.Bool.Decides.{nat_tests}
use Rattle.plan_model.specs.Units.{place_of, value_for}
use Rattle.spare_pool.specs.States.{State, value_of, state_rule}
use Rattle.spare_pool.specs.Choices.{precedes, less_of, more_of, lesser, larger}
use Rattle.spare_pool.specs.Spares.{LessOrFirst, MoreOrFirst, IsEnough, IsLeastAmong, IsGreatestAmong, FindsLeast, FindsGreatest}
use Rattle.spare_pool.specs.Firsts.{IsSpareOf, IsFirst}
use Rattle.spare_pool.proofs.Rules.{spare-within, rule-long, place-kind}

eq-of : (a b : ℕ) → (a == b) ≡ true → a ≡ b
eq-of a b h = grind (arith, nat_tests, h)

-- a type below the next number is below this one, or this one
below-next : (k type : ℕ) → k < type + 1 → (k < type) ⊎ (k ≡ type)
below-next k type h = at (k == type) refl
  where
    at : (b : Bool) → (k == type) ≡ b → (k < type) ⊎ (k ≡ type)
    at true e = inr (eq-of k type e)
    at false e = inl (grind (arith, nat_tests, e, h))

-- a spare of a type gives the value for the type
pub worth : (state : State) (r t type : ℕ) → (place_of state.case t).kind ≡ type → value_of state r t ≡ value_for state.case r type
worth state r t type is = ap (value_for state.case r) is

of-type : (state : State) (r least t type : ℕ) → (place_of state.case t).kind ≡ type → IsEnough state r least t → IsSpareOf state type t
of-type state r least t type is h = record { spare = h.spare; kind = is }

-- no spare of the type is enough
least-same : (state : State) (r least type : ℕ) (best : Option ℕ) → ((t : ℕ) → (place_of state.case t).kind ≡ type → IsEnough state r least t → ⊥)
    → IsLeastAmong state r least type best → IsLeastAmong state r least (type + 1) best
least-same state r least type None none h = λ t low k. at t (below-next (place_of state.case t).kind type low) k
  where
    at : (t : ℕ) → ((place_of state.case t).kind < type) ⊎ ((place_of state.case t).kind ≡ type) → IsEnough state r least t → ⊥
    at t (inl low) k = h t low k
    at t (inr is) k = none t is k
least-same state r least type (Some s) none h = (h.0, λ t low k. at t (below-next (place_of state.case t).kind type low) k)
  where
    at : (t : ℕ) → ((place_of state.case t).kind < type) ⊎ ((place_of state.case t).kind ≡ type) → IsEnough state r least t
        → LessOrFirst state r s t
    at t (inl low) k = h.1 t low k
    at t (inr is) k = absurd (none t is k)

pub least-none : (state : State) (r least type : ℕ) (best : Option ℕ) → IsFirst state type None → IsLeastAmong state r least type best → IsLeastAmong state r least (type + 1) best
least-none state r least type best none h = least-same state r least type best (λ t is k. none t (of-type state r least t type is k)) h

pub least-few : (state : State) (r least type units : ℕ) (best : Option ℕ) → units ≡ value_for state.case r type → units < least
    → IsLeastAmong state r least type best → IsLeastAmong state r least (type + 1) best
least-few state r least type units best is few h =
    least-same state r least type best (λ t kind k. let one : value_of state r t ≡ value_for state.case r type = worth state r t type kind in omega (arith, one, is, few, k.value)) h

pub least-first : (state : State) (r least type units first : ℕ) → units ≡ value_for state.case r type → least ≤ units → IsFirst state type (Some first)
    → IsLeastAmong state r least type None → IsLeastAmong state r least (type + 1) (Some first)
least-first state r least type units first is enough f h =
    let mine : value_of state r first ≡ value_for state.case r type = worth state r first type f.0.kind in
    (record { spare = f.0.spare; value = omega (arith, mine, is, enough) }, λ t low k. at t (below-next (place_of state.case t).kind type low) k)
  where
    at : (t : ℕ) → ((place_of state.case t).kind < type) ⊎ ((place_of state.case t).kind ≡ type) → IsEnough state r least t
        → LessOrFirst state r first t
    at t (inl low) k = absurd (h t low k)
    at t (inr kind) k = inr (worth state r first type f.0.kind ∙ sym (worth state r t type kind), f.1 t (of-type state r least t type kind k))

-- the first spare of the type is better than the best so far
pub least-taken : (state : State) (r least type units first s : ℕ) → units ≡ value_for state.case r type → least ≤ units → IsFirst state type (Some first)
    → (units < value_of state r s) ⊎ ((units ≡ value_of state r s) × (first < s))
    → IsLeastAmong state r least type (Some s) → IsLeastAmong state r least (type + 1) (Some first)
least-taken state r least type units first s is enough f better h =
    let mine : value_of state r first ≡ value_for state.case r type = worth state r first type f.0.kind in
    (record { spare = f.0.spare; value = omega (arith, mine, is, enough) }, λ t low k. at t (below-next (place_of state.case t).kind type low) k)
  where
    chain : (t : ℕ) → (units < value_of state r s) ⊎ ((units ≡ value_of state r s) × (first < s))
        → LessOrFirst state r s t → LessOrFirst state r first t
    chain t (inl lt) (inl more) = let mine : value_of state r first ≡ value_for state.case r type = worth state r first type f.0.kind in inl (omega (arith, mine, is, lt, more))
    chain t (inl lt) (inr (same, le)) = let mine : value_of state r first ≡ value_for state.case r type = worth state r first type f.0.kind in inl (omega (arith, mine, is, lt, same))
    chain t (inr (eq, lt)) (inl more) = let mine : value_of state r first ≡ value_for state.case r type = worth state r first type f.0.kind in inl (omega (arith, mine, is, eq, more))
    chain t (inr (eq, lt)) (inr (same, le)) =
        let mine : value_of state r first ≡ value_for state.case r type = worth state r first type f.0.kind in
        inr (omega (arith, mine, is, eq, same), omega (arith, lt, le))

    at : (t : ℕ) → ((place_of state.case t).kind < type) ⊎ ((place_of state.case t).kind ≡ type) → IsEnough state r least t → LessOrFirst state r first t
    at t (inl low) k = chain t better (h.1 t low k)
    at t (inr kind) k = inr (worth state r first type f.0.kind ∙ sym (worth state r t type kind), f.1 t (of-type state r least t type kind k))

-- the best so far is better than the first spare of the type
pub least-kept : (state : State) (r least type units first s : ℕ) → units ≡ value_for state.case r type → IsFirst state type (Some first)
    → (value_of state r s < units) ⊎ ((value_of state r s ≡ units) × (s ≤ first))
    → IsLeastAmong state r least type (Some s) → IsLeastAmong state r least (type + 1) (Some s)
least-kept state r least type units first s is f better h = (h.0, λ t low k. at t (below-next (place_of state.case t).kind type low) k)
  where
    chain : (t : ℕ) → value_of state r t ≡ value_for state.case r type → first ≤ t → (value_of state r s < units) ⊎ ((value_of state r s ≡ units) × (s ≤ first)) → LessOrFirst state r s t
    chain t mine le (inl lt) = inl (omega (arith, mine, is, lt))
    chain t mine le (inr (eq, low)) = inr (omega (arith, mine, is, eq), omega (arith, low, le))

    at : (t : ℕ) → ((place_of state.case t).kind < type) ⊎ ((place_of state.case t).kind ≡ type) → IsEnough state r least t → LessOrFirst state r s t
    at t (inl low) k = h.1 t low k
    at t (inr kind) k = chain t (worth state r t type kind) (f.1 t (of-type state r least t type kind k)) better

-- all types were looked at
pub least-all : (state : State) (r least kinds : ℕ) (best : Option ℕ) → ((t : ℕ) → IsEnough state r least t → (place_of state.case t).kind < kinds)
    → IsLeastAmong state r least kinds best → FindsLeast state r least best
least-all state r least kinds None few h = λ t k. h t (few t k) k
least-all state r least kinds (Some s) few h = record { enough = h.0; first = λ t k. h.1 t (few t k) k }

-- ---- the same for the greatest value

greatest-same : (state : State) (r type : ℕ) (best : Option ℕ) → ((t : ℕ) → (place_of state.case t).kind ≡ type → IsEnough state r 1 t → ⊥)
    → IsGreatestAmong state r type best → IsGreatestAmong state r (type + 1) best
greatest-same state r type None none h = λ t low k. at t (below-next (place_of state.case t).kind type low) k
  where
    at : (t : ℕ) → ((place_of state.case t).kind < type) ⊎ ((place_of state.case t).kind ≡ type) → IsEnough state r 1 t → ⊥
    at t (inl low) k = h t low k
    at t (inr is) k = none t is k
greatest-same state r type (Some s) none h = (h.0, λ t low k. at t (below-next (place_of state.case t).kind type low) k)
  where
    at : (t : ℕ) → ((place_of state.case t).kind < type) ⊎ ((place_of state.case t).kind ≡ type) → IsEnough state r 1 t
        → MoreOrFirst state r s t
    at t (inl low) k = h.1 t low k
    at t (inr is) k = absurd (none t is k)

pub greatest-none : (state : State) (r type : ℕ) (best : Option ℕ) → IsFirst state type None → IsGreatestAmong state r type best → IsGreatestAmong state r (type + 1) best
greatest-none state r type best none h = greatest-same state r type best (λ t is k. none t (of-type state r 1 t type is k)) h

pub greatest-few : (state : State) (r type units : ℕ) (best : Option ℕ) → units ≡ value_for state.case r type → units < 1
    → IsGreatestAmong state r type best → IsGreatestAmong state r (type + 1) best
greatest-few state r type units best is few h =
    greatest-same state r type best (λ t kind k. let one : value_of state r t ≡ value_for state.case r type = worth state r t type kind in omega (arith, one, is, few, k.value)) h

pub greatest-first : (state : State) (r type units first : ℕ) → units ≡ value_for state.case r type → 1 ≤ units → IsFirst state type (Some first)
    → IsGreatestAmong state r type None → IsGreatestAmong state r (type + 1) (Some first)
greatest-first state r type units first is enough f h =
    let mine : value_of state r first ≡ value_for state.case r type = worth state r first type f.0.kind in
    (record { spare = f.0.spare; value = omega (arith, mine, is, enough) }, λ t low k. at t (below-next (place_of state.case t).kind type low) k)
  where
    at : (t : ℕ) → ((place_of state.case t).kind < type) ⊎ ((place_of state.case t).kind ≡ type) → IsEnough state r 1 t
        → MoreOrFirst state r first t
    at t (inl low) k = absurd (h t low k)
    at t (inr kind) k = inr (worth state r first type f.0.kind ∙ sym (worth state r t type kind), f.1 t (of-type state r 1 t type kind k))

pub greatest-taken : (state : State) (r type units first s : ℕ) → units ≡ value_for state.case r type → 1 ≤ units → IsFirst state type (Some first)
    → (value_of state r s < units) ⊎ ((units ≡ value_of state r s) × (first < s))
    → IsGreatestAmong state r type (Some s) → IsGreatestAmong state r (type + 1) (Some first)
greatest-taken state r type units first s is enough f better h =
    let mine : value_of state r first ≡ value_for state.case r type = worth state r first type f.0.kind in
    (record { spare = f.0.spare; value = omega (arith, mine, is, enough) }, λ t low k. at t (below-next (place_of state.case t).kind type low) k)
  where
    chain : (t : ℕ) → value_of state r first ≡ value_for state.case r type → (value_of state r s < units) ⊎ ((units ≡ value_of state r s) × (first < s))
        → MoreOrFirst state r s t → MoreOrFirst state r first t
    chain t mine (inl lt) (inl more) = inl (omega (arith, mine, is, lt, more))
    chain t mine (inl lt) (inr (same, le)) = inl (omega (arith, mine, is, lt, same))
    chain t mine (inr (eq, lt)) (inl more) = inl (omega (arith, mine, is, eq, more))
    chain t mine (inr (eq, lt)) (inr (same, le)) = inr (omega (arith, mine, is, eq, same), omega (arith, lt, le))

    at : (t : ℕ) → ((place_of state.case t).kind < type) ⊎ ((place_of state.case t).kind ≡ type) → IsEnough state r 1 t → MoreOrFirst state r first t
    at t (inl low) k = chain t (worth state r first type f.0.kind) better (h.1 t low k)
    at t (inr kind) k = inr (worth state r first type f.0.kind ∙ sym (worth state r t type kind), f.1 t (of-type state r 1 t type kind k))

pub greatest-kept : (state : State) (r type units first s : ℕ) → units ≡ value_for state.case r type → IsFirst state type (Some first)
    → (units < value_of state r s) ⊎ ((value_of state r s ≡ units) × (s ≤ first))
    → IsGreatestAmong state r type (Some s) → IsGreatestAmong state r (type + 1) (Some s)
greatest-kept state r type units first s is f better h = (h.0, λ t low k. at t (below-next (place_of state.case t).kind type low) k)
  where
    chain : (t : ℕ) → value_of state r t ≡ value_for state.case r type → first ≤ t → (units < value_of state r s) ⊎ ((value_of state r s ≡ units) × (s ≤ first)) → MoreOrFirst state r s t
    chain t mine le (inl lt) = inl (omega (arith, mine, is, lt))
    chain t mine le (inr (eq, low)) = inr (omega (arith, mine, is, eq), omega (arith, low, le))

    at : (t : ℕ) → ((place_of state.case t).kind < type) ⊎ ((place_of state.case t).kind ≡ type) → IsEnough state r 1 t → MoreOrFirst state r s t
    at t (inl low) k = h.1 t low k
    at t (inr kind) k = chain t (worth state r t type kind) (f.1 t (of-type state r 1 t type kind k)) better

pub greatest-all : (state : State) (r kinds : ℕ) (best : Option ℕ) → ((t : ℕ) → IsEnough state r 1 t → (place_of state.case t).kind < kinds)
    → IsGreatestAmong state r kinds best → FindsGreatest state r best
greatest-all state r kinds None few h = λ t k. h t (few t k) k
greatest-all state r kinds (Some s) few h = record { some = h.0; first = λ t k. h.1 t (few t k) k }

-- ---- what a comparison says

pub precedes-is : (v s u t : ℕ) → precedes v s u t ≡ true → (v < u) ⊎ ((v ≡ u) × (s < t))
precedes-is v s u t h = at (nat_lt v u) refl (v == u) refl h
  where
    at : (b : Bool) → nat_lt v u ≡ b → (c : Bool) → (v == u) ≡ c → (b || (c && nat_lt s t)) ≡ true → (v < u) ⊎ ((v ≡ u) × (s < t))
    at true e c f k = inl (grind (arith, nat_tests, e))
    at false e true f k = inr (eq-of v u f, grind (arith, nat_tests, k))
    at false e false f k = absurd cc

pub precedes-not : (v s u t : ℕ) → precedes v s u t ≡ false → (u < v) ⊎ ((u ≡ v) × (t ≤ s))
precedes-not v s u t h = at (nat_lt v u) refl (v == u) refl h
  where
    at : (b : Bool) → nat_lt v u ≡ b → (c : Bool) → (v == u) ≡ c → (b || (c && nat_lt s t)) ≡ false → (u < v) ⊎ ((u ≡ v) × (t ≤ s))
    at true e c f k = absurd cc
    at false e true f k = inr (sym (eq-of v u f), grind (arith, nat_tests, k))
    at false e false f k = inl (grind (arith, nat_tests, e, f))

-- ---- a type more

pub lesser-next : (state : State) (r least type : ℕ) (best first : Option ℕ) → IsFirst state type first → IsLeastAmong state r least type best
    → IsLeastAmong state r least (type + 1) (lesser state.case r least type best first)
lesser-next state r least type best None f h = least-none state r least type best f h
lesser-next state r least type best (Some first) f h = few (nat_lt (value_for state.case r type) least) refl
  where
    two : (o : Option ℕ) → IsLeastAmong state r least type o → least ≤ value_for state.case r type → IsLeastAmong state r least (type + 1) (less_of state.case r (value_for state.case r type) first o)
    two None k enough = least-first state r least type (value_for state.case r type) first refl enough f k
    two (Some s) k enough = by (precedes (value_for state.case r type) first (value_of state r s) s) refl
      where
        by : (b : Bool) → precedes (value_for state.case r type) first (value_of state r s) s ≡ b → IsLeastAmong state r least (type + 1) (cond b (Some first) (Some s))
        by true e = least-taken state r least type (value_for state.case r type) first s refl enough f (precedes-is (value_for state.case r type) first (value_of state r s) s e) k
        by false e = least-kept state r least type (value_for state.case r type) first s refl f (precedes-not (value_for state.case r type) first (value_of state r s) s e) k

    few : (b : Bool) → nat_lt (value_for state.case r type) least ≡ b → IsLeastAmong state r least (type + 1) (cond b best (less_of state.case r (value_for state.case r type) first best))
    few true e = least-few state r least type (value_for state.case r type) best refl (grind (arith, nat_tests, e)) h
    few false e = two best h (grind (arith, nat_tests, e))

pub larger-next : (state : State) (r type : ℕ) (best first : Option ℕ) → IsFirst state type first → IsGreatestAmong state r type best
    → IsGreatestAmong state r (type + 1) (larger state.case r type best first)
larger-next state r type best None f h = greatest-none state r type best f h
larger-next state r type best (Some first) f h = few (nat_lt (value_for state.case r type) 1) refl
  where
    swapped : (s : ℕ) → (value_of state r s < value_for state.case r type) ⊎ ((value_of state r s ≡ value_for state.case r type) × (first < s))
        → (value_of state r s < value_for state.case r type) ⊎ ((value_for state.case r type ≡ value_of state r s) × (first < s))
    swapped s (inl lt) = inl lt
    swapped s (inr (eq, lt)) = inr (sym eq, lt)

    back : (s : ℕ) → (value_for state.case r type < value_of state r s) ⊎ ((value_for state.case r type ≡ value_of state r s) × (s ≤ first))
        → (value_for state.case r type < value_of state r s) ⊎ ((value_of state r s ≡ value_for state.case r type) × (s ≤ first))
    back s (inl lt) = inl lt
    back s (inr (eq, le)) = inr (sym eq, le)

    two : (o : Option ℕ) → IsGreatestAmong state r type o → 1 ≤ value_for state.case r type → IsGreatestAmong state r (type + 1) (more_of state.case r (value_for state.case r type) first o)
    two None k enough = greatest-first state r type (value_for state.case r type) first refl enough f k
    two (Some s) k enough = by (precedes (value_of state r s) first (value_for state.case r type) s) refl
      where
        by : (b : Bool) → precedes (value_of state r s) first (value_for state.case r type) s ≡ b → IsGreatestAmong state r (type + 1) (cond b (Some first) (Some s))
        by true e =
            greatest-taken state r type (value_for state.case r type) first s refl enough f (swapped s (precedes-is (value_of state r s) first (value_for state.case r type) s e)) k
        by false e = greatest-kept state r type (value_for state.case r type) first s refl f (back s (precedes-not (value_of state r s) first (value_for state.case r type) s e)) k

    few : (b : Bool) → nat_lt (value_for state.case r type) 1 ≡ b → IsGreatestAmong state r (type + 1) (cond b best (more_of state.case r (value_for state.case r type) first best))
    few true e = greatest-few state r type (value_for state.case r type) best refl (grind (arith, nat_tests, e)) h
    few false e = two best h (grind (arith, nat_tests, e))

-- the best so far is a server
pub least-within : (state : State) (r least type n : ℕ) (best : Option ℕ) → length state.servers ≡ n → IsLeastAmong state r least type best → IfSome best (λ s. s < n)
least-within state r least type n None is h = tt
least-within state r least type n (Some s) is h = let low : s < length state.servers = spare-within state s h.0.spare in omega (arith, is, low)

pub greatest-within : (state : State) (r type n : ℕ) (best : Option ℕ) → length state.servers ≡ n → IsGreatestAmong state r type best → IfSome best (λ s. s < n)
greatest-within state r type n None is h = tt
greatest-within state r type n (Some s) is h = let low : s < length state.servers = spare-within state s h.0.spare in omega (arith, is, low)

-- ---- before the first type, and after the last

pub least-start : (state : State) (r least : ℕ) → IsLeastAmong state r least 0 None
least-start state r least = λ t low k. absurd (omega (arith, low))

pub greatest-start : (state : State) (r : ℕ) → IsGreatestAmong state r 0 None
greatest-start state r = λ t low k. absurd (omega (arith, low))

spare-kind : (state : State) (r least t kinds : ℕ) → state_rule state ≡ true → state.case.kinds ≤ kinds → IsEnough state r least t → (place_of state.case t).kind < kinds
spare-kind state r least t kinds rule all k =
    let within : t < length state.servers = spare-within state t k.spare in
    let there : t < length state.case.places = omega (arith, within, rule-long state rule) in
    omega (arith, place-kind state.case t there, all)

pub least-end : (state : State) (r least kinds : ℕ) (best : Option ℕ) → state_rule state ≡ true → state.case.kinds ≤ kinds
    → IsLeastAmong state r least kinds best → FindsLeast state r least best
least-end state r least kinds best rule all h = least-all state r least kinds best (λ t k. spare-kind state r least t kinds rule all k) h

pub greatest-end : (state : State) (r kinds : ℕ) (best : Option ℕ) → state_rule state ≡ true → state.case.kinds ≤ kinds
    → IsGreatestAmong state r kinds best → FindsGreatest state r best
greatest-end state r kinds best rule all h = greatest-all state r kinds best (λ t k. spare-kind state r 1 t kinds rule all k) h
