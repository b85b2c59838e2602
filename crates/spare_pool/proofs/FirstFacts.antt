-- The first spare of each type when one server stands otherwise.
use Rattle.std.proofs.Common.{◌≡◌, ◌≢◌, ℕ, ◌+◌, ◌<◌, ◌≤◌, Bool, true, false, List, length, get_or, set, arith, ap, sym, ◌∙◌, refl, subst, Some, None}
use Rattle.std.specs.Prelude.{Option, ◌==◌, nat_lt}
use Rattle.std.proofs.lemmas.Bool.Decides.{nat_tests}
use Rattle.std.proofs.lemmas.List.{length-set, get_or-set_same, get_or-set_other}
use Rattle.plan_model.specs.declared.cases.Case.{Case}
use Rattle.plan_model.specs.Units.{place_of}
use Rattle.spare_pool.specs.declared.standings.Standing.{Standing}
use Rattle.spare_pool.specs.States.{State, standing_of, no_standing, is_spare}
use Rattle.plan_model.proofs.CaseFacts.{and-left, and-right}
use Rattle.spare_pool.specs.Firsts.{is_spare_of, IsSpareOf, IsFirst, IsFirstFrom, AreFirsts}
use Rattle.spare_pool.proofs.Rules.{both, false-true}

abbrev pub state_with : Case → List Standing → State
state_with case servers = record { case = case; servers = servers }

ne-of : (a b : ℕ) → (a == b) ≡ false → b ≢ a
ne-of a b h e = grind (arith, nat_tests, h)

eq-of : (a b : ℕ) → (a == b) ≡ true → a ≡ b
eq-of a b h = grind (arith, nat_tests, h)

-- a server that is not the one that changed stands as it did
pub other-same : (case : Case) (old now : List Standing) (s t : ℕ) (new : Standing) → now ≡ set old s new → (s == t) ≡ false
    → standing_of (state_with case now) t ≡ standing_of (state_with case old) t
other-same case old now s t new is other = ap (λ (xs : List Standing). get_or xs t no_standing) is ∙ get_or-set_other old s t new no_standing (ne-of s t other)

-- a spare among the servers as they stand now was one before, or is the server that changed
spare-before : (case : Case) (old now : List Standing) (s t type : ℕ) (new : Standing) → now ≡ set old s new → (s == t) ≡ false
    → IsSpareOf (state_with case now) type t → IsSpareOf (state_with case old) type t
spare-before case old now s t type new is other h =
    record { spare = sym (ap is_spare (other-same case old now s t new is other)) ∙ h.spare; kind = h.kind }

spare-after : (case : Case) (old now : List Standing) (s t type : ℕ) (new : Standing) → now ≡ set old s new → (s == t) ≡ false
    → IsSpareOf (state_with case old) type t → IsSpareOf (state_with case now) type t
spare-after case old now s t type new is other h =
    record { spare = ap is_spare (other-same case old now s t new is other) ∙ h.spare; kind = h.kind }

-- the server that changed is a spare, and stands behind the first
pub first-stays : (case : Case) (old now : List Standing) (s first : ℕ) (new : Standing) → now ≡ set old s new
    → is_spare (standing_of (state_with case now) s) ≡ true → first ≤ s
    → IsFirst (state_with case old) (place_of case s).kind (Some first) → IsFirst (state_with case now) (place_of case s).kind (Some first)
first-stays case old now s first new is spare le h =
    let type : ℕ = (place_of case s).kind in
    let here : (b : Bool) → (s == first) ≡ b → IsSpareOf (state_with case now) type first =
    λ b. elim b as (λ v. (s == first) ≡ v → IsSpareOf (state_with case now) type first) [
      | true ↦ λ e. subst (λ (t : ℕ). IsSpareOf (state_with case now) type t) (eq-of s first e) (record { spare = spare; kind = refl })
      | false ↦ λ e. spare-after case old now s first type new is e h.0
    ] in
    let least : (t : ℕ) (b : Bool) → (s == t) ≡ b → IsSpareOf (state_with case now) type t → first ≤ t =
    λ t b. elim b as (λ v. (s == t) ≡ v → IsSpareOf (state_with case now) type t → first ≤ t) [
      | true ↦ λ e k. let same : s ≡ t = eq-of s t e in omega (arith, le, same)
      | false ↦ λ e k. h.1 t (spare-before case old now s t type new is e k)
    ] in
    (here (s == first) refl, λ t k. least t (s == t) refl k)

-- the server that changed is a spare, and none stands before it
pub first-comes : (case : Case) (old now : List Standing) (s : ℕ) (first : Option ℕ) (new : Standing) → now ≡ set old s new
    → is_spare (standing_of (state_with case now) s) ≡ true
    → ((t : ℕ) → IsSpareOf (state_with case old) (place_of case s).kind t → s ≤ t)
    → IsFirst (state_with case now) (place_of case s).kind (Some s)
first-comes case old now s first new is spare before =
    let type : ℕ = (place_of case s).kind in
    let least : (t : ℕ) (b : Bool) → (s == t) ≡ b → IsSpareOf (state_with case now) type t → s ≤ t =
    λ t b. elim b as (λ v. (s == t) ≡ v → IsSpareOf (state_with case now) type t → s ≤ t) [
      | true ↦ λ e k. let same : s ≡ t = eq-of s t e in omega (arith, same)
      | false ↦ λ e k. before t (spare-before case old now s t type new is e k)
    ] in
    (record { spare = spare; kind = refl }, λ t k. least t (s == t) refl k)

not-here : (case : Case) (now : List Standing) (s t type : ℕ) → is_spare (standing_of (state_with case now) s) ≡ false → (s == t) ≡ true → IsSpareOf (state_with case now) type t → ⊥
not-here case now s t type spare e k =
    false-true (sym (sym (ap (λ (u : ℕ). is_spare (standing_of (state_with case now) u)) (eq-of s t e)) ∙ spare) ∙ k.spare)

-- the server that changed is no spare, and was not the first
pub first-kept : (case : Case) (old now : List Standing) (s : ℕ) (first : Option ℕ) (new : Standing) → now ≡ set old s new
    → is_spare (standing_of (state_with case now) s) ≡ false → ((f : ℕ) → first ≡ Some f → (f == s) ≡ false)
    → IsFirst (state_with case old) (place_of case s).kind first → IsFirst (state_with case now) (place_of case s).kind first
first-kept case old now s None new is spare other h =
    λ t k. at t (s == t) refl k
  where
    at : (t : ℕ) (b : Bool) → (s == t) ≡ b → IsSpareOf (state_with case now) (place_of case s).kind t → ⊥
    at t true e k = not-here case now s t (place_of case s).kind spare e k
    at t false e k = h t (spare-before case old now s t (place_of case s).kind new is e k)
first-kept case old now s (Some first) new is spare other h =
    let differs : (s == first) ≡ false = let o : (first == s) ≡ false = other first refl in grind (arith, nat_tests, o) in
    (spare-after case old now s first (place_of case s).kind new is differs h.0, λ t k. at t (s == t) refl k)
  where
    at : (t : ℕ) (b : Bool) → (s == t) ≡ b → IsSpareOf (state_with case now) (place_of case s).kind t → first ≤ t
    at t true e k = absurd (not-here case now s t (place_of case s).kind spare e k)
    at t false e k = h.1 t (spare-before case old now s t (place_of case s).kind new is e k)

-- the server that changed is no spare, and was the first: the next one is
pub first-next : (case : Case) (old now : List Standing) (s : ℕ) (next : Option ℕ) (new : Standing) → now ≡ set old s new
    → is_spare (standing_of (state_with case now) s) ≡ false
    → IsFirst (state_with case old) (place_of case s).kind (Some s) → IsFirstFrom (state_with case now) (place_of case s).kind s next
    → IsFirst (state_with case now) (place_of case s).kind next
first-next case old now s next new is spare was h = by next h
  where
    behind : (t : ℕ) (b : Bool) → (s == t) ≡ b → IsSpareOf (state_with case now) (place_of case s).kind t → s ≤ t
    behind t true e k = absurd (not-here case now s t (place_of case s).kind spare e k)
    behind t false e k = was.1 t (spare-before case old now s t (place_of case s).kind new is e k)

    by : (o : Option ℕ) → IsFirstFrom (state_with case now) (place_of case s).kind s o → IsFirst (state_with case now) (place_of case s).kind o
    by None k = λ t m. k t (behind t (s == t) refl m) m
    by (Some f) k = (k.0, λ t m. k.1 t (behind t (s == t) refl m) m)

-- other types keep their first spare
other-type : (case : Case) (old now : List Standing) (s type : ℕ) (first : Option ℕ) (new : Standing) → now ≡ set old s new → ((place_of case s).kind == type) ≡ false
    → IsFirst (state_with case old) type first → IsFirst (state_with case now) type first
other-type case old now s type first new is other h = by first h
  where
    differs : (t : ℕ) (b : Bool) → (s == t) ≡ b → (place_of case t).kind ≡ type → (s == t) ≡ false
    differs t true e k =
        let same : (place_of case s).kind ≡ type = ap (λ (u : ℕ). (place_of case u).kind) (eq-of s t e) ∙ k in
        absurd (false-true (let yes : ((place_of case s).kind == type) ≡ true = grind (arith, nat_tests, same) in sym other ∙ yes))
    differs t false e k = e

    by : (o : Option ℕ) → IsFirst (state_with case old) type o → IsFirst (state_with case now) type o
    by None k = λ t m. k t (spare-before case old now s t type new is (differs t (s == t) refl m.kind) m)
    by (Some f) k =
        (spare-after case old now s f type new is (differs f (s == f) refl k.0.kind) k.0, λ t m. k.1 t (spare-before case old now s t type new is (differs t (s == t) refl m.kind) m))

-- the first spares of all types
pub firsts-with : (case : Case) (old now : List Standing) (s : ℕ) (new : Standing) (xs ys : List (Option ℕ)) (first : Option ℕ) → now ≡ set old s new
    → (place_of case s).kind < length xs → AreFirsts (state_with case old) xs → IsFirst (state_with case now) (place_of case s).kind first → ys ≡ set xs (place_of case s).kind first
    → AreFirsts (state_with case now) ys
firsts-with case old now s new xs ys first is within are here all =
    record {
      long = ap length all ∙ length-set xs (place_of case s).kind first ∙ are.long;
      each = λ type there. at type ((place_of case s).kind == type) refl there;
    }
  where
    at : (type : ℕ) (b : Bool) → ((place_of case s).kind == type) ≡ b → type < case.kinds → IsFirst (state_with case now) type (get_or ys type None)
    at type true e there =
        let read : get_or ys (place_of case s).kind None ≡ first = ap (λ (zs : List (Option ℕ)). get_or zs (place_of case s).kind None) all ∙ get_or-set_same xs (place_of case s).kind first None within in
        subst (λ (k : ℕ). IsFirst (state_with case now) k (get_or ys k None)) (eq-of (place_of case s).kind type e)
        (subst (λ (o : Option ℕ). IsFirst (state_with case now) (place_of case s).kind o) (sym read) here)
    at type false e there =
        let read : get_or ys type None ≡ get_or xs type None = ap (λ (zs : List (Option ℕ)). get_or zs type None) all ∙ get_or-set_other xs (place_of case s).kind type first None (ne-of (place_of case s).kind type e) in
        subst (λ (o : Option ℕ). IsFirst (state_with case now) type o) (sym read) (other-type case old now s type (get_or xs type None) new is e (are.each type there))

-- ---- the search for the next spare of a type

pub next-go : (case : Case) (now : List Standing) (type from i : ℕ) → ((t : ℕ) → from ≤ t → t < i → IsSpareOf (state_with case now) type t → ⊥)
    → (IsSpareOf (state_with case now) type i → ⊥) → (t : ℕ) → from ≤ t → t < i + 1 → IsSpareOf (state_with case now) type t → ⊥
next-go case now type from i before here t low high k = at (i == t) refl
  where
    at : (b : Bool) → (i == t) ≡ b → ⊥
    at true e = here (subst (λ (u : ℕ). IsSpareOf (state_with case now) type u) (sym (eq-of i t e)) k)
    at false e = before t low (let d : t ≢ i = ne-of i t e in omega (arith, high, d)) k

pub next-here : (case : Case) (now : List Standing) (type from i : ℕ) → from ≤ i → ((t : ℕ) → from ≤ t → t < i → IsSpareOf (state_with case now) type t → ⊥)
    → IsSpareOf (state_with case now) type i → IsFirstFrom (state_with case now) type from (Some i)
next-here case now type from i low before here = (here, λ t from-t k. at t from-t (nat_lt t i) refl k)
  where
    at : (t : ℕ) → from ≤ t → (b : Bool) → nat_lt t i ≡ b → IsSpareOf (state_with case now) type t → i ≤ t
    at t l true e k = absurd (before t l (grind (arith, nat_tests, e)) k)
    at t l false e k = grind (arith, nat_tests, e)

-- ---- what a test says

pub spare-is : (state : State) (type s : ℕ) → is_spare_of state type s ≡ true → IsSpareOf state type s
spare-is state type s h =
    let same : ((place_of state.case s).kind == type) ≡ true = and-right (is_spare (standing_of state s)) _ h in
    record { spare = and-left (is_spare (standing_of state s)) ((place_of state.case s).kind == type) h; kind = eq-of (place_of state.case s).kind type same }

pub spare-not : (state : State) (type s : ℕ) → is_spare_of state type s ≡ false → IsSpareOf state type s → ⊥
spare-not state type s h k =
    let same : ((place_of state.case s).kind == type) ≡ true = let e = k.kind in grind (arith, nat_tests, e) in
    false-true (sym h ∙ both (is_spare (standing_of state s)) ((place_of state.case s).kind == type) k.spare same)
