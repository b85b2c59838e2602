-- The classes that are kept and those of the loose servers, sorted by first member, are the classes after the change.
use Rattle.std.proofs.Common.{◌≡◌, ℕ, zero, suc, ◌<◌, ◌≤◌, Bool, true, false, List, [], ◌∷◌, ◌++◌, length, get_or, arith, sym, refl, subst, ◌⊎◌, inl, inr, All}
use Rattle.std.specs.Prelude.{map, ◌==◌}
use Rattle.std.specs.List.{AllByRecursion, IsDistinct, Contains}
use Rattle.std.specs.List.Sorted.{IsPermutation, IsNonDecreasingBy}
use Rattle.std.specs.Cmp.{nat_eq_equiv}
use Rattle.std.proofs.lemmas.Bool.{eqb-true}
use Rattle.std.proofs.lemmas.Bool.Decides.{nat_tests}
use Rattle.std.proofs.lemmas.List.Sorted.{IsPermutation-map, All-permutation, Contains-permutation}
use Rattle.std.proofs.lemmas.Map.Keys.{IsDistinct-IsPermutation}
use Rattle.std.proofs.lemmas.List.{map-append}
use Rattle.symmetry_classes.specs.declared.groups.Class.{Class as Group}
use Rattle.ras_rounds.specs.Mends.{Has, HasMember, Rises, first_member}

all-of : {X : Type 0} (P : X → Type 0) (xs : List X) → AllByRecursion P xs → All P xs
all-of P [] a k d within = absurd (omega (arith, within))
all-of P (x ∷ xs) a zero d within = a.0
all-of P (x ∷ xs) a (suc k) d within = all-of P xs a.1 k d (omega (arith, within))

by-recursion : {X : Type 0} (P : X → Type 0) (xs : List X) → All P xs → AllByRecursion P xs
by-recursion P [] a = tt
by-recursion P (x ∷ xs) a = (a 0 x (omega arith), by-recursion P xs (λ k d within. a (suc k) d (omega (arith, within))))

pub all-moved : {X : Type 0} (P : X → Type 0) (xs ys : List X) → IsPermutation xs ys → AllByRecursion P xs → AllByRecursion P ys
all-moved P xs ys moved a = by-recursion P ys (All-permutation P xs ys moved (all-of P xs a))

member-at : (s : ℕ) (classes : List Group) (k : ℕ) (g : Group) → k < length classes → get_or classes k g ≡ g → Has s g.members → HasMember s classes
member-at s [] k g within is m = absurd (omega (arith, within))
member-at s (class ∷ classes) zero g within is m = inl (subst (λ (c : Group). Has s c.members) (sym is) m)
member-at s (class ∷ classes) (suc k) g within is m = inr (member-at s classes k g (omega (arith, within)) is m)

at-member : (s : ℕ) (classes : List Group) → HasMember s classes → (g : Group) × (Contains classes g × Has s g.members)
at-member s [] m = absurd m
at-member s (class ∷ classes) (inl m) = (class, ((0, omega arith, refl), m))
at-member s (class ∷ classes) (inr m) =
    let r = at-member s classes m in
    (r.0, ((suc r.1.0.0, omega (arith, r.1.0.1), r.1.0.2), r.1.1))

pub member-moved : (s : ℕ) (xs ys : List Group) → IsPermutation xs ys → HasMember s xs → HasMember s ys
member-moved s xs ys moved m =
    let r = at-member s xs m in
    let there = Contains-permutation xs ys r.0 moved r.1.0 in
    member-at s ys there.0 r.0 there.1 there.2 r.1.1

apart-from : (x : ℕ) (ys : List ℕ) → (Has x ys → ⊥) → AllByRecursion (λ y. (x == y) ≡ false) ys
apart-from x [] f = tt
apart-from x (y ∷ ys) f = (by (x == y) refl, apart-from x ys (λ h. f (inr h)))
  where
    by : (b : Bool) → (x == y) ≡ b → (x == y) ≡ false
    by true e = absurd (f (inl (eqb-true x y e)))
    by false e = e

above : (x : ℕ) (ys : List ℕ) → AllByRecursion (λ y. x < y) ys → Has x ys → ⊥
above x [] a h = h
above x (y ∷ ys) a (inl e) = absurd (omega (arith, a.0, e))
above x (y ∷ ys) a (inr h) = above x ys a.1 h

has-either : (x : ℕ) (xs ys : List ℕ) → Has x (xs ++ ys) → Has x xs ⊎ Has x ys
has-either x [] ys h = inr h
has-either x (z ∷ xs) ys (inl e) = inl (inl e)
has-either x (z ∷ xs) ys (inr h) = up (has-either x xs ys h)
  where
    up : Has x xs ⊎ Has x ys → ((x ≡ z) ⊎ Has x xs) ⊎ Has x ys
    up (inl i) = inl (inr i)
    up (inr i) = inr i

pub distinct-two : (xs ys : List ℕ) → Rises xs → Rises ys → ((x : ℕ) → Has x xs → Has x ys → ⊥) → IsDistinct (λ x y. x == y) (xs ++ ys)
unfolding IsDistinct
distinct-two [] [] r s f = tt
distinct-two [] (y ∷ ys) r s f = (apart-from y ys (above y ys s.0), distinct-two [] ys r s.1 (λ x h k. h))
distinct-two (x ∷ xs) ys r s f =
    (apart-from x (xs ++ ys) (λ h. off (has-either x xs ys h)), distinct-two xs ys r.1 s (λ z h k. f z (inr h) k))
  where
    off : Has x xs ⊎ Has x ys → ⊥
    off (inl h) = above x xs r.0 h
    off (inr h) = f x (inl refl) h

strict : (n : ℕ) (ys : List ℕ) → AllByRecursion (λ y. n ≤ y) ys → AllByRecursion (λ y. (n == y) ≡ false) ys → AllByRecursion (λ y. n < y) ys
strict n [] a d = tt
strict n (y ∷ ys) a d = (grind (arith, nat_tests, a.0, d.0), strict n ys a.1 d.1)

at-least : (n : ℕ) (classes : List Group) → ((k : ℕ) (d : Group) → k < length classes → n ≤ first_member (get_or classes k d))
    → AllByRecursion (λ y. n ≤ y) (map first_member classes)
at-least n [] f = tt
at-least n (class ∷ classes) f = (f 0 class (omega arith), at-least n classes (λ k d within. f (suc k) d (omega (arith, within))))

pub rises-sorted : (classes : List Group) → IsNonDecreasingBy first_member classes → IsDistinct (λ x y. x == y) (map first_member classes) → Rises (map first_member classes)
unfolding IsDistinct
rises-sorted [] sorted apart = tt
rises-sorted (class ∷ classes) sorted apart = (
  strict (first_member class) (map first_member classes)
      (at-least (first_member class) classes (λ k d within. sorted 0 (suc k) d (omega arith) (omega (arith, within)))) apart.0,
  rises-sorted classes (λ i j d le within. sorted (suc i) (suc j) d (omega (arith, le)) (omega (arith, within))) apart.1,
)

-- two lists of classes whose first members rise, with no first member in both, sorted together
pub rises-together : (xs ys classes : List Group) → Rises (map first_member xs) → Rises (map first_member ys)
    → ((x : ℕ) → Has x (map first_member xs) → Has x (map first_member ys) → ⊥)
    → IsPermutation (xs ++ ys) classes → IsNonDecreasingBy first_member classes → Rises (map first_member classes)
rises-together xs ys classes r s f moved sorted =
    let two : IsDistinct (λ x y. x == y) (map first_member (xs ++ ys)) =
    subst (λ (ns : List ℕ). IsDistinct (λ x y. x == y) ns) (sym (map-append first_member xs ys)) (distinct-two (map first_member xs) (map first_member ys) r s f) in
    rises-sorted classes sorted
    (IsDistinct-IsPermutation (λ x y. x == y) nat_eq_equiv.symm (map first_member (xs ++ ys)) (map first_member classes)
    (IsPermutation-map first_member (xs ++ ys) classes moved) two)
