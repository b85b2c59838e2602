-- A class table is right whatever way it was made: its classes are those of their first members, these rise, and each server
-- is a member of one.
use Rattle.std.proofs.Common.{◌≡◌, ℕ, ◌<◌, Bool, true, false, cond, List, [], ◌∷◌, get_or, arith, ap, sym, ◌∙◌, refl, subst, ◌⊎◌, inl, inr}
use Rattle.std.specs.Prelude.{filter, not, map}
use Rattle.std.specs.List.{AllByRecursion}
use Rattle.std.specs.Cmp.{IsEquivalence}
use Rattle.plan_model.specs.declared.cases.Case.{Case}
use Rattle.plan_model.specs.declared.cases.Grouping.{Grouping}
use Rattle.symmetry_classes.specs.declared.groups.Class.{Class as Group}
use Rattle.symmetry_classes.specs.Groups.{first_of_each, same_class, class_of, classes_of}
use Rattle.symmetry_classes.proofs.SameClass.{same_class-equivalence}
use Rattle.ras_rounds.specs.Mends.{Has, Rises, IsClassOf, HasMember, first_member}

not-true : (b : Bool) → not b ≡ true → b ≡ false
not-true true h = cc
not-true false h = refl

-- what a filter keeps
pub has-kept : (p : ℕ → Bool) (x : ℕ) (xs : List ℕ) → Has x xs → p x ≡ true → Has x (filter p xs)
has-kept p x [] h k = absurd h
has-kept p x (y ∷ ys) h k = by (p y) refl h (λ i. has-kept p x ys i k)
  where
    off : x ≡ y → p y ≡ false → ⊥
    off s e = let t : true ≡ false = sym k ∙ ap p s ∙ e in cc

    by : (b : Bool) → p y ≡ b → (x ≡ y) ⊎ Has x ys → (Has x ys → Has x (filter p ys)) → Has x (cond b (y ∷ filter p ys) (filter p ys))
    by true e (inl s) rest = inl s
    by true e (inr i) rest = inr (rest i)
    by false e (inl s) rest = absurd (off s e)
    by false e (inr i) rest = rest i

pub kept-has : (p : ℕ → Bool) (x : ℕ) (xs : List ℕ) → Has x (filter p xs) → Has x xs × (p x ≡ true)
kept-has p x [] h = absurd h
kept-has p x (y ∷ ys) h = by (p y) refl h (kept-has p x ys)
  where
    by : (b : Bool) → p y ≡ b → Has x (cond b (y ∷ filter p ys) (filter p ys)) → (Has x (filter p ys) → Has x ys × (p x ≡ true))
        → ((x ≡ y) ⊎ Has x ys) × (p x ≡ true)
    by true e (inl s) rest = (inl s, ap p s ∙ e)
    by true e (inr i) rest = let r = rest i in (inr r.0, r.1)
    by false e i rest = let r = rest i in (inr r.0, r.1)

pub all-at : (P : ℕ → Type 0) (x : ℕ) (xs : List ℕ) → AllByRecursion P xs → Has x xs → P x
all-at P x [] a h = absurd h
all-at P x (y ∷ ys) a (inl s) = subst P (sym s) a.0
all-at P x (y ∷ ys) a (inr h) = all-at P x ys a.1 h

pub all-kept : (P : ℕ → Type 0) (p : ℕ → Bool) (xs : List ℕ) → AllByRecursion P xs → AllByRecursion P (filter p xs)
all-kept P p [] a = tt
all-kept P p (y ∷ ys) a = by (p y) (all-kept P p ys a.1)
  where
    by : (b : Bool) → AllByRecursion P (filter p ys) → AllByRecursion P (cond b (y ∷ filter p ys) (filter p ys))
    by true rest = (a.0, rest)
    by false rest = rest

pub rises-kept : (p : ℕ → Bool) (xs : List ℕ) → Rises xs → Rises (filter p xs)
rises-kept p [] a = tt
rises-kept p (y ∷ ys) a = by (p y) (rises-kept p ys a.1)
  where
    by : (b : Bool) → Rises (filter p ys) → Rises (cond b (y ∷ filter p ys) (filter p ys))
    by true rest = (all-kept (λ z. y < z) p ys a.0, rest)
    by false rest = rest

-- rising numbers are fixed by which there are
pub same-rising : (xs ys : List ℕ) → Rises xs → Rises ys → ((x : ℕ) → Has x xs → Has x ys) → ((x : ℕ) → Has x ys → Has x xs) → xs ≡ ys
same-rising [] [] r s f g = refl
same-rising [] (y ∷ ys) r s f g = absurd (g y (inl refl))
same-rising (x ∷ xs) [] r s f g = absurd (f x (inl refl))
same-rising (x ∷ xs) (y ∷ ys) r s f g =
    let e : x ≡ y = heads (f x (inl refl)) (g y (inl refl)) in
    ap (λ z. z ∷ xs) e
    ∙ ap (λ zs. y ∷ zs) (same-rising xs ys r.1 s.1
    (λ z h. there z y ys (let up : x < z = all-at (λ n. x < n) z xs r.0 h in omega (arith, up, e)) (f z (inr h)))
    (λ z h. there z x xs (let up : y < z = all-at (λ n. y < n) z ys s.0 h in omega (arith, up, e)) (g z (inr h))))
  where
    heads : (x ≡ y) ⊎ Has x ys → (y ≡ x) ⊎ Has y xs → x ≡ y
    heads (inl e) k = e
    heads (inr h) (inl e) = sym e
    heads (inr h) (inr k) =
        let up : y < x = all-at (λ n. y < n) x ys s.0 h in
        let down : x < y = all-at (λ n. x < n) y xs r.0 k in
        absurd (omega (arith, up, down))

    there : (z n : ℕ) (ns : List ℕ) → n < z → (z ≡ n) ⊎ Has z ns → Has z ns
    there z n ns up (inl e) = absurd (omega (arith, up, e))
    there z n ns up (inr h) = h

pub filter-same : (p q : ℕ → Bool) → ((z : ℕ) → p z ≡ q z) → (xs : List ℕ) → filter p xs ≡ filter q xs
filter-same p q same [] = refl
filter-same p q same (x ∷ xs) =
    ap (λ b. cond b (x ∷ filter p xs) (filter p xs)) (same x) ∙ ap (λ zs. cond (q x) (x ∷ zs) zs) (filter-same p q same xs)

module _ (same : ℕ → ℕ → Bool) (eqv : IsEquivalence same) where
  -- which element leads its kind
  abbrev Leads : ℕ → List ℕ → Type 0
  Leads x xs = get_or (filter (same x) xs) 0 0 ≡ x

  pub first-in : (x : ℕ) (xs : List ℕ) → Has x (first_of_each same xs) → Has x xs × Leads x xs
  first-in x [] h = absurd h
  first-in x (y ∷ ys) (inl s) =
      (inl s, ap (λ b. get_or (cond b (y ∷ filter (same x) ys) (filter (same x) ys)) 0 0) (ap (same x) (sym s) ∙ eqv.refl x) ∙ sym s)
  first-in x (y ∷ ys) (inr h) =
      let k = kept-has (λ z. not (same y z)) x (first_of_each same ys) h in
      let r = first-in x ys k.0 in
      let apart : same x y ≡ false = eqv.symm x y ∙ not-true (same y x) k.1 in
      (inr r.0, ap (λ b. get_or (cond b (y ∷ filter (same x) ys) (filter (same x) ys)) 0 0) apart ∙ r.1)

  in-first : (x : ℕ) (xs : List ℕ) → Has x xs → Leads x xs → Has x (first_of_each same xs)
  in-first x [] h k = absurd h
  in-first x (y ∷ ys) h k = by (same x y) refl h k (in-first x ys)
    where
      off : x ≡ y → same x y ≡ false → ⊥
      off s e = let t : true ≡ false = sym (eqv.refl x) ∙ ap (same x) s ∙ e in cc

      by : (b : Bool) → same x y ≡ b → (x ≡ y) ⊎ Has x ys → get_or (cond b (y ∷ filter (same x) ys) (filter (same x) ys)) 0 0 ≡ x
          → (Has x ys → Leads x ys → Has x (first_of_each same ys)) → (x ≡ y) ⊎ Has x (filter (λ z. not (same y z)) (first_of_each same ys))
      by true e i k rest = inl (sym k)
      by false e (inl s) k rest = absurd (off s e)
      by false e (inr i) k rest = inr (has-kept (λ z. not (same y z)) x (first_of_each same ys) (rest i k) (ap not (eqv.symm y x ∙ e)))

  all-firsts : (P : ℕ → Type 0) (xs : List ℕ) → AllByRecursion P xs → AllByRecursion P (first_of_each same xs)
  all-firsts P [] a = tt
  all-firsts P (x ∷ xs) a = (a.0, all-kept P (λ y. not (same x y)) (first_of_each same xs) (all-firsts P xs a.1))

  pub rises-firsts : (xs : List ℕ) → Rises xs → Rises (first_of_each same xs)
  rises-firsts [] a = tt
  rises-firsts (x ∷ xs) a = (
    all-kept (λ y. x < y) (λ y. not (same x y)) (first_of_each same xs) (all-firsts (λ y. x < y) xs a.0),
    rises-kept (λ y. not (same x y)) (first_of_each same xs) (rises-firsts xs a.1),
  )

module _ (how : Grouping) (racks : Bool) (case : Case) (servers : List ℕ) where
  eqv : IsEquivalence (same_class how racks case)
  eqv = same_class-equivalence how racks case

  leads : (class : Group) → IsClassOf how racks case servers class → Leads (same_class how racks case) eqv (first_member class) servers
  leads class is = sym (ap (λ (g : Group). get_or g.members 0 0) is.own)

  leading : (x : ℕ) (classes : List Group) → AllByRecursion (IsClassOf how racks case servers) classes → Has x (map first_member classes)
      → Has x servers × Leads (same_class how racks case) eqv x servers
  leading x [] a h = absurd h
  leading x (class ∷ classes) a (inl s) =
      subst (λ (n : ℕ). Has n servers × Leads (same_class how racks case) eqv n servers) (sym s) (a.0.there, leads class a.0)
  leading x (class ∷ classes) a (inr h) = leading x classes a.1 h

  -- an element that leads its kind is the first of the class of which it is a member
  is-first : (x : ℕ) (class : Group) → IsClassOf how racks case servers class → Leads (same_class how racks case) eqv x servers → Has x class.members
      → x ≡ first_member class
  is-first x class is lead member =
      let inside : Has x (filter (same_class how racks case (first_member class)) servers) = subst (λ (g : Group). Has x g.members) is.own member in
      let alike = (kept-has (same_class how racks case (first_member class)) x servers inside).1 in
      sym lead
      ∙ ap (λ (zs : List ℕ). get_or zs 0 0)
      (sym (filter-same (same_class how racks case (first_member class)) (same_class how racks case x) (λ z. eqv.congr (first_member class) x z alike) servers))
      ∙ leads class is

  leads-class : (x : ℕ) → Leads (same_class how racks case) eqv x servers → (classes : List Group) → AllByRecursion (IsClassOf how racks case servers) classes
      → HasMember x classes → Has x (map first_member classes)
  leads-class x lead [] a h = absurd h
  leads-class x lead (class ∷ classes) a (inl m) = inl (is-first x class a.0 lead m)
  leads-class x lead (class ∷ classes) a (inr m) = inr (leads-class x lead classes a.1 m)

  own-classes : (classes : List Group) → AllByRecursion (IsClassOf how racks case servers) classes
      → classes ≡ map (class_of how racks case servers) (map first_member classes)
  own-classes [] a = refl
  own-classes (class ∷ classes) a =
      ap (λ (g : Group). g ∷ classes) a.0.own ∙ ap (λ (gs : List Group). class_of how racks case servers (first_member class) ∷ gs) (own-classes classes a.1)

  pub grouped : (classes : List Group) → Rises servers → AllByRecursion (IsClassOf how racks case servers) classes → Rises (map first_member classes)
      → ((s : ℕ) → Has s servers → HasMember s classes) → classes ≡ classes_of how racks case servers
  grouped classes rising own firsts members =
      let same : map first_member classes ≡ first_of_each (same_class how racks case) servers =
      same-rising (map first_member classes) (first_of_each (same_class how racks case) servers) firsts (rises-firsts (same_class how racks case) eqv servers rising)
      (λ x h. let l = leading x classes own h in in-first (same_class how racks case) eqv x servers l.0 l.1)
      (λ x h. let l = first-in (same_class how racks case) eqv x servers h in leads-class x l.1 classes own (members x l.0)) in
      own-classes classes own ∙ ap (map (class_of how racks case servers)) same
