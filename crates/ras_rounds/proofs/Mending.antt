-- The classes that are kept, and the other servers grouped by themselves, are the classes after the change.
use Rattle.std.proofs.Common.{◌≡◌, ℕ, Bool, true, false, cond, List, [], ◌∷◌, get_or, ap, sym, ◌∙◌, refl, subst, ◌⊎◌, inl, inr}
use Rattle.std.specs.Prelude.{filter, not, map, ◌||◌}
use Rattle.std.specs.List.{AllByRecursion, list_any}
use Rattle.plan_model.specs.declared.cases.Case.{Case}
use Rattle.plan_model.specs.declared.cases.Grouping.{Grouping}
use Rattle.plan_model.specs.declared.cases.Grouping.TheVariants.{Class as Alike}
use Rattle.symmetry_classes.specs.declared.groups.Class.{Class as Group}
use Rattle.symmetry_classes.specs.Groups.{first_of_each, same_class, class_of, classes_of, flagged_servers}
use Rattle.symmetry_classes.proofs.SameClass.{same_class-equivalence}
use Rattle.symmetry_classes.proofs.FirstOfEach.{is_like-first}
use Rattle.ras_rounds.specs.Mends.{Has, HasMember, IsClassOf, AreLoose, first_member, has_flag, cleared, kept_classes}
use Rattle.ras_rounds.proofs.Grouped.{has-kept, kept-has, first-in}
use Rattle.ras_rounds.proofs.Flags.{flagged-rise, flagged-has, has-flagged}
use Rattle.ras_rounds.proofs.Cleared.{cleared-off, cleared-on}

any-some : (test : ℕ → Bool) (s : ℕ) (xs : List ℕ) → Has s xs → test s ≡ true → list_any test xs ≡ true
any-some test s [] h k = absurd h
any-some test s (x ∷ xs) (inl e) k = ap (λ b. b || list_any test xs) (ap test (sym e) ∙ k)
any-some test s (x ∷ xs) (inr h) k = by (test x) (any-some test s xs h k)
  where
    by : (b : Bool) → list_any test xs ≡ true → (b || list_any test xs) ≡ true
    by true e = refl
    by false e = e

module _ (how : Grouping) (racks : Bool) (case : Case) (servers : List ℕ) where
  -- the classes of some servers are those of their first members
  own-from : (firsts : List ℕ) → ((x : ℕ) → Has x firsts → Has x servers × (get_or (filter (same_class how racks case x) servers) 0 0 ≡ x))
      → AllByRecursion (IsClassOf how racks case servers) (map (class_of how racks case servers) firsts)
  own-from [] f = tt
  own-from (x ∷ firsts) f =
      let r = f x (inl refl) in (
        record { own = ap (class_of how racks case servers) (sym r.1); there = subst (λ (n : ℕ). Has n servers) (sym r.1) r.0 },
        own-from firsts (λ y h. f y (inr h)),
      )

  pub grouped-own : AllByRecursion (IsClassOf how racks case servers) (classes_of how racks case servers)
  grouped-own =
      own-from (first_of_each (same_class how racks case) servers)
      (λ x h. first-in (same_class how racks case) (same_class-equivalence how racks case) x servers h)

  -- and each server is a member of one
  member-from : (s : ℕ) (firsts : List ℕ) → Has s servers → list_any (λ x. same_class how racks case x s) firsts ≡ true
      → HasMember s (map (class_of how racks case servers) firsts)
  member-from s [] h k = cc
  member-from s (x ∷ firsts) h k = by (same_class how racks case x s) refl k (member-from s firsts h)
    where
      by : (b : Bool) → same_class how racks case x s ≡ b → (b || list_any (λ y. same_class how racks case y s) firsts) ≡ true
          → (list_any (λ y. same_class how racks case y s) firsts ≡ true → HasMember s (map (class_of how racks case servers) firsts))
          → Has s (filter (same_class how racks case x) servers) ⊎ HasMember s (map (class_of how racks case servers) firsts)
      by true e q f = inl (has-kept (same_class how racks case x) s servers h e)
      by false e q f = inr (f q)

  pub grouped-members : (s : ℕ) → Has s servers → HasMember s (classes_of how racks case servers)
  grouped-members s h =
      let eqv = same_class-equivalence how racks case in
      member-from s (first_of_each (same_class how racks case) servers) h
      (is_like-first (same_class how racks case) eqv s servers ∙ any-some (λ x. same_class how racks case x s) s servers h (eqv.refl s))

-- each class that is kept
pub each-kept : (P Q : Group → Type 0) (touched : Group → Bool) → ((class : Group) → P class → touched class ≡ false → Q class)
    → (classes : List Group) → AllByRecursion P classes → AllByRecursion Q (kept_classes touched classes)
each-kept P Q touched f [] a = tt
each-kept P Q touched f (class ∷ classes) a = by (touched class) refl (each-kept P Q touched f classes a.1)
  where
    by : (b : Bool) → touched class ≡ b → AllByRecursion Q (kept_classes touched classes)
        → AllByRecursion Q (cond (not b) (class ∷ kept_classes touched classes) (kept_classes touched classes))
    by true e rest = rest
    by false e rest = (f class a.0 e, rest)

pub each-then : (P Q : Group → Type 0) → ((class : Group) → P class → Q class) → (classes : List Group) → AllByRecursion P classes → AllByRecursion Q classes
each-then P Q f [] a = tt
each-then P Q f (class ∷ classes) a = (f class a.0, each-then P Q f classes a.1)

-- what is alike with a member of a class is a member too
members-whole : (case : Case) (servers : List ℕ) (s t : ℕ) → Has s servers → same_class Alike false case s t ≡ true → (classes : List Group)
    → AllByRecursion (IsClassOf Alike false case servers) classes → HasMember t classes → HasMember s classes
members-whole case servers s t h k [] a m = m
members-whole case servers s t h k (class ∷ classes) a (inl m) =
    let eqv = same_class-equivalence Alike false case in
    let f = first_member class in
    let inside : Has t (filter (same_class Alike false case f) servers) = subst (λ (g : Group). Has t g.members) a.0.own m in
    let like = (kept-has (same_class Alike false case f) t servers inside).1 in
    let other : same_class Alike false case f s ≡ true = eqv.congr f t s like ∙ eqv.symm t s ∙ k in
    inl (subst (λ (g : Group). Has s g.members) (sym a.0.own) (has-kept (same_class Alike false case f) s servers h other))
members-whole case servers s t h k (class ∷ classes) a (inr m) = inr (members-whole case servers s t h k classes a.1 m)

-- the servers that are in no class that is kept are loose
pub cleared-loose : (case : Case) (flags : List Bool) (touched : Group → Bool) (classes : List Group)
    → AllByRecursion (IsClassOf Alike false case (flagged_servers flags)) (kept_classes touched classes)
    → AreLoose case (flagged_servers flags) (flagged_servers (cleared touched classes flags))
cleared-loose case flags touched classes own = record {
  rise = flagged-rise (cleared touched classes flags);
  among = λ s h. flagged-has flags s (cleared-off touched classes flags s (has-flagged (cleared touched classes flags) s h)).0;
  whole = λ s t h k like.
      let off = cleared-off touched classes flags s (has-flagged (cleared touched classes flags) s h) in
      by t (cleared-on touched classes flags t (has-flagged flags t k))
      (λ m. off.1 (members-whole case (flagged_servers flags) s t (flagged-has flags s off.0) like (kept_classes touched classes) own m));
}
  where
    by : (t : ℕ) → HasMember t (kept_classes touched classes) ⊎ (has_flag (cleared touched classes flags) t ≡ true)
        → (HasMember t (kept_classes touched classes) → ⊥) → Has t (flagged_servers (cleared touched classes flags))
    by t (inl m) f = absurd (f m)
    by t (inr e) f = flagged-has (cleared touched classes flags) t e
