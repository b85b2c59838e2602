-- A mended table is that of the case after the round.
use Rattle.std.proofs.Common.{◌≡◌, ℕ, ◌<◌, Bool, true, false, cond, List, [], ◌∷◌, ◌++◌, length, get_or, arith, ap, sym, ◌∙◌, refl, subst, ◌⊎◌, inl, inr}
use Rattle.std.specs.Prelude.{filter, not, map, zip}
use Rattle.std.specs.List.{AllByRecursion}
use Rattle.std.specs.List.Sorted.{IsPermutation, IsNonDecreasingBy}
use Rattle.std.proofs.lemmas.List.{length-map}
use Rattle.std.proofs.lemmas.Slice.Zip.{length-zip}
use Rattle.plan_model.specs.declared.cases.Case.{Case}
use Rattle.plan_model.specs.declared.cases.Grouping.{Grouping}
use Rattle.plan_model.specs.declared.cases.Grouping.TheVariants.{Class as Alike}
use Rattle.symmetry_classes.specs.declared.groups.Class.{Class as Group}
use Rattle.symmetry_classes.specs.Groups.{first_of_each, same_class, class_of, classes_of, flagged_servers}
use Rattle.symmetry_classes.proofs.SameClass.{same_class-equivalence}
use Rattle.program_rows.specs.Settings.{region_setting, movable_servers, movable_flags}
use Rattle.online_mover.specs.States.{State}
use Rattle.ras_rounds.specs.Rounds.{IsAfter, is_changed, placed_after, region_classes}
use Rattle.ras_rounds.specs.Mends.{Has, HasMember, Rises, IsClassOf, IsKept, IsMended, first_member, has_flag, cleared, kept_classes, touched_after, mended_classes}
use Rattle.ras_rounds.proofs.Grouped.{has-kept, first-in, rises-firsts}
use Rattle.ras_rounds.proofs.Flags.{flagged-rise, flagged-has, has-flagged}
use Rattle.ras_rounds.proofs.Cleared.{cleared-off, cleared-on}
use Rattle.ras_rounds.proofs.Unchanged.{round-unchanged}
use Rattle.ras_rounds.proofs.Touched.{class-untouched}
use Rattle.ras_rounds.proofs.Mended.{class-kept, mended}
use Rattle.ras_rounds.proofs.Mending.{grouped-own, grouped-members, each-kept, each-then, cleared-loose}
use Rattle.ras_rounds.proofs.SortedTable.{all-moved, member-moved, rises-together}

all-both : {X : Type 0} (P : X → Type 0) (xs ys : List X) → AllByRecursion P xs → AllByRecursion P ys → AllByRecursion P (xs ++ ys)
all-both P [] ys a b = b
all-both P (x ∷ xs) ys a b = (a.0, all-both P xs ys a.1 b)

member-left : (s : ℕ) (xs ys : List Group) → HasMember s xs → HasMember s (xs ++ ys)
member-left s [] ys m = absurd m
member-left s (x ∷ xs) ys (inl m) = inl m
member-left s (x ∷ xs) ys (inr m) = inr (member-left s xs ys m)

member-right : (s : ℕ) (xs ys : List Group) → HasMember s ys → HasMember s (xs ++ ys)
member-right s [] ys m = m
member-right s (x ∷ xs) ys m = inr (member-right s xs ys m)

module _ (how : Grouping) (racks : Bool) (case : Case) (servers : List ℕ) where
  firsts-from : (firsts : List ℕ) → ((x : ℕ) → Has x firsts → get_or (filter (same_class how racks case x) servers) 0 0 ≡ x)
      → map first_member (map (class_of how racks case servers) firsts) ≡ firsts
  firsts-from [] f = refl
  firsts-from (x ∷ firsts) f =
      ap (λ n. n ∷ map first_member (map (class_of how racks case servers) firsts)) (f x (inl refl))
      ∙ ap (λ ns. x ∷ ns) (firsts-from firsts (λ y h. f y (inr h)))

  grouped-rise : Rises servers → Rises (map first_member (classes_of how racks case servers))
  grouped-rise rising =
      let eqv = same_class-equivalence how racks case in
      subst (λ (ns : List ℕ). Rises ns)
      (sym (firsts-from (first_of_each (same_class how racks case) servers) (λ x h. (first-in (same_class how racks case) eqv x servers h).1)))
      (rises-firsts (same_class how racks case) eqv servers rising)

  first-there : (x : ℕ) (classes : List Group) → AllByRecursion (IsClassOf how racks case servers) classes → Has x (map first_member classes) → Has x servers
  first-there x [] a h = absurd h
  first-there x (class ∷ classes) a (inl e) = subst (λ (n : ℕ). Has n servers) (sym e) a.0.there
  first-there x (class ∷ classes) a (inr h) = first-there x classes a.1 h

  first-member : (x : ℕ) (classes : List Group) → AllByRecursion (IsClassOf how racks case servers) classes → Has x (map first_member classes) → HasMember x classes
  first-member x [] a h = absurd h
  first-member x (class ∷ classes) a (inl e) =
      let f = first_member class in
      let eqv = same_class-equivalence how racks case in
      let own : Has f class.members =
      subst (λ (g : Group). Has f g.members) (sym a.0.own) (has-kept (same_class how racks case f) f servers a.0.there (eqv.refl f)) in
      inl (subst (λ (n : ℕ). Has n class.members) (sym e) own)
  first-member x (class ∷ classes) a (inr h) = inr (first-member x classes a.1 h)

-- what is kept still rises
above-kept : (n : ℕ) (p : Group → Bool) (classes : List Group) → AllByRecursion (λ y. n < y) (map first_member classes)
    → AllByRecursion (λ y. n < y) (map first_member (filter p classes))
above-kept n p [] a = tt
above-kept n p (class ∷ classes) a = by (p class) (above-kept n p classes a.1)
  where
    by : (b : Bool) → AllByRecursion (λ y. n < y) (map first_member (filter p classes))
        → AllByRecursion (λ y. n < y) (map first_member (cond b (class ∷ filter p classes) (filter p classes)))
    by true rest = (a.0, rest)
    by false rest = rest

rise-kept : (p : Group → Bool) (classes : List Group) → Rises (map first_member classes) → Rises (map first_member (filter p classes))
rise-kept p [] a = tt
rise-kept p (class ∷ classes) a = by (p class) (rise-kept p classes a.1)
  where
    by : (b : Bool) → Rises (map first_member (filter p classes)) → Rises (map first_member (cond b (class ∷ filter p classes) (filter p classes)))
    by true rest = (above-kept (first_member class) p classes a.0, rest)
    by false rest = rest

pub whole-mend : (before after : Case) (state : State) (classes : List Group) → IsAfter before state after → length state.servers ≡ length before.places
    → IsPermutation (mended_classes before after) classes → IsNonDecreasingBy first_member classes → classes ≡ region_classes after
whole-mend before after state classes is same moved sorted =
    let old = movable_servers before (region_setting before) in
    let flags = movable_flags after (region_setting after) in
    let new = flagged_servers flags in
    let touched = touched_after before after in
    let kept = kept_classes touched (region_classes before) in
    let loose = flagged_servers (cleared touched (region_classes before) flags) in
    let fresh = classes_of Alike false after loose in
    let changed = is_changed before after in
    let old-rises : Rises old = flagged-rise (movable_flags before (region_setting before)) in
    let new-rises : Rises new = flagged-rise flags in
    let long : length after.places ≡ length before.places =
    ap length is.places ∙ length-map (zip before.places state.servers) placed_after ∙ (let z = length-zip before.places state.servers in omega (arith, z, same)) in
    let un = round-unchanged before after state is same in
    let keeps : AllByRecursion (IsKept before after old new changed) kept =
    each-kept (IsClassOf Alike false before old) (IsKept before after old new changed) touched
    (λ class p e. class-untouched before after old new long un class p e) (region_classes before) (grouped-own Alike false before old) in
    let own : AllByRecursion (IsClassOf Alike false after new) kept =
    each-then (IsKept before after old new changed) (IsClassOf Alike false after new)
    (λ class k. class-kept before after old new changed un old-rises new-rises class k.is k.quiet k.calm) kept keeps in
    let apart = cleared-loose after flags touched (region_classes before) own in
    let fresh-own = grouped-own Alike false after loose in
    let all : AllByRecursion (IsMended before after old new changed loose) (kept ++ fresh) =
    all-both (IsMended before after old new changed loose) kept fresh
    (each-then (IsKept before after old new changed) (IsMended before after old new changed loose) (λ class k. inl k) kept keeps)
    (each-then (IsClassOf Alike false after loose) (IsMended before after old new changed loose) (λ class k. inr k) fresh fresh-own) in
    mended before after old new changed loose classes un old-rises new-rises apart
    (all-moved (IsMended before after old new changed loose) (kept ++ fresh) classes moved all)
    (rises-together kept fresh classes
    (rise-kept (λ class. not (touched class)) (region_classes before) (grouped-rise Alike false before old old-rises))
    (grouped-rise Alike false after loose apart.rise)
    (λ x h k.
    (cleared-off touched (region_classes before) flags x (has-flagged (cleared touched (region_classes before) flags) x (first-there Alike false after loose x fresh fresh-own k))).1
    (first-member Alike false after new x kept own h))
    moved sorted)
    (λ s h. member-moved s (kept ++ fresh) classes moved (in-one s (cleared-on touched (region_classes before) flags s (has-flagged flags s h))))
  where
    in-one : (s : ℕ) → HasMember s (kept_classes (touched_after before after) (region_classes before))
        ⊎ (has_flag (cleared (touched_after before after) (region_classes before) (movable_flags after (region_setting after))) s ≡ true)
        → HasMember s (mended_classes before after)
    in-one s (inl m) = member-left s (kept_classes (touched_after before after) (region_classes before)) _ m
    in-one s (inr e) =
        member-right s (kept_classes (touched_after before after) (region_classes before)) _
        (grouped-members Alike false after (flagged_servers (cleared (touched_after before after) (region_classes before) (movable_flags after (region_setting after)))) s
        (flagged-has (cleared (touched_after before after) (region_classes before) (movable_flags after (region_setting after))) s e))
