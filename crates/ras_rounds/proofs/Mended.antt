-- Which classes a mend may keep, and what grouping the other servers alone gives.
use Rattle.std.proofs.Common.{◌≡◌, ℕ, Bool, true, false, List, [], ◌∷◌, ap, sym, ◌∙◌, inl, inr, None}
use Rattle.std.specs.Prelude.{filter, map}
use Rattle.std.specs.List.{AllByRecursion}
use Rattle.plan_model.specs.declared.cases.Case.{Case}
use Rattle.plan_model.specs.declared.cases.Place.{Place}
use Rattle.plan_model.specs.declared.cases.Holder.{Holder}
use Rattle.plan_model.specs.declared.cases.Grouping.TheVariants.{Class as Alike}
use Rattle.plan_model.specs.Units.{place_of}
use Rattle.symmetry_classes.specs.declared.groups.Class.{Class as Group}
use Rattle.symmetry_classes.specs.Groups.{same_class, classes_of, have_one_class}
use Rattle.symmetry_classes.proofs.SameClass.{same_class-equivalence, HaveInCommon, common-from_alike, alike-from_common, common-flip, common-chain}
use Rattle.ras_rounds.specs.Mends.{Has, Rises, IsClassOf, HasMember, first_member, HaveOneKey, AreUnchanged, AreLoose, IsMended}
use Rattle.ras_rounds.proofs.Grouped.{has-kept, kept-has, rises-kept, same-rising, grouped}

common : (s t : Place) → HaveOneKey s t → HaveInCommon false s t
common s t k = record { kind = k.kind; board = k.board; holder = k.holder; busy = k.busy; rack = λ e. let none : false ≡ true = e in cc }

carried : (s t u v : Place) → HaveOneKey s u → HaveOneKey t v → have_one_class false s t ≡ true → have_one_class false u v ≡ true
carried s t u v k l h =
    alike-from_common false u v
    (common-chain false u s v (common-flip false s u (common s u k)) (common-chain false s t v (common-from_alike false s t h) (common t v l)))

flipped : (s t : Place) → HaveOneKey s t → HaveOneKey t s
flipped s t k = record { kind = sym k.kind; board = sym k.board; holder = sym k.holder; busy = sym k.busy }

abbrev class_with : ℕ → ℕ → Holder → Bool → List ℕ → Group
class_with kind board holder busy members = record { kind = kind; rack = None; board = board; holder = holder; busy = busy; members = members }

module _ (before after : Case) (old new : List ℕ) (changed : ℕ → Bool) (same : AreUnchanged before after old new changed) (old-rises : Rises old) (new-rises : Rises new) where
  members-kept : (f : ℕ) → changed f ≡ false
      → ((s : ℕ) → Has s old → same_class Alike false before f s ≡ true → changed s ≡ false)
      → ((s : ℕ) → Has s new → same_class Alike false after f s ≡ true → changed s ≡ false)
      → filter (same_class Alike false before f) old ≡ filter (same_class Alike false after f) new
  members-kept f still quiet calm =
      same-rising _ _ (rises-kept (same_class Alike false before f) old old-rises) (rises-kept (same_class Alike false after f) new new-rises)
      (λ z h.
      let k = kept-has (same_class Alike false before f) z old h in
      let u = quiet z k.0 k.1 in
      has-kept (same_class Alike false after f) z new (same.stays z u k.0)
      (carried (place_of before f) (place_of before z) (place_of after f) (place_of after z) (same.key f still) (same.key z u) k.1))
      (λ z h.
      let k = kept-has (same_class Alike false after f) z new h in
      let u = calm z k.0 k.1 in
      has-kept (same_class Alike false before f) z old (same.was z u k.0)
      (carried (place_of after f) (place_of after z) (place_of before f) (place_of before z) (flipped _ _ (same.key f still)) (flipped _ _ (same.key z u)) k.1))

  -- a class that no server left and that none joined is a class after the change
  pub class-kept : (class : Group) → IsClassOf Alike false before old class
      → ((s : ℕ) → Has s old → same_class Alike false before (first_member class) s ≡ true → changed s ≡ false)
      → ((s : ℕ) → Has s new → same_class Alike false after (first_member class) s ≡ true → changed s ≡ false)
      → IsClassOf Alike false after new class
  class-kept class is quiet calm =
      let f = first_member class in
      let eqv = same_class-equivalence Alike false before in
      let still : changed f ≡ false = quiet f is.there (eqv.refl f) in
      let k = same.key f still in
      let members = members-kept f still quiet calm in
      let place = place_of before f in
      let other = place_of after f in
      let old-members = filter (same_class Alike false before f) old in
      record {
        own =
            is.own
            ∙ ap (λ n. class_with n place.board place.holder place.busy old-members) k.kind
            ∙ ap (λ n. class_with other.kind n place.holder place.busy old-members) k.board
            ∙ ap (λ h. class_with other.kind other.board h place.busy old-members) k.holder
            ∙ ap (λ b. class_with other.kind other.board other.holder b old-members) k.busy
            ∙ ap (class_with other.kind other.board other.holder other.busy) members;
        there = same.stays f still is.there;
      }

-- servers whose classes are made of them alone give the same classes grouped by themselves
pub class-loose : (case : Case) (servers loose : List ℕ) (class : Group) → Rises servers → AreLoose case servers loose
    → IsClassOf Alike false case loose class → IsClassOf Alike false case servers class
class-loose case servers loose class rising apart is =
    let f = first_member class in
    let members : filter (same_class Alike false case f) loose ≡ filter (same_class Alike false case f) servers =
    same-rising _ _ (rises-kept (same_class Alike false case f) loose apart.rise) (rises-kept (same_class Alike false case f) servers rising)
    (λ z h.
    let k = kept-has (same_class Alike false case f) z loose h in
    has-kept (same_class Alike false case f) z servers (apart.among z k.0) k.1)
    (λ z h.
    let k = kept-has (same_class Alike false case f) z servers h in
    has-kept (same_class Alike false case f) z loose (apart.whole f z is.there k.0 k.1) k.1) in
    record {
      own =
          is.own
          ∙ ap (class_with (place_of case f).kind (place_of case f).board (place_of case f).holder (place_of case f).busy) members;
      there = apart.among f is.there;
    }

-- a class that may be kept, or one of the loose servers alone, is a class after the change
pub mended-class : (before after : Case) (old new : List ℕ) (changed : ℕ → Bool) (loose : List ℕ) → AreUnchanged before after old new changed → Rises old → Rises new
    → AreLoose after new loose
    → (class : Group) → IsMended before after old new changed loose class → IsClassOf Alike false after new class
mended-class before after old new changed loose same old-rises new-rises apart class (inl kept) =
    class-kept before after old new changed same old-rises new-rises class kept.is kept.quiet kept.calm
mended-class before after old new changed loose same old-rises new-rises apart class (inr fresh) =
    class-loose after new loose class new-rises apart fresh

all-mended : (before after : Case) (old new : List ℕ) (changed : ℕ → Bool) (loose : List ℕ) → AreUnchanged before after old new changed → Rises old → Rises new
    → AreLoose after new loose
    → (classes : List Group) → AllByRecursion (IsMended before after old new changed loose) classes → AllByRecursion (IsClassOf Alike false after new) classes
all-mended before after old new changed loose same old-rises new-rises apart [] a = tt
all-mended before after old new changed loose same old-rises new-rises apart (g ∷ gs) a =
    (mended-class before after old new changed loose same old-rises new-rises apart g a.0, all-mended before after old new changed loose same old-rises new-rises apart gs a.1)

pub mended : (before after : Case) (old new : List ℕ) (changed : ℕ → Bool) (loose : List ℕ) (classes : List Group) → AreUnchanged before after old new changed
    → Rises old → Rises new
    → AreLoose after new loose
    → AllByRecursion (IsMended before after old new changed loose) classes → Rises (map first_member classes)
    → ((s : ℕ) → Has s new → HasMember s classes) → classes ≡ classes_of Alike false after new
mended before after old new changed loose classes same old-rises new-rises apart each firsts members =
    grouped Alike false after new classes new-rises (all-mended before after old new changed loose same old-rises new-rises apart classes each) firsts members
