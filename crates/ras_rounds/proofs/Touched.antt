-- A class that no changed server left or joins is kept.
use Rattle.std.proofs.Common.{◌≡◌, ℕ, zero, suc, Bool, true, false, cond, List, [], ◌∷◌, length, get_or, arith, ap, sym, ◌∙◌, refl, subst, inl, inr}
use Rattle.std.specs.Prelude.{map, zip, filter, ◌||◌}
use Rattle.std.specs.Bool.{beq}
use Rattle.std.specs.List.{list_any}
use Rattle.std.proofs.lemmas.Bool.{eq-eqb}
use Rattle.plan_model.specs.declared.cases.Holder.{Holder}
use Rattle.plan_model.specs.declared.cases.Holder.TheVariants.{Free, Held, Gone}
use Rattle.plan_model.specs.declared.cases.Place.{Place}
use Rattle.plan_model.specs.declared.cases.Case.{Case}
use Rattle.plan_model.specs.declared.cases.Grouping.TheVariants.{Class as Alike}
use Rattle.plan_model.specs.Units.{place_of, no_place}
use Rattle.plan_model.proofs.JoinRule.{both}
use Rattle.symmetry_classes.specs.declared.groups.Class.{Class as Group}
use Rattle.symmetry_classes.specs.Groups.{same_holder, same_class}
use Rattle.symmetry_classes.proofs.SameClass.{same_class-equivalence, common-from_class}
use Rattle.ras_rounds.specs.Rounds.{differs, is_changed}
use Rattle.ras_rounds.specs.Mends.{Has, IsClassOf, first_member, AreUnchanged, IsKept, joins, has_flag, is_touched, changed_flags, joiners_of}
use Rattle.ras_rounds.proofs.Grouped.{has-kept}

pub flag-at : (places others : List Place) → length others ≡ length places → (s : ℕ)
    → has_flag (changed_flags places others) s ≡ differs (get_or places s no_place) (get_or others s no_place)
flag-at [] [] same s = refl
flag-at [] (q ∷ others) same s = absurd (omega (arith, same))
flag-at (p ∷ places) [] same s = absurd (omega (arith, same))
flag-at (p ∷ places) (q ∷ others) same zero = refl
flag-at (p ∷ places) (q ∷ others) same (suc s) = flag-at places others (omega (arith, same)) s

or-left : (a b : Bool) → (a || b) ≡ false → a ≡ false
or-left true b h = h
or-left false b h = refl

or-right : (a b : Bool) → (a || b) ≡ false → b ≡ false
or-right true b h = cc
or-right false b h = h

pub joiner-in : (test : Place → Bool) (places others : List Place) → length others ≡ length places → (s : ℕ)
    → differs (get_or places s no_place) (get_or others s no_place) ≡ true → list_any test (joiners_of places others) ≡ false
    → test (get_or others s no_place) ≡ false
joiner-in test [] [] same s h none = absurd cc
joiner-in test [] (q ∷ others) same s h none = absurd (omega (arith, same))
joiner-in test (p ∷ places) [] same s h none = absurd (omega (arith, same))
joiner-in test (p ∷ places) (q ∷ others) same zero h none =
    or-left (test q) _ (ap (λ b. list_any test (map (λ (e : Place × Place). e.1) (cond b ((p, q) ∷ filter (λ e. differs e.0 e.1) (zip places others)) (filter (λ e. differs e.0 e.1) (zip places others))))) (sym h) ∙ none)
joiner-in test (p ∷ places) (q ∷ others) same (suc s) h none =
    joiner-in test places others (omega (arith, same)) s h (by (differs p q) none)
  where
    by : (b : Bool) → list_any test (map (λ (e : Place × Place). e.1) (cond b ((p, q) ∷ filter (λ e. differs e.0 e.1) (zip places others)) (filter (λ e. differs e.0 e.1) (zip places others)))) ≡ false
        → list_any test (joiners_of places others) ≡ false
    by true k = or-right (test q) _ k
    by false k = k

any-none : (test : ℕ → Bool) (s : ℕ) (xs : List ℕ) → list_any test xs ≡ false → Has s xs → test s ≡ false
any-none test s [] none h = absurd h
any-none test s (x ∷ xs) none (inl e) = ap test e ∙ or-left (test x) _ none
any-none test s (x ∷ xs) none (inr h) = any-none test s xs (or-right (test x) _ none) h

holder-itself : (h : Holder) → same_holder h h ≡ true
holder-itself Free = refl
holder-itself (Held q) = eq-eqb q q refl
holder-itself Gone = refl

busy-itself : (b : Bool) → beq b b ≡ true
busy-itself true = refl
busy-itself false = refl

record Matches (class : Group) (place : Place) : Type 0 where
  kind : class.kind ≡ place.kind
  board : class.board ≡ place.board
  holder : class.holder ≡ place.holder
  busy : class.busy ≡ place.busy

joins-true : (class : Group) (place : Place) → Matches class place → joins class place ≡ true
joins-true class place m =
    both _ _
    (both _ _ (both _ _ (eq-eqb class.kind place.kind m.kind) (eq-eqb class.board place.board m.board))
    (ap (same_holder class.holder) (sym m.holder) ∙ holder-itself class.holder))
    (ap (beq class.busy) (sym m.busy) ∙ busy-itself class.busy)

pub class-untouched : (before after : Case) (old new : List ℕ) → length after.places ≡ length before.places → AreUnchanged before after old new (is_changed before after)
    → (class : Group) → IsClassOf Alike false before old class
    → is_touched (changed_flags before.places after.places) (joiners_of before.places after.places) class ≡ false
    → IsKept before after old new (is_changed before after) class
class-untouched before after old new long same class is off =
    let f = first_member class in
    let quiet : (s : ℕ) → Has s old → same_class Alike false before f s ≡ true → is_changed before after s ≡ false =
    λ s h k.
    let member : Has s class.members = subst (λ (g : Group). Has s g.members) (sym is.own) (has-kept (same_class Alike false before f) s old h k) in
    sym (flag-at before.places after.places long s) ∙ any-none (has_flag (changed_flags before.places after.places)) s class.members (or-left _ _ off) member in
    let eqv = same_class-equivalence Alike false before in
    let still : is_changed before after f ≡ false = quiet f is.there (eqv.refl f) in
    let key = same.key f still in
    record {
      is = is;
      quiet = quiet;
      calm = λ s h k. by s k (is_changed before after s) refl (ap (λ (g : Group). g.kind) is.own ∙ key.kind) (ap (λ (g : Group). g.board) is.own ∙ key.board)
          (ap (λ (g : Group). g.holder) is.own ∙ key.holder) (ap (λ (g : Group). g.busy) is.own ∙ key.busy);
    }
  where
    clash : true ≡ false → ⊥
    clash e = cc

    by : (s : ℕ) → same_class Alike false after (first_member class) s ≡ true → (b : Bool) → is_changed before after s ≡ b
        → class.kind ≡ (place_of after (first_member class)).kind → class.board ≡ (place_of after (first_member class)).board
        → class.holder ≡ (place_of after (first_member class)).holder → class.busy ≡ (place_of after (first_member class)).busy
        → is_changed before after s ≡ false
    by s k false e kind board holder busy = e
    by s k true e kind board holder busy =
        let far : joins class (place_of after s) ≡ false = joiner-in (joins class) before.places after.places long s e (or-right _ _ off) in
        let like = common-from_class Alike false after (first_member class) s k in
        let near : joins class (place_of after s) ≡ true =
        joins-true class (place_of after s) (record { kind = kind ∙ like.kind; board = board ∙ like.board; holder = holder ∙ like.holder; busy = busy ∙ like.busy }) in
        absurd (clash (sym near ∙ far))
