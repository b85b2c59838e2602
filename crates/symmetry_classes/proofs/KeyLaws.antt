-- Keys are equal exactly where the servers are in one class.
use Rattle.std.proofs.Common.{◌≡◌, ℕ, Bool, true, false, ap, sym, ◌∙◌, refl}
use Rattle.std.specs.Prelude.{◌&&◌, ◌==◌}
use Rattle.std.specs.Bool.{beq}
use Rattle.plan_model.specs.declared.cases.Case.{Case}
use Rattle.plan_model.specs.declared.cases.Holder.{Holder}
use Rattle.plan_model.specs.declared.cases.Holder.TheVariants.{Free, Held, Gone}
use Rattle.plan_model.specs.declared.cases.Grouping.{Grouping}
use Rattle.plan_model.specs.declared.cases.Grouping.TheVariants.{Single, Class}
use Rattle.plan_model.specs.Units.{place_of}
use Rattle.symmetry_classes.specs.Groups.{same_class, same_holder}
use Rattle.symmetry_classes.specs.Keys.{key_of}
use Rattle.symmetry_classes.specs.contracts.keys.KeyPartialEq.TheImpl.{ghosts as keys}
use Rattle.plan_model.specs.contracts.cases.HolderPartialEq.TheImpl.{ghosts as holders}

pub holder_eq-is : (h k : Holder) → holders.eq h k ≡ same_holder h k
holder_eq-is Free Free = refl
holder_eq-is Free (Held r) = refl
holder_eq-is Free Gone = refl
holder_eq-is (Held q) Free = refl
holder_eq-is (Held q) (Held r) = refl
holder_eq-is (Held q) Gone = refl
holder_eq-is Gone Free = refl
holder_eq-is Gone (Held r) = refl
holder_eq-is Gone Gone = refl

and-true : (b : Bool) → (b && true) ≡ b
and-true true = refl
and-true false = refl

and-false : (b : Bool) → (b && false) ≡ false
and-false true = refl
and-false false = refl

with-rack : (kind rack board holder busy : Bool) → (kind && (rack && (board && (holder && busy)))) ≡ (kind && board && holder && busy && rack)
with-rack false rack board holder busy = refl
with-rack true false board holder busy = sym (and-false (board && holder && busy))
with-rack true true false holder busy = refl
with-rack true true true holder busy = sym (and-true (holder && busy))

without-rack : (kind board holder busy : Bool) → (kind && (board && (holder && busy))) ≡ (kind && board && holder && busy && true)
without-rack false board holder busy = refl
without-rack true false holder busy = refl
without-rack true true holder busy = sym (and-true (holder && busy))

pub same-key : (how : Grouping) (racks : Bool) (case : Case) (s t : ℕ)
    → keys.eq (key_of how racks s (place_of case s)) (key_of how racks t (place_of case t)) ≡ same_class how racks case s t
same-key Single racks case s t = refl
same-key Class true case s t =
    ap (λ b. (place_of case s).kind == (place_of case t).kind && ((place_of case s).rack == (place_of case t).rack && ((place_of case s).board == (place_of case t).board && (b && beq (place_of case s).busy (place_of case t).busy))))
    (holder_eq-is (place_of case s).holder (place_of case t).holder)
    ∙ with-rack ((place_of case s).kind == (place_of case t).kind) ((place_of case s).rack == (place_of case t).rack) ((place_of case s).board == (place_of case t).board) (same_holder (place_of case s).holder (place_of case t).holder) (beq (place_of case s).busy (place_of case t).busy)
same-key Class false case s t =
    ap (λ b. (place_of case s).kind == (place_of case t).kind && ((place_of case s).board == (place_of case t).board && (b && beq (place_of case s).busy (place_of case t).busy)))
    (holder_eq-is (place_of case s).holder (place_of case t).holder)
    ∙ without-rack ((place_of case s).kind == (place_of case t).kind) ((place_of case s).board == (place_of case t).board) (same_holder (place_of case s).holder (place_of case t).holder) (beq (place_of case s).busy (place_of case t).busy)
