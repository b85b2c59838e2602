-- What it says that a reason does not hold.
use Rattle.std.proofs.Common.{◌≡◌, ℕ, ◌+◌, refl, ap, ap₂, ◌∙◌, arith, Bool, true, false, not, ◌==◌, cond, List, [], ◌∷◌, length, map, Option, Some, None, is_some}
use Rattle.std.specs.Prelude.{position, option_map}
use Rattle.std.specs.Option.{option_or}
use Rattle.std.specs.List.{list_all}
use Rattle.ras_requests.specs.declared.requests.Protection.{Protection}
use Rattle.ras_requests.specs.declared.requests.Protection.TheVariants as protection
use Rattle.plan_model.specs.declared.cases.Want.{Want}
use Rattle.plan_model.specs.declared.cases.Case.{Case}
use Rattle.plan_model.specs.declared.cases.Assignment.{Assignment}
use Rattle.plan_model.specs.Allowed.{serves, keeps_need, first_not_served, first_loss}
use Rattle.plan_model.specs.Units.{servers_with_places, all_reservations}
use Rattle.plan_model.proofs.AllowedLaws.{list_all-position, keeps-no_loss}
use Rattle.std.proofs.lemmas.Bool.{and_from, eqb-true}
use Rattle.plan_checker.specs.declared.verdict.PhaseName.{PhaseName}
use Rattle.plan_checker.specs.declared.verdict.Reason.{Reason}
use Rattle.plan_checker.specs.declared.verdict.Reason.TheVariants as reason
use Rattle.plan_checker.specs.Reasons.{reason_if, same_protection, first_other, serves_reason, first_need, need_reason, first_difference}

pub or_none : {X : Type 0} (a b : Option X) → option_or a b ≡ None → (a ≡ None) × (b ≡ None)
or_none None b h = (refl, h)
or_none (Some x) b h = cc

pub if_none : (b : Bool) (why : Reason) → reason_if b why ≡ None → b ≡ false
if_none true why h = cc
if_none false why h = refl

pub if_not_none : (b : Bool) (why : Reason) → reason_if (not b) why ≡ None → b ≡ true
if_not_none true why h = refl
if_not_none false why h = cc

pub map_none : {X Y : Type 0} (f : X → Y) (o : Option X) → option_map f o ≡ None → o ≡ None
map_none f None h = refl
map_none f (Some x) h = cc

pub all_pass : {X : Type 0} (test : X → Bool) (xs : List X) → position (λ x. not (test x)) xs ≡ None → list_all test xs ≡ true
all_pass test xs h = list_all-position test xs ∙ ap (λ o. not (is_some o)) h

pub all_serve : (part : PhaseName) (case : Case) (a : Assignment) → serves_reason part case a ≡ None → list_all (serves case) (servers_with_places case a) ≡ true
all_serve part case a h = all_pass (serves case) (servers_with_places case a) (map_none _ (first_not_served case a) h)

needs_of : (part : PhaseName) (case : Case) (a : Assignment) (rs : List ℕ) → first_need part case a rs ≡ None → list_all (keeps_need case a) rs ≡ true
needs_of part case a [] h = refl
needs_of part case a (r ∷ rs) h =
    let parts = or_none _ _ h in
    and_from _ _ (keeps-no_loss case a r ∙ ap (λ o. not (is_some o)) (map_none _ (first_loss case a r) parts.0)) (needs_of part case a rs parts.1)

pub all_keep : (part : PhaseName) (case : Case) (a : Assignment) → need_reason part case a ≡ None → list_all (keeps_need case a) (all_reservations case) ≡ true
all_keep part case a h = needs_of part case a (all_reservations case) h

same-protection : (p q : Protection) → same_protection p q ≡ true → p ≡ q
same-protection protection.Total protection.Total h = refl
same-protection protection.Total protection.Board h = cc
same-protection protection.Total protection.Center h = cc
same-protection protection.Board protection.Total h = cc
same-protection protection.Board protection.Board h = refl
same-protection protection.Board protection.Center h = cc
same-protection protection.Center protection.Total h = cc
same-protection protection.Center protection.Board h = cc
same-protection protection.Center protection.Center h = refl

-- no reservation's protection is another one
pub same_protections : (r : ℕ) (ps : List Protection) (wants : List Want) → length ps ≡ length wants → first_other r ps wants ≡ None → ps ≡ map (λ (w : Want). w.protection) wants
same_protections r [] [] all h = refl
same_protections r [] (w ∷ ws) all h = absurd (omega (arith, all))
same_protections r (p ∷ ps) [] all h = absurd (omega (arith, all))
same_protections r (p ∷ ps) (w ∷ ws) all h =
    let parts = or_none (reason_if (not (same_protection p w.protection)) (reason.Protection r)) _ h in
    ap₂ (λ (q : Protection) (qs : List Protection). q ∷ qs) (same-protection p w.protection (if_not_none (same_protection p w.protection) (reason.Protection r) parts.0))
    (same_protections (r + 1) ps ws (omega (arith, all)) parts.1)

same-number : (x y : ℕ) (rest : Option ℕ) → cond (x == y) rest (Some 0) ≡ None → (x ≡ y) × (rest ≡ None)
same-number x y rest h = by (x == y) refl h
  where
    by : (b : Bool) → (x == y) ≡ b → cond b rest (Some 0) ≡ None → (x ≡ y) × (rest ≡ None)
    by true e h = (eqb-true x y e, h)
    by false e h = cc

pub no_difference : (xs ys : List ℕ) → first_difference xs ys ≡ None → xs ≡ ys
no_difference [] [] h = refl
no_difference [] (y ∷ ys) h = cc
no_difference (x ∷ xs) [] h = cc
no_difference (x ∷ xs) (y ∷ ys) h =
    let parts = same-number x y _ h in
    let rest = no_difference xs ys (map_none _ (first_difference xs ys) parts.1) in
    cc
