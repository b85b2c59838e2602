-- Which flags stand when those of the members of some classes are cleared.
use Rattle.std.proofs.Common.{◌≡◌, ℕ, zero, suc, Bool, true, false, cond, List, [], ◌∷◌, set, arith, ap, refl, ◌⊎◌, inl, inr}
use Rattle.std.specs.Prelude.{not}
use Rattle.symmetry_classes.specs.declared.groups.Class.{Class as Group}
use Rattle.ras_rounds.specs.Mends.{Has, HasMember, has_flag, clear, cleared, kept_classes}

set-off : (flags : List Bool) (m s : ℕ) → has_flag (set flags m false) s ≡ true → (has_flag flags s ≡ true) × (s ≡ m → ⊥)
set-off [] m s h = absurd cc
set-off (f ∷ flags) zero zero h = absurd cc
set-off (f ∷ flags) zero (suc s) h = (h, λ e. absurd (omega (arith, e)))
set-off (f ∷ flags) (suc m) zero h = (h, λ e. absurd (omega (arith, e)))
set-off (f ∷ flags) (suc m) (suc s) h = let r = set-off flags m s h in (r.0, λ e. r.1 (omega (arith, e)))

set-on : (flags : List Bool) (m s : ℕ) → has_flag flags s ≡ true → (s ≡ m) ⊎ (has_flag (set flags m false) s ≡ true)
set-on [] m s h = absurd cc
set-on (f ∷ flags) zero zero h = inl refl
set-on (f ∷ flags) zero (suc s) h = inr h
set-on (f ∷ flags) (suc m) zero h = inr h
set-on (f ∷ flags) (suc m) (suc s) h = up (set-on flags m s h)
  where
    up : (s ≡ m) ⊎ (has_flag (set flags m false) s ≡ true) → (suc s ≡ suc m) ⊎ (has_flag (set flags m false) s ≡ true)
    up (inl e) = inl (ap suc e)
    up (inr k) = inr k

pub clear-off : (members : List ℕ) (flags : List Bool) (s : ℕ) → has_flag (clear members flags) s ≡ true → (has_flag flags s ≡ true) × (Has s members → ⊥)
clear-off [] flags s h = (h, λ e. e)
clear-off (m ∷ members) flags s h =
    let r = clear-off members (set flags m false) s h in
    let one = set-off flags m s r.0 in
    (one.0, either one.1 r.1)
  where
    either : (s ≡ m → ⊥) → (Has s members → ⊥) → (s ≡ m) ⊎ Has s members → ⊥
    either f g (inl e) = f e
    either f g (inr i) = g i

pub clear-on : (members : List ℕ) (flags : List Bool) (s : ℕ) → has_flag flags s ≡ true → Has s members ⊎ (has_flag (clear members flags) s ≡ true)
clear-on [] flags s h = inr h
clear-on (m ∷ members) flags s h = by (set-on flags m s h) (clear-on members (set flags m false) s)
  where
    rest : Has s members ⊎ (has_flag (clear members (set flags m false)) s ≡ true)
        → ((s ≡ m) ⊎ Has s members) ⊎ (has_flag (clear members (set flags m false)) s ≡ true)
    rest (inl i) = inl (inr i)
    rest (inr k) = inr k

    by : (s ≡ m) ⊎ (has_flag (set flags m false) s ≡ true)
        → (has_flag (set flags m false) s ≡ true → Has s members ⊎ (has_flag (clear members (set flags m false)) s ≡ true))
        → ((s ≡ m) ⊎ Has s members) ⊎ (has_flag (clear members (set flags m false)) s ≡ true)
    by (inl e) f = inl (inl e)
    by (inr k) f = rest (f k)

pub cleared-off : (touched : Group → Bool) (classes : List Group) (flags : List Bool) (s : ℕ) → has_flag (cleared touched classes flags) s ≡ true
    → (has_flag flags s ≡ true) × (HasMember s (kept_classes touched classes) → ⊥)
cleared-off touched [] flags s h = (h, λ e. e)
cleared-off touched (class ∷ classes) flags s h = by (touched class) (cleared-off touched classes _ s h)
  where
    either : (Has s class.members → ⊥) → (HasMember s (kept_classes touched classes) → ⊥) → Has s class.members ⊎ HasMember s (kept_classes touched classes) → ⊥
    either f g (inl e) = f e
    either f g (inr i) = g i

    by : (b : Bool) → (has_flag (cond b flags (clear class.members flags)) s ≡ true) × (HasMember s (kept_classes touched classes) → ⊥)
        → (has_flag flags s ≡ true) × (HasMember s (cond (not b) (class ∷ kept_classes touched classes) (kept_classes touched classes)) → ⊥)
    by true r = r
    by false r = let one = clear-off class.members flags s r.0 in (one.0, either one.1 r.1)

pub cleared-on : (touched : Group → Bool) (classes : List Group) (flags : List Bool) (s : ℕ) → has_flag flags s ≡ true
    → HasMember s (kept_classes touched classes) ⊎ (has_flag (cleared touched classes flags) s ≡ true)
cleared-on touched [] flags s h = inr h
cleared-on touched (class ∷ classes) flags s h =
    by (touched class) (λ fs k. cleared-on touched classes fs s k)
  where
    rest : (fs : List Bool) → HasMember s (kept_classes touched classes) ⊎ (has_flag (cleared touched classes fs) s ≡ true)
        → (Has s class.members ⊎ HasMember s (kept_classes touched classes)) ⊎ (has_flag (cleared touched classes fs) s ≡ true)
    rest fs (inl i) = inl (inr i)
    rest fs (inr k) = inr k

    kept : Has s class.members ⊎ (has_flag (clear class.members flags) s ≡ true)
        → ((fs : List Bool) → has_flag fs s ≡ true → HasMember s (kept_classes touched classes) ⊎ (has_flag (cleared touched classes fs) s ≡ true))
        → (Has s class.members ⊎ HasMember s (kept_classes touched classes)) ⊎ (has_flag (cleared touched classes (clear class.members flags)) s ≡ true)
    kept (inl i) f = inl (inl i)
    kept (inr k) f = rest (clear class.members flags) (f (clear class.members flags) k)

    by : (b : Bool) → ((fs : List Bool) → has_flag fs s ≡ true → HasMember s (kept_classes touched classes) ⊎ (has_flag (cleared touched classes fs) s ≡ true))
        → HasMember s (cond (not b) (class ∷ kept_classes touched classes) (kept_classes touched classes))
        ⊎ (has_flag (cleared touched classes (cond b flags (clear class.members flags))) s ≡ true)
    by true f = f flags h
    by false f = kept (clear-on class.members flags s h) f
