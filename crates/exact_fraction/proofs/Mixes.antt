-- Lemmas for the code's parts.
use Rattle.std.proofs.Common.{◌≡◌, ℕ, zero, suc, ◌≤◌, ℤ, ◌+ℤ◌, ◌*ℤ◌, sym, ap, subst, ◌∙◌, arith, Option, Some, None}
use Rattle.std.specs.Int.{IsGcd, ◌∣◌}
use Rattle.std.specs.Option.{SomeIff}
use Rattle.std.proofs.lemmas.Nat.Gcd.{le_of_dvd, mod-eq-zero_of_dvd}
use Rattle.exact_fraction.specs.Sizes.{IsSmall}
use Rattle.exact_fraction.specs.Exact.{MixFits}

pub mix_from : (r : Option ℤ) (a d c b l m : ℤ) → IsSmall (a *ℤ d) → IsSmall (c *ℤ b) → l ≡ a *ℤ d → m ≡ c *ℤ b → SomeIff r (IsSmall (l +ℤ m)) (l +ℤ m) → SomeIff r (MixFits a d c b) (a *ℤ d +ℤ c *ℤ b)
mix_from None a d c b l m p q is_l is_m h = λ fits. h (subst (λ z. IsSmall (z +ℤ m)) (sym is_l) (subst (λ z. IsSmall (a *ℤ d +ℤ z)) (sym is_m) fits.sum))
mix_from (Some x) a d c b l m p q is_l is_m h = (record { left = p; right = q; sum = subst (λ z. IsSmall (a *ℤ d +ℤ z)) is_m (subst (λ z. IsSmall (z +ℤ m)) is_l h.0) }, h.1 ∙ ap (λ z. z +ℤ m) is_l ∙ ap (λ z. a *ℤ d +ℤ z) is_m)

no_zero_divisor : (b : ℕ) → 1 ≤ b → 0 ∣ b → ⊥
no_zero_divisor b h d = let e = mod-eq-zero_of_dvd 0 d in omega arith

pub gcd_above_none : (a b g : ℕ) → 1 ≤ b → IsGcd a b g → 1 ≤ g
gcd_above_none a b zero h is = absurd (no_zero_divisor b h is.1)
gcd_above_none a b (suc g) h is = omega arith

pub gcd_most : (a b g m : ℕ) → 1 ≤ b → b ≤ m → IsGcd a b g → g ≤ m
gcd_most a b g m h k is = let p = le_of_dvd (omega arith) is.1 in omega arith
