-- Numbers with no common divisor but 1.
use Rattle.std.proofs.Common.{◌≡◌, ℕ, zero, suc, ◌+◌, ◌*◌, ◌/◌, ◌%◌, ◌≤◌, sym, ap, subst, arith, ◌⊎◌, inl, inr}
use Rattle.std.specs.Int.{IsGcd, ◌∣◌}
use Rattle.std.proofs.lemmas.Nat.Gcd.{IsGcd-from_zero, same_from_IsGcd, dvd_trans}
use Rattle.std.proofs.Math.Nat.{dvd-mod_iff, dvd-add_iff_right, dvd-mul_left_of_dvd, one-dvd, dvd-mul_right, dvd_of_mul-dvd-mul_right, mul-dvd-mul_right}

with_rest : (a b g : ℕ) → IsGcd a b g → IsGcd b (a % b) g
with_rest a b g h = (h.1, (dvd-mod_iff g h.1).1 h.0, λ d p q. h.2 d ((dvd-mod_iff d p).0 q) p)

none_or_some : (b : ℕ) → (b ≡ 0) ⊎ (1 ≤ b)
none_or_some b = grind arith

quotient_and_rest : (a b c : ℕ) → 1 ≤ b → (a / b) * (b * c) + (a % b) * c ≡ a * c
quotient_and_rest a b c h = let e : (a / b) * b + a % b ≡ a = omega arith in omega (arith, ap (λ n. n * c) e)

-- what divides both products divides the product of the greatest common divisor
pub common : (n a b g c e : ℕ) → b ≤ n → IsGcd a b g → e ∣ a * c → e ∣ b * c → e ∣ g * c
common zero a b g c e p h x y =
    let is = same_from_IsGcd a b g a h (IsGcd-from_zero a b (omega arith)) in
    subst (λ m. e ∣ m * c) (sym is) x
common (suc n) a b g c e p h x y =
    elim (none_or_some b) [
      | inl q ↦ let is = same_from_IsGcd a b g a h (IsGcd-from_zero a b q) in subst (λ m. e ∣ m * c) (sym is) x
      | inr q ↦
          let rest : e ∣ (a % b) * c = (dvd-add_iff_right e (dvd-mul_left_of_dvd e y (a / b))).1 (subst (λ m. e ∣ m) (sym (quotient_and_rest a b c q)) x) in
          common n b (a % b) g c e (omega arith) (with_rest a b g h) y rest
    ]

abbrev pub AreCoprime : ℕ → ℕ → Type 0
AreCoprime a b = (e : ℕ) → e ∣ a → e ∣ b → e ∣ 1

pub gcd_one : (a b : ℕ) → AreCoprime a b → IsGcd a b 1
gcd_one a b h = (one-dvd a, one-dvd b, h)

-- a divisor of a product that has no common divisor with one factor divides the other
pub divides_other : (e a c : ℕ) → AreCoprime e a → e ∣ a * c → e ∣ c
divides_other e a c h x = subst (λ m. e ∣ m) (omega arith) (common a e a 1 c e (omega arith) (gcd_one e a h) (dvd-mul_right e c) x)

pub coprime-mul : (a b c : ℕ) → AreCoprime a b → AreCoprime a c → AreCoprime a (b * c)
coprime-mul a b c h k e x y =
    let other : AreCoprime e b = λ d p q. h d (dvd_trans d p x) q in
    k e x (divides_other e b c other y)

pub divided_coprime : (a b g : ℕ) → 1 ≤ g → IsGcd (a * g) (b * g) g → AreCoprime a b
divided_coprime a b g some h e x y =
    let d : e * g ∣ g = h.2 (e * g) (mul-dvd-mul_right e x g) (mul-dvd-mul_right e y g) in
    dvd_of_mul-dvd-mul_right {k = g} e (omega arith) (subst (λ m. e * g ∣ m) (omega arith) d)
