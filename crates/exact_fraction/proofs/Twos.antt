-- Greatest common divisors by halves and differences.
use Rattle.std.proofs.Common.{◌≡◌, ℕ, zero, suc, ◌+◌, ◌-◌, ◌*◌, ◌/◌, ◌%◌, ◌<◌, ◌≤◌, ◌^◌, min, sym, ap, subst, ◌∙◌, arith, ◌⊎◌, inl, inr, w64}
use Rattle.std.specs.Int.{IsGcd, ◌∣◌, bit_at, trailing_zeros, abs_diff}
use Rattle.std.proofs.lemmas.Nat.{pow-add}
use Rattle.std.proofs.lemmas.Nat.Bits.{bit_at-suc, bit_at_lowest, bit_at-trailing_zeros}
use Rattle.std.proofs.lemmas.Nat.Gcd.{IsGcd-swap, IsGcd-from_sub, dvd_trans, le_of_dvd}
use Rattle.std.proofs.Math.Nat.{dvd-mod_iff, dvd-mul_right_of_dvd, one-dvd, mul-dvd-mul_right, div-mul_cancel}
use Rattle.exact_fraction.proofs.Coprime.{AreCoprime, coprime-mul, divides_other, common}

one_more : (k : ℕ) → 2 ^ k * 2 ≡ 2 ^ suc k
one_more k = let e : k + 1 ≡ suc k = omega arith in sym (pow-add 2 k 1) ∙ ap (λ (m : ℕ). 2 ^ m) e

low_zeros_divide : (k n : ℕ) → ((i : ℕ) → i < k → bit_at n i ≡ 0) → 2 ^ k ∣ n
low_zeros_divide zero n h = one-dvd n
low_zeros_divide (suc k) n h =
    let half : 2 ^ k ∣ n / 2 = low_zeros_divide k (n / 2) (λ i p. sym (bit_at-suc n i) ∙ h (suc i) (omega arith)) in
    let even : n % 2 ≡ 0 = sym (bit_at_lowest n) ∙ h 0 (omega arith) in
    let whole : n / 2 * 2 ≡ n = omega arith in
    subst (λ m. 2 ^ suc k ∣ m) whole (subst (λ m. m ∣ n / 2 * 2) (one_more k) (mul-dvd-mul_right (2 ^ k) half 2))

pub odd_left : (n : ℕ) → 0 < n → n < 2 ^ 64 → n / 2 ^ trailing_zeros w64 n % 2 ≡ 1
odd_left n some fits = (bit_at-trailing_zeros w64 n some fits).1

pub twos_divide : (n k : ℕ) → 0 < n → n < 2 ^ 64 → k ≤ trailing_zeros w64 n → 2 ^ k ∣ n
twos_divide n k some fits most = low_zeros_divide k n (λ i p. (bit_at-trailing_zeros w64 n some fits).2 i (omega arith))

odd_two : (x : ℕ) → x % 2 ≡ 1 → AreCoprime x 2
odd_two x odd e p q = subst (λ m. e ∣ m) odd ((dvd-mod_iff e q).1 p)

odd_pow : (k x : ℕ) → x % 2 ≡ 1 → AreCoprime x (2 ^ k)
odd_pow zero x odd = λ e p q. q
odd_pow (suc k) x odd = subst (λ m. AreCoprime x m) (one_more k) (coprime-mul x (2 ^ k) 2 (odd_pow k x odd) (odd_two x odd))

twos_out : (x k m n g : ℕ) → x % 2 ≡ 1 → m * 2 ^ k ≡ n → IsGcd x m g → IsGcd x n g
twos_out x k m n g odd is h = (
  h.0,
  subst (λ z. g ∣ z) is (dvd-mul_right_of_dvd g h.1 (2 ^ k)),
  λ d p q. h.2 d p (divides_other d (2 ^ k) m (λ e a b. odd_pow k x odd e (dvd_trans e a p) b) (subst (λ z. d ∣ z) (sym is ∙ omega arith) q)),
)

-- an odd number has no factor 2 in common with another
pub with_twos : (n x g : ℕ) → 0 < n → n < 2 ^ 64 → x % 2 ≡ 1 → IsGcd x (n / 2 ^ trailing_zeros w64 n) g → IsGcd x n g
with_twos n x g some fits odd h = twos_out x (trailing_zeros w64 n) (n / 2 ^ trailing_zeros w64 n) n g odd (div-mul_cancel (2 ^ trailing_zeros w64 n) (twos_divide n (trailing_zeros w64 n) some fits (omega arith))) h

either_way : (x y : ℕ) → (x ≤ y) ⊎ (y ≤ x)
either_way x y = grind arith

-- one step by a difference, from the smaller number and the difference
pub by_difference : (x y m d g : ℕ) → m ≡ min x y → d ≡ abs_diff x y → IsGcd m d g → IsGcd x y g
by_difference x y m d g is_m is_d h =
    elim (either_way x y) [
      | inl p ↦
          let e : m ≡ x = omega arith in
          let f : d ≡ y - x = omega arith in
          IsGcd-swap _ _ _ (IsGcd-from_sub y x g p (IsGcd-swap _ _ _ (subst (λ z. IsGcd x z g) f (subst (λ z. IsGcd z d g) e h))))
      | inr p ↦
          let e : m ≡ y = omega arith in
          let f : d ≡ x - y = omega arith in
          IsGcd-from_sub x y g p (IsGcd-swap _ _ _ (subst (λ z. IsGcd y z g) f (subst (λ z. IsGcd z d g) e h)))
    ]

pub least_odd : (x y m : ℕ) → m ≡ min x y → x % 2 ≡ 1 → y % 2 ≡ 1 → m % 2 ≡ 1
least_odd x y m is p q =
    elim (either_way x y) [
      | inl r ↦ let e : m ≡ x = omega arith in ap (λ z. z % 2) e ∙ p
      | inr r ↦ let e : m ≡ y = omega arith in ap (λ z. z % 2) e ∙ q
    ]

within : (m : ℕ) → m < 2 ^ 64 → m ≡ m % 2 ^ 64
within m h = omega arith

-- a common factor 2 ^ k is one of the greatest common divisor
pub shifted_back : (a b k g : ℕ) → 0 < a → a < 2 ^ 64 → 2 ^ k ∣ a → 2 ^ k ∣ b → IsGcd (a / 2 ^ k) (b / 2 ^ k) g → IsGcd a b (g * 2 ^ k % 2 ^ 64)
shifted_back a b k g some fits p q h =
    let is_a : a / 2 ^ k * 2 ^ k ≡ a = div-mul_cancel (2 ^ k) p in
    let is_b : b / 2 ^ k * 2 ^ k ≡ b = div-mul_cancel (2 ^ k) q in
    let left : g * 2 ^ k ∣ a = subst (λ z. g * 2 ^ k ∣ z) is_a (mul-dvd-mul_right g h.0 (2 ^ k)) in
    let right : g * 2 ^ k ∣ b = subst (λ z. g * 2 ^ k ∣ z) is_b (mul-dvd-mul_right g h.1 (2 ^ k)) in
    let whole : IsGcd a b (g * 2 ^ k) = (left, right, λ d x y. common (b / 2 ^ k) (a / 2 ^ k) (b / 2 ^ k) g (2 ^ k) d (omega arith) h (subst (λ z. d ∣ z) (sym is_a) x) (subst (λ z. d ∣ z) (sym is_b) y)) in
    let low : g * 2 ^ k ≤ a = le_of_dvd some left in
    subst (λ z. IsGcd a b z) (within (g * 2 ^ k) (omega arith)) whole
