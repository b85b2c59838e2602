-- Denominators that divide a number, and numerators over it.
use Rattle.std.proofs.Common.{◌≡◌, ℕ, zero, suc, ◌*◌, ◌/◌, ◌≤◌, ◌^◌, ℤ, pos, negsuc, ◌*ℤ◌, ◌<ℤ◌, ◌≤ℤ◌, unsigned_abs, refl, sym, ap, subst, ◌∙◌, arith, ◌⊎◌}
use Rattle.std.proofs.lemmas.Int.{ints, unsigned_abs-mul}
use Rattle.std.specs.Int.{IsGcd, ◌∣◌}
use Rattle.std.proofs.lemmas.Nat.Gcd.{le_of_dvd}
use Rattle.std.proofs.Math.Nat.{dvd-mul_left, dvd-mul_right, mul-dvd-mul_left, mul-dvd-mul_right, dvd_of_mul-dvd-mul_right, div-mul_cancel, eq_of_mul-eq-mul_right}
use Rattle.exact_fraction.specs.declared.fraction.Fraction.{Fraction}
use Rattle.exact_fraction.specs.Exact.{IsRatio}
use Rattle.exact_fraction.proofs.Coprime.{AreCoprime, common, divides_other}
use Rattle.exact_simplex.specs.Commons.{IsLeastMultiple, IsNumOver}

-- a divisor of a number from 1 on is from 1 on
pub divisor_some : (g b : ℕ) → g ∣ b → 1 ≤ b → 1 ≤ g
divisor_some zero b h some = let e = div-mul_cancel 0 h in absurd (omega (arith, e))
divisor_some (suc g) b h some = omega arith

either_order : (a b : ℕ) → (a ≤ b) ⊎ (b ≤ a)
either_order a b = grind arith

product_some : (a b : ℕ) → 1 ≤ a → 1 ≤ b → 1 ≤ a * b
product_some zero b p q = absurd (omega arith)
product_some (suc a) zero p q = absurd (omega arith)
product_some (suc a) (suc b) p q = omega arith

-- what a and b divide, a times b over their greatest common divisor divides
least_of_both : (a b g p q d : ℕ) → 1 ≤ g → IsGcd a b g → a ≡ p * g → b ≡ q * g → a ∣ d → b ∣ d → a * q ∣ d
least_of_both a b g p q d some h is_a is_b x y =
    let left : a * b ∣ a * d = mul-dvd-mul_left b a y in
    let right : a * b ∣ b * d = subst (λ m. a * b ∣ m) (omega arith) (mul-dvd-mul_right a x b) in
    let both : a * b ∣ g * d = common b a b g d (a * b) (omega arith) h left right in
    let same : a * b ≡ (a * q) * g = ap (λ n. a * n) is_b ∙ omega arith in
    dvd_of_mul-dvd-mul_right {k = g} (a * q) (omega arith) (subst (λ m. m ∣ d * g) same (subst (λ m. a * b ∣ m) (omega arith) both))

moved : (a b g p q : ℕ) → a ≡ p * g → b ≡ q * g → p * b ≡ a * q
moved a b g p q is_a is_b = ap (λ n. p * n) is_b ∙ exchange p q g ∙ ap (λ n. n * q) (sym is_a)
  where
    exchange : (p q g : ℕ) → p * (q * g) ≡ (p * g) * q
    exchange p q g = omega arith

pub least_multiple : (a b g : ℕ) → 1 ≤ a → 1 ≤ b → IsGcd a b g → a * (b / g) ≤ 2 ^ 60 → IsLeastMultiple a b (a * (b / g))
least_multiple a b g some_a some_b h most =
    let some_g = divisor_some g b h.1 some_b in
    let is_a = sym (div-mul_cancel g h.0) in
    let is_b = sym (div-mul_cancel g h.1) in
    let some_q = divisor_some (b / g) b (subst (λ m. b / g ∣ m) (sym is_b) (dvd-mul_right (b / g) g)) some_b in
    record {
      some = product_some a (b / g) some_a some_q;
      most = most;
      left = dvd-mul_right a (b / g);
      right = subst (λ m. b ∣ m) (moved a b g (a / g) (b / g) is_a is_b) (dvd-mul_left b (a / g));
      least = λ d x y. least_of_both a b g (a / g) (b / g) d some_g h is_a is_b x y;
    }

pub no_multiple : (a b g d : ℕ) → 1 ≤ a → 1 ≤ b → IsGcd a b g → (a * (b / g) ≤ 2 ^ 60 → ⊥) → 1 ≤ d → d ≤ 2 ^ 60 → a ∣ d → b ∣ d → ⊥
no_multiple a b g d some_a some_b h wide some most x y =
    let some_g = divisor_some g b h.1 some_b in
    let is_a = sym (div-mul_cancel g h.0) in
    let is_b = sym (div-mul_cancel g h.1) in
    let le = le_of_dvd some (least_of_both a b g (a / g) (b / g) d some_g h is_a is_b x y) in
    wide (le_chain le most)
  where
    le_chain : {x y z : ℕ} → x ≤ y → y ≤ z → x ≤ z
    le_chain p q = omega arith

-- the denominator of a fraction in lowest terms divides every denominator of the same number
pub lowest_divides : (f : Fraction) (z : ℤ) (d : ℕ) → IsRatio f.num f.den z (pos d) → unsigned_abs f.den ∣ d
lowest_divides f z d is =
    let sizes : unsigned_abs f.num * d ≡ unsigned_abs z * unsigned_abs f.den = sym (unsigned_abs-mul f.num (pos d)) ∙ ap unsigned_abs is ∙ unsigned_abs-mul z f.den in
    let apart : AreCoprime (unsigned_abs f.den) (unsigned_abs f.num) = λ e p q. f.lowest.lowest.2 e q p in
    divides_other (unsigned_abs f.den) (unsigned_abs f.num) d apart (subst (λ m. unsigned_abs f.den ∣ m) (sym sizes) (dvd-mul_left (unsigned_abs f.den) (unsigned_abs z)))

size_back : (z : ℤ) → pos 0 ≤ℤ z → z ≡ pos (unsigned_abs z)
size_back (pos n) h = refl
size_back (negsuc n) h = absurd (omega (arith, ints))

scaled_num : (n own q den : ℕ) → q * own ≡ den → n * den ≡ (q * n) * own
scaled_num n own q den is = ap (λ m. n * m) (sym is) ∙ exchange n q own
  where
    exchange : (n q own : ℕ) → n * (q * own) ≡ (q * n) * own
    exchange n q own = omega arith

-- the numerator over a multiple of the denominator
pub num_is : (f : Fraction) (den : ℕ) → pos 0 ≤ℤ f.num → unsigned_abs f.den ∣ den → IsNumOver f ((den / unsigned_abs f.den) * unsigned_abs f.num) den
num_is f den above over =
    let own = unsigned_abs f.den in
    let n = unsigned_abs f.num in
    let same : n * den ≡ ((den / own) * n) * own = scaled_num n own (den / own) den (div-mul_cancel own over) in
    ap (λ z. z *ℤ pos den) (size_back f.num above) ∙ ap pos same ∙ ap (λ z. pos ((den / own) * n) *ℤ z) (sym f.lowest.den_is)

scaled_up : (m c : ℕ) → 1 ≤ c → m ≤ c * m
scaled_up m zero some = absurd (omega arith)
scaled_up m (suc c) some = omega arith

scaled_most : (n own q c num den d : ℕ) → q * own ≡ den → c * den ≡ d → 1 ≤ own → 1 ≤ c → n * d ≡ num * own → q * n ≤ num
scaled_most n own q c num den d is_den is_d some_own some_c sizes =
    let wide : (c * (q * n)) * own ≡ n * (c * (q * own)) = omega arith in
    let same : c * (q * n) ≡ num = eq_of_mul-eq-mul_right own (omega arith) (c * (q * n)) num (wide ∙ ap (λ m. n * (c * m)) is_den ∙ ap (λ m. n * m) is_d ∙ sizes) in
    let up = scaled_up (q * n) c some_c in
    omega arith

-- each numerator over a further multiple is at least that one
pub num_most : (f : Fraction) (den num d : ℕ) → unsigned_abs f.den ∣ den → 1 ≤ d → den ∣ d → IsNumOver f num d → (den / unsigned_abs f.den) * unsigned_abs f.num ≤ num
num_most f den num d over some more is =
    let is_d = div-mul_cancel den more in
    let sizes : unsigned_abs f.num * d ≡ num * unsigned_abs f.den = sym (unsigned_abs-mul f.num (pos d)) ∙ ap unsigned_abs is ∙ unsigned_abs-mul (pos num) f.den in
    let some_c = divisor_some (d / den) d (subst (λ m. d / den ∣ m) is_d (dvd-mul_right (d / den) den)) some in
    scaled_most (unsigned_abs f.num) (unsigned_abs f.den) (den / unsigned_abs f.den) (d / den) num den d (div-mul_cancel (unsigned_abs f.den) over) is_d f.lowest.den_above_none some_c sizes

-- a number below 0 has no numerator
pub no_num : (f : Fraction) (num d : ℕ) → f.num <ℤ pos 0 → 1 ≤ d → IsNumOver f num d → ⊥
no_num f num d below some is = by f.num below (is ∙ ap (λ z. pos num *ℤ z) f.lowest.den_is)
  where
    by : (z : ℤ) → z <ℤ pos 0 → z *ℤ pos d ≡ pos (num * unsigned_abs f.den) → ⊥
    by (pos n) h e = absurd (omega (arith, ints))
    by (negsuc n) h e = let p = product_some (suc n) d (omega arith) some in omega (arith, ints)
